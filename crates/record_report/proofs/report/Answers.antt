-- The letters decide; then the items are compared where they stand.
use native.Mathlib.Omega.{arith}
use Rattle.record_report.specs.Lent.{read-few, read-within, count-byte, lent_bounds, letters-differ, lent-report}
use Rattle.record_report.proofs.report.Goals as goal

pub overflow_sub-letter : goal.overflow_sub-letter
overflow_sub-letter c = omega (arith, read-within c.args.first.now c.requires.0)

pub bounds-first-first : goal.bounds-first-first
bounds-first-first c = omega (arith, read-within c.args.first.now c.requires.0)

pub overflow_sub-other : goal.overflow_sub-other
overflow_sub-other c = omega (arith, read-within c.args.second.now c.requires.1)

pub bounds-second-second : goal.bounds-second-second
bounds-second-second c = omega (arith, read-within c.args.second.now c.requires.1)

pub returns-then-letter-other : goal.returns-then-letter-other
returns-then-letter-other c =
    rw (letters-differ c.args.first.now c.args.second.now c.requires.0 c.requires.1 c.if-letter-other.true)
    c.report_letters.ensures

pub overflow_sub-n : goal.overflow_sub-n
overflow_sub-n c = omega (arith, read-within c.args.first.now c.requires.0)

pub bounds-first-first-2 : goal.bounds-first-first-2
bounds-first-first-2 c = omega (arith, read-within c.args.first.now c.requires.0)

pub overflow_cast-n : goal.overflow_cast-n
overflow_cast-n c = omega
    (arith, count-byte c.args.first.now c.requires.0, read-few c.args.first.now c.requires.0, read-within c.args.first.now c.requires.0)

pub overflow_sub-m : goal.overflow_sub-m
overflow_sub-m c = omega (arith, read-within c.args.second.now c.requires.1)

pub bounds-second-second-2 : goal.bounds-second-second-2
bounds-second-second-2 c = omega
    (arith, read-within c.args.second.now c.requires.1)

pub overflow_cast-m : goal.overflow_cast-m
overflow_cast-m c = omega
    (arith, count-byte c.args.second.now c.requires.1, read-few c.args.second.now c.requires.1, read-within c.args.second.now c.requires.1)

pub overflow_mul-start : goal.overflow_mul-start
overflow_mul-start c = omega
    (arith, count-byte c.args.first.now c.requires.0, read-few c.args.first.now c.requires.0, read-within c.args.first.now c.requires.0)

pub overflow_add-start : goal.overflow_add-start
overflow_add-start c = omega
    (arith, count-byte c.args.first.now c.requires.0, read-few c.args.first.now c.requires.0, read-within c.args.first.now c.requires.0)

pub overflow_sub-start : goal.overflow_sub-start
overflow_sub-start c = omega
    (arith, count-byte c.args.first.now c.requires.0, read-few c.args.first.now c.requires.0, read-within c.args.first.now c.requires.0)

pub overflow_mul-begin : goal.overflow_mul-begin
overflow_mul-begin c = omega
    (arith, count-byte c.args.second.now c.requires.1, read-few c.args.second.now c.requires.1, read-within c.args.second.now c.requires.1)

pub overflow_add-begin : goal.overflow_add-begin
overflow_add-begin c = omega
    (arith, count-byte c.args.second.now c.requires.1, read-few c.args.second.now c.requires.1, read-within c.args.second.now c.requires.1)

pub overflow_sub-begin : goal.overflow_sub-begin
overflow_sub-begin c = omega
    (arith, count-byte c.args.second.now c.requires.1, read-few c.args.second.now c.requires.1, read-within c.args.second.now c.requires.1)

pub report_entries-requires : goal.report_entries-requires
report_entries-requires c =
    let a = lent_bounds c.args.first.now c.requires.0 in
    let b = lent_bounds c.args.second.now c.requires.1 in
    (a.0, b.0, a.1, b.1)

pub returns : goal.returns
returns c =
    rw (lent-report c.args.first.now c.args.second.now c.requires.0 c.requires.1
    c.if-letter-other.false) c.report_entries.ensures
