-- The four tests in turn.
use Rattle.group_record.specs.BothEditions.{items-short}
use Rattle.group_record.specs.Rules.{length_fits}
use native.Mathlib.Omega.{arith}
use borrow.Author.Tests.{eq-eqb, ne_eqb, le-leb, lt-leb}
use Rattle.record_reading.proofs.reader.length_fits.Goals.{then-n-lt1-via-then-n-lt1, then-n-lt1-via-else-n-lt1+then-n-gt48}
use Rattle.record_reading.proofs.reader.length_fits.Goals as goal

pub returns-then-n-lt1 : goal.returns-then-n-lt1
unfolding length_fits
returns-then-n-lt1 c =
    elim c.then-n-lt1.branch [
      | then-n-lt1-via-then-n-lt1 w ↦ simp (lt-leb 1 c.args.n w.if-n-lt1.true)
      | then-n-lt1-via-else-n-lt1+then-n-gt48 w ↦ simp (le-leb 1 c.args.n w.if-n-lt1.false, lt-leb c.args.n 48 w.if-n-gt48.true)
    ]

pub overflow_add-total : goal.overflow_add-total
overflow_add-total c = omega (arith, c.items_length-total.ensures, items-short c.args.edition c.args.n (omega arith))

pub returns-then-stated-total : goal.returns-then-stated-total
unfolding length_fits
returns-then-stated-total c =
    simp (
      ← c.items_length-total.ensures,
      le-leb 1 c.args.n (omega arith),
      le-leb c.args.n 48 (omega arith),
      eq-eqb _ _ c.if-stated-total.true,
    )

pub returns-else-stated-total : goal.returns-else-stated-total
unfolding length_fits
returns-else-stated-total c =
    simp (
      ← c.items_length-total.ensures,
      le-leb 1 c.args.n (omega arith),
      le-leb c.args.n 48 (omega arith),
      ne_eqb _ _ c.if-stated-total.false,
    )
