use native.Mathlib.Omega.{arith}
use Rattle.record_report.specs.Cursors.{kind_of_difference, step-within}
use Rattle.record_report.specs.Writing.{counted_start, counted_next, counted-end}
use Rattle.record_report.proofs.entries.report_length.Goals as goal

pub loop-i-init : goal.loop-i-init
loop-i-init c = counted_start c.args.first.now c.args.second.now c.args.n c.args.m

pub overflow_add-i : goal.overflow_add-i
overflow_add-i c = omega (arith, c.loop-i.invariant.within, c.loop-i.invariant.inside)

pub difference_at-difference-requires : goal.difference_at-difference-requires
difference_at-difference-requires c = (c.loop-i.invariant.within, c.loop-i.invariant.inside, c.loop-i-test.true, c.requires.2, c.requires.3)

pub with_entry-size-requires : goal.with_entry-size-requires
with_entry-size-requires c = omega
    (arith, c.loop-i.invariant.within, c.loop-i.invariant.inside, c.loop-i.invariant.short)

pub past-requires : goal.past-requires
past-requires c = (omega (arith, c.loop-i.invariant.within), omega (arith, c.loop-i.invariant.inside))

pub loop-i-smaller : goal.loop-i-smaller
loop-i-smaller c =
    let within = step-within c.args.first.now c.args.second.now c.args.n c.args.m c.loop-i.i c.loop-i.j c.loop-i.invariant.within c.loop-i.invariant.inside
    c.loop-i-test.true (kind_of_difference c.difference_at-difference.result) c.difference_at-difference.ensures in
    omega (arith, within, c.past.ensures.0, c.past.ensures.1)

pub loop-i-preserved : goal.loop-i-preserved
loop-i-preserved c =
    rw (c.with_entry-size.ensures, c.past.ensures.0, c.past.ensures.1)
    (counted_next c.args.first.now c.args.second.now c.args.n c.args.m c.loop-i.size c.loop-i.i c.loop-i.j
    (kind_of_difference c.difference_at-difference.result) c.loop-i.invariant
    c.loop-i-test.true c.difference_at-difference.ensures)

pub returns : goal.returns
returns c = counted-end c.args.first.now c.args.second.now c.args.n
    c.args.m c.loop-i.size c.loop-i.i c.loop-i.j c.loop-i.invariant (omega (arith, c.loop-i-test.false))
