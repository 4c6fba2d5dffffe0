use native.Mathlib.Omega.{arith}
use lib.ListN.{length-drop}
use Rattle.laws.specs.LentParts.{tail-part}
use Rattle.record_report.specs.Cursors.{kind_of_difference, step-within}
use Rattle.record_report.specs.Writing.{stored-start, next-room, stored_next, stored-end}
use Rattle.record_report.proofs.entries.put_entries.Goals as goal

pub loop-i-init : goal.loop-i-init
loop-i-init c = stored-start c.args.first.now c.args.second.now c.args.n c.args.m c.args.out.now

pub overflow_add-i : goal.overflow_add-i
overflow_add-i c = omega (arith, c.loop-i.invariant.counted.within, c.loop-i.invariant.counted.inside)

pub difference_at-difference-requires : goal.difference_at-difference-requires
difference_at-difference-requires c = (c.loop-i.invariant.counted.within, c.loop-i.invariant.counted.inside, c.loop-i-test.true, c.requires.2, c.requires.3)

pub slice_bounds-put_difference-count : goal.slice_bounds-put_difference-count
slice_bounds-put_difference-count c =
    omega (
      arith,
      next-room c.args.first.now c.args.second.now c.args.n c.args.m c.args.out.now c.loop-i.out c.loop-i.at
          c.loop-i.i c.loop-i.j (kind_of_difference c.difference_at-difference.result) c.loop-i.invariant c.loop-i-test.true c.difference_at-difference.ensures
          c.requires.4,
    )

pub slice_bounds-put_difference-start : goal.slice_bounds-put_difference-start
slice_bounds-put_difference-start c =
    omega (
      arith,
      next-room c.args.first.now c.args.second.now c.args.n c.args.m c.args.out.now c.loop-i.out c.loop-i.at
          c.loop-i.i c.loop-i.j (kind_of_difference c.difference_at-difference.result) c.loop-i.invariant c.loop-i-test.true c.difference_at-difference.ensures
          c.requires.4,
    )

pub slice_bounds-put_difference-end : goal.slice_bounds-put_difference-end
slice_bounds-put_difference-end c =
    omega (
      arith,
      next-room c.args.first.now c.args.second.now c.args.n c.args.m c.args.out.now c.loop-i.out c.loop-i.at
          c.loop-i.i c.loop-i.j (kind_of_difference c.difference_at-difference.result) c.loop-i.invariant c.loop-i-test.true c.difference_at-difference.ensures
          c.requires.4,
    )

pub put_difference-requires : goal.put_difference-requires
put_difference-requires c =
    let room = next-room c.args.first.now c.args.second.now c.args.n c.args.m c.args.out.now c.loop-i.out c.loop-i.at c.loop-i.i c.loop-i.j
    (kind_of_difference c.difference_at-difference.result)
    c.loop-i.invariant c.loop-i-test.true c.difference_at-difference.ensures c.requires.4 in (
      omega (arith, c.loop-i.invariant.counted.within, c.requires.2),
      omega (arith, c.loop-i.invariant.counted.inside, c.requires.3),
      rw (tail-part c.loop-i.out c.loop-i.at, length-drop)
          (omega arith),
    )

pub with_entry-at-requires : goal.with_entry-at-requires
with_entry-at-requires c = omega
    (arith, c.loop-i.invariant.counted.within, c.loop-i.invariant.counted.inside, c.loop-i.invariant.counted.short)

pub past-requires : goal.past-requires
past-requires c = (omega (arith, c.loop-i.invariant.counted.within), omega (arith, c.loop-i.invariant.counted.inside))

pub loop-i-smaller : goal.loop-i-smaller
loop-i-smaller c =
    let within = step-within c.args.first.now c.args.second.now c.args.n c.args.m c.loop-i.i c.loop-i.j c.loop-i.invariant.counted.within
    c.loop-i.invariant.counted.inside c.loop-i-test.true (kind_of_difference c.difference_at-difference.result) c.difference_at-difference.ensures in
    omega (arith, within, c.past.ensures.0, c.past.ensures.1)

pub loop-i-preserved : goal.loop-i-preserved
loop-i-preserved c =
    rw (c.with_entry-at.ensures, c.past.ensures.0, c.past.ensures.1)
    (stored_next c.args.first.now c.args.second.now c.args.n c.args.m c.args.out.now c.loop-i.out c.loop-i.at c.loop-i.i c.loop-i.j
    (kind_of_difference c.difference_at-difference.result)
    c.loop-i.invariant c.loop-i-test.true c.difference_at-difference.ensures c.requires.4 _
    c.put_difference.ensures (omega arith))

pub shape_of-out : goal.shape_of-out
shape_of-out c = c.loop-i.invariant.same_length

pub returns : goal.returns
returns c = stored-end c.args.first.now c.args.second.now
    c.args.n c.args.m c.args.out.now c.loop-i.out c.loop-i.at c.loop-i.i c.loop-i.j c.loop-i.invariant (omega (arith, c.loop-i-test.false))
