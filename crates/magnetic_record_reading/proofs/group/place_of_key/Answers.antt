use native.Mathlib.Omega.{arith}
use Rattle.magnetic_record_reading.specs.Search.{lower-half, upper-half}
use Rattle.magnetic_record_reading.proofs.group.place_of_key.Goals as goal

pub loop-low-init : goal.loop-low-init
loop-low-init c = record { order = omega arith; within = omega arith; below = λ i h. absurd (omega arith); above = λ i h k. absurd (omega arith) }

pub overflow_add-middle : goal.overflow_add-middle
overflow_add-middle c = omega (arith, c.requires.few, c.loop-low.invariant.within)

pub key_at-requires : goal.key_at-requires
key_at-requires c = omega (arith, c.requires.inside, c.loop-low.invariant.within)

pub overflow_add-low : goal.overflow_add-low
overflow_add-low c = omega (arith, c.requires.few, c.loop-low.invariant.within)

pub loop-low-preserved-then-key_at-key : goal.loop-low-preserved-then-key_at-key
loop-low-preserved-then-key_at-key c =
    let key = c.key_at.ensures in
    upper-half c.args.n c.args.bytes.now c.requires c.args.key c.loop-low.low c.loop-low.high _ c.loop-low.invariant (omega arith) (omega (arith, key))

pub loop-low-preserved : goal.loop-low-preserved
loop-low-preserved c =
    let key = c.key_at.ensures in
    lower-half c.args.n c.args.bytes.now c.requires c.args.key c.loop-low.low c.loop-low.high _ c.loop-low.invariant (omega arith) (omega (arith, key))
    (omega arith)

pub returns : goal.returns
returns c =
    record {
      within = omega (arith, c.loop-low.invariant.order, c.loop-low.invariant.within);
      below = c.loop-low.invariant.below;
      above = λ i h k.
          c.loop-low.invariant.above i (omega arith) k;
    }
