use mathlib.Core.Path.{◌∙◌, ap, ap₂}
use Prim.Native.Nat.{ℕ, ◌%◌, ◌<◌}
use native.Mathlib.Omega.{arith}
use lib.ListN.{length, length-set}
use Rattle.operation.specs.declared.Operation.{Operation}
use Rattle.packed_operation.specs.Number.{packed_of, narrowed}
use Rattle.group_record.specs.OperationItems.{operation_of_item}
use Rattle.magnetic_record_reading.specs.Search.{item_at}
use Rattle.magnetic_record_reading.specs.Numbers.{item-said, packed-next}
use Rattle.magnetic_record_reading.proofs.group.pack.Goals as goal

pub loop-i-init : goal.loop-i-init
loop-i-init c = (c.requires.1, λ k h. absurd (omega arith))

pub plain_at-requires : goal.plain_at-requires
plain_at-requires c = omega (arith, c.requires.0.inside)

pub flag_at-requires : goal.flag_at-requires
flag_at-requires c = omega (arith, c.requires.0.inside)

pub offset_bounds-numbers-i : goal.offset_bounds-numbers-i
offset_bounds-numbers-i c = omega (arith, c.requires.0.few)

pub bounds-numbers-i : goal.bounds-numbers-i
bounds-numbers-i c = omega (arith, c.requires.0.few)

pub loop-i-preserved : goal.loop-i-preserved
loop-i-preserved c =
    let plain = c.plain_at.ensures in
    let operation = c.operation_of_item.ensures ∙ ap operation_of_item plain in
    let made = c.number.ensures ∙ ap₂ (λ (o : Operation) (flag : ℕ). packed_of (narrowed o) (flag % 2)) operation c.flag_at.ensures in
    let said = item-said (item_at c.args.bytes.now c.loop-i.i) (c.requires.0.fits c.loop-i.i (omega arith)) (c.requires.0.flag c.loop-i.i (omega arith)) _
    made in
    let inside : c.loop-i.i < length c.loop-i.numbers = omega (arith, c.loop-i.invariant.0, c.requires.0.few) in (
      length-set c.loop-i.numbers c.loop-i.i _ ∙ c.loop-i.invariant.0,
      packed-next c.args.bytes.now c.loop-i.numbers c.loop-i.i _ inside c.loop-i.invariant.1 said,
    )

pub returns : goal.returns
returns c = λ k h. c.loop-i.invariant.1 k (omega arith)
