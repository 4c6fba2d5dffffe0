-- Four bytes, by their places: the number that they say is that of the definition.
use mathlib.Core.Path.{sym, ◌∙◌, ap}
use Prim.Native.Nat.{◌+◌}
use native.Mathlib.Omega.{arith}
use Rattle.group_record.specs.ThirdEdition.{third-item-bytes, numbered_item_in, item_of_number}
use Rattle.record_items.proofs.items.third_item.Goals as goal

pub overflow_cast-high : goal.overflow_cast-high
overflow_cast-high c = omega (arith, c.shared_slice_known-2-1.given c.args.at)

pub overflow_mul-high : goal.overflow_mul-high
overflow_mul-high c = omega (arith, c.shared_slice_known-2-1.given c.args.at)

pub overflow_cast-high-2 : goal.overflow_cast-high-2
overflow_cast-high-2 c = omega (arith, c.shared_slice_known-3-1.given (c.args.at + 1))

pub overflow_add-high-2 : goal.overflow_add-high-2
overflow_add-high-2 c =
    omega (arith, c.shared_slice_known-2-1.given c.args.at, c.shared_slice_known-3-1.given (c.args.at + 1))

pub overflow_cast-low : goal.overflow_cast-low
overflow_cast-low c = omega (arith, c.shared_slice_known-4-1.given (c.args.at + 2))

pub overflow_mul-low : goal.overflow_mul-low
overflow_mul-low c = omega (arith, c.shared_slice_known-4-1.given (c.args.at + 2))

pub overflow_cast-low-2 : goal.overflow_cast-low-2
overflow_cast-low-2 c = omega (arith, c.shared_slice_known-5-1.given (c.args.at + 3))

pub overflow_add-low-3 : goal.overflow_add-low-3
overflow_add-low-3 c =
    omega (arith, c.shared_slice_known-4-1.given (c.args.at + 2), c.shared_slice_known-5-1.given (c.args.at + 3))

pub overflow_mul-number : goal.overflow_mul-number
overflow_mul-number c =
    omega (arith, c.shared_slice_known-2-1.given c.args.at, c.shared_slice_known-3-1.given (c.args.at + 1))

pub overflow_add-number : goal.overflow_add-number
overflow_add-number c =
    omega (
      arith,
      c.shared_slice_known-2-1.given c.args.at,
      c.shared_slice_known-3-1.given (c.args.at + 1),
      c.shared_slice_known-4-1.given (c.args.at + 2),
      c.shared_slice_known-5-1.given (c.args.at + 3),
    )

pub returns : goal.returns
unfolding numbered_item_in
returns c =
    c.item_of_number.ensures ∙ ap item_of_number (sym (third-item-bytes c.args.bytes.now c.args.at))
