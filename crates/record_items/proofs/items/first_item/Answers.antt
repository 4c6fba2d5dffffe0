-- Five bytes, by their places.
use Prim.Native.Nat.{◌+◌}
use native.Mathlib.Omega.{arith}
use Rattle.group_record.specs.FirstEdition.{first-item-bytes}
use Rattle.record_items.proofs.items.first_item.Goals as goal

pub overflow_cast-code : goal.overflow_cast-code
overflow_cast-code c = omega (arith, c.shared_slice_known-1.given c.args.at)

pub overflow_mul-code : goal.overflow_mul-code
overflow_mul-code c = omega (arith, c.shared_slice_known-1.given c.args.at)

pub overflow_cast-code-2 : goal.overflow_cast-code-2
overflow_cast-code-2 c = omega (arith, c.shared_slice_known-2-1.given (c.args.at + 1))

pub overflow_add-code-2 : goal.overflow_add-code-2
overflow_add-code-2 c =
    omega (arith, c.shared_slice_known-1.given c.args.at, c.shared_slice_known-2-1.given (c.args.at + 1))

pub returns : goal.returns
returns c = first-item-bytes c.args.bytes.now c.args.at
