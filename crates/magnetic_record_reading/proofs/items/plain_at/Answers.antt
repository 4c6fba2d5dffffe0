-- Five bytes, by their places.
use Prim.Native.Nat.{◌+◌, ◌*◌}
use native.Mathlib.Omega.{arith}
use Rattle.group_record.specs.FirstEdition.{first-item-bytes}
use Rattle.magnetic_record.specs.SecondEdition.{magnetic_in}
use Rattle.magnetic_record_reading.proofs.items.plain_at.Goals as goal

pub overflow_cast-code : goal.overflow_cast-code
overflow_cast-code c = omega (arith, c.shared_slice_known-1.given (6 * c.args.i))

pub overflow_mul-code : goal.overflow_mul-code
overflow_mul-code c = omega (arith, c.shared_slice_known-1.given (6 * c.args.i))

pub overflow_cast-code-2 : goal.overflow_cast-code-2
overflow_cast-code-2 c = omega (arith, c.shared_slice_known-2-1.given (6 * c.args.i + 1))

pub overflow_add-code-2 : goal.overflow_add-code-2
overflow_add-code-2 c =
    let at = 6 * c.args.i in
    omega (arith, c.shared_slice_known-1.given at, c.shared_slice_known-2-1.given (at + 1))

pub returns : goal.returns
unfolding magnetic_in
returns c = first-item-bytes c.args.bytes.now (6 * c.args.i)
