-- Two bytes, each below 256, make the code.
use Prim.Native.Nat.{◌+◌, ◌*◌}
use native.Mathlib.Omega.{arith}
use Rattle.record_report.specs.Cursors.{code-bytes}
use Rattle.record_report.proofs.cursors.item_code.Goals as goal

pub overflow_cast-result : goal.overflow_cast-result
overflow_cast-result c = omega (arith, c.shared_slice_known-1.given (5 * c.args.i))

pub overflow_mul-result : goal.overflow_mul-result
overflow_mul-result c = omega (arith, c.shared_slice_known-1.given (5 * c.args.i))

pub overflow_cast-result-2 : goal.overflow_cast-result-2
overflow_cast-result-2 c = omega (arith, c.shared_slice_known-2-1.given (5 * c.args.i + 1))

pub overflow_add-result-2 : goal.overflow_add-result-2
overflow_add-result-2 c = omega (
  arith,
  c.shared_slice_known-1.given (5 * c.args.i),
  c.shared_slice_known-2-1.given
      (5 * c.args.i + 1),
)

pub returns : goal.returns
returns c = code-bytes c.args.bytes.now c.args.i
