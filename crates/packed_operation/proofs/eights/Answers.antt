-- The key is no more than the number.
use mathlib.Core.Path.{ap}
use Prim.Native.Nat.{ℕ, ◌-◌}
use native.Mathlib.Omega.{arith}
use Rattle.packed_operation.specs.Fields.{key_below}
use Rattle.packed_operation.specs.Rows.{eights_of}
use Rattle.packed_operation.proofs.eights.Goals as goal

pub overflow_sub-result : goal.overflow_sub-result
overflow_sub-result c = omega (arith, c.key.ensures.0, key_below c.args.n)

pub returns : goal.returns
unfolding eights_of
returns c = ap (λ (k : ℕ). c.args.n - k) c.key.ensures.0
