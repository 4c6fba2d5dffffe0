-- The sums of three lanes are the lanes of the sums.
use mathlib.Core.Path.{◌∙◌}
use Prim.Native.Nat.{◌+◌}
use native.Mathlib.Omega.{arith}
use Rattle.packed_operation.specs.Number.{digit_lanes}
use Rattle.packed_operation.specs.Rows.{sum-lanes}
use Rattle.packed_operation.proofs.row_sums.Goals as goal

pub returns : goal.returns
unfolding digit_lanes
returns c = (
  (λ i. c.digits.ensures.0 i + c.digits-2.ensures.0 i + c.digits-3.ensures.0 i) ∙ sum-lanes _ _ _ _ _ _ _ _ _,
  omega arith,
)
