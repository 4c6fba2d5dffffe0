-- Each lane holds its own product.
use mathlib.Core.Path.{◌∙◌, ap}
use Prim.Native.Nat.{ℕ, ◌*◌}
use native.Mathlib.Omega.{arith}
use native.Mathlib.Nat.{mul-le-mul}
use Rattle.operation.specs.Lanes.{lanes-times}
use Rattle.packed_operation.specs.Number.{digit_lanes}
use Rattle.packed_operation.proofs.scaled.Goals as goal

pub overflow_mul-result : goal.overflow_mul-result
overflow_mul-result c =
    record {
      fits =
          omega (
            arith,
            mul-le-mul {n₁ = c.digits.result} {m₁ = c.args.a} {n₂ = 13194145824771} {m₂ = 3171} c.digits.ensures.1
                c.requires,
          );
    }

pub returns : goal.returns
unfolding digit_lanes
returns c =
    let a = c.args.a in (
      ap (λ (d : ℕ). d * a) c.digits.ensures.0 ∙ lanes-times _ _ _ a,
      mul-le-mul {n₂ = 13194145824771} {m₂ = 3171} c.digits.ensures.1 c.requires,
    )
