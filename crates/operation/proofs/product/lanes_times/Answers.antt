-- Three digits and a byte: each lane holds its own product.
use mathlib.Core.Path.{◌∙◌, ap₂}
use Prim.Native.Nat.{◌*◌}
use native.Mathlib.Omega.{arith}
use native.Mathlib.Nat.{mul-le-mul}
use Rattle.operation.specs.Lanes.{lanes-times}
use Rattle.operation.proofs.product.lanes_times.Goals as goal

pub overflow_mul-result : goal.overflow_mul-result
overflow_mul-result c =
    record {
      fits =
          omega (arith, mul-le-mul {n₁ = c.lanes.result} {m₁ = c.from.result} {n₂ = 1121502395105535} {m₂ = 255} (omega arith) (omega arith));
    }

pub returns : goal.returns
returns c =
    let a = c.args in (
      ap₂ ◌*◌ c.lanes.ensures.0 c.from.ensures ∙ lanes-times a.x a.y a.z a.a,
      mul-le-mul {n₂ = 1121502395105535} {m₂ = 255} (omega arith) (omega arith),
    )
