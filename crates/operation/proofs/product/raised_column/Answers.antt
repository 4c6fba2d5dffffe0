-- The lanes of the difference are the differences of the lanes.
use mathlib.Core.Path.{◌∙◌}
use Prim.Native.Nat.{◌+◌, ◌*◌, ◌-◌}
use native.Mathlib.Omega.{arith}
use Rattle.operation.specs.Lanes.{raised-lanes}
use Rattle.operation.proofs.product.raised_column.Goals as goal

pub returns : goal.returns
returns c =
    let a = c.args in (
      (λ i. c.rows_times-2.ensures.0 i + (9024795744143364 - c.rows_times.ensures.0 i) -
          (c.from.ensures i + c.from-2.ensures i + c.from-3.ensures i) * 4398048608257) ∙
          raised-lanes a.r a.a a.b a.c (omega arith) (omega arith) (omega arith) (omega arith) (omega arith) (omega arith) (omega arith)
          (omega arith) (omega arith) (omega arith) (omega arith) (omega arith),
      omega arith,
    )
