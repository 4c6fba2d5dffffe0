-- Each case of the answer, packed.
use mathlib.Core.Path.{sym, ◌∙◌, ap, ap₂}
use Prim.Native.Nat.{ℕ, ◌+◌, ◌*◌, ◌%◌}
use Rattle.test_operations.specs.Packed.{packed_order}
use Rattle.test_operations.proofs.symbol_order.Goals as goal

pub returns-in-Ok : goal.returns-in-Ok
returns-in-Ok c = ap packed_order (sym c.in-Ok.is ∙ c.order.ensures)

pub returns-in-Err : goal.returns-in-Err
returns-in-Err c =
    ap₂ (λ (n p : ℕ). n * 65536 + p % 65536) c.number.ensures c.place.ensures ∙
    ap packed_order (sym c.in-Err.is ∙ c.order.ensures)
