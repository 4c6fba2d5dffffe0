-- Each case of the answer, packed.
use Rattle.std.specs.Prelude.{Ok}
use mathlib.Core.Path.{sym, ◌∙◌, ap}
use Prim.Native.Nat.{ℕ, ◌+◌, ◌*◌, ◌%◌}
use Rattle.test_operations.specs.Packed.{packed_operation}
use Rattle.test_operations.proofs.symbol_operation.Goals as goal

pub returns-in-Ok-Some : goal.returns-in-Ok-Some
returns-in-Ok-Some c =
    ap (λ (n : ℕ). n * 4096 + c.in-Ok-Some.o.translation.x % 16 * 256 + c.in-Ok-Some.o.translation.y % 16 * 16 + c.in-Ok-Some.o.translation.z % 16)
    c.rotation_code.ensures ∙
    ap packed_operation (sym (c.in-Ok-Some.is ∙ ap Ok c.in-Ok-Some.field-0-is)
    ∙ c.operation_at.ensures)

pub returns-in-Ok-None : goal.returns-in-Ok-None
returns-in-Ok-None c = ap packed_operation (sym (c.in-Ok-None.is ∙ ap Ok c.in-Ok-None.field-0-is) ∙ c.operation_at.ensures)

pub returns-in-Err : goal.returns-in-Err
returns-in-Err c = ap packed_operation (sym c.in-Err.is ∙ c.operation_at.ensures)
