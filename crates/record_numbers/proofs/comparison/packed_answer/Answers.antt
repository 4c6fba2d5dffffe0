-- Each case of the answer, packed.
use Rattle.std.specs.Prelude.{Err, Result}
use mathlib.Core.Path.{sym, ◌∙◌, ap, subst}
use Prim.Native.Nat.{ℕ, ◌+◌, ◌*◌}
use native.Mathlib.Omega.{arith}
use Rattle.record_report.specs.Compared.{compared_answer}
use Rattle.answer_numbers.specs.Packing.{top_byte, packed}
use Rattle.record_numbers.specs.ComparisonBounds.{Tellable}
use Rattle.record_numbers.proofs.comparison.packed_answer.Goals as goal
use Rattle.record_report.specs.declared.Incomparable.{Incomparable}

pub overflow_add-number : goal.overflow_add-number
overflow_add-number c =
    let told = subst Tellable (c.in-Err-Second.is ∙ ap Err (rw c.in-Err-Second.is at c.in-Err-Second.field-0-is)) c.requires in
    omega (arith, told.one_byte, c.number-in-Err-Second.ensures)

pub returns-in-Err-First : goal.returns-in-Err-First
returns-in-Err-First c =
    c.refused.ensures ∙ ap (λ (k : ℕ). k * top_byte + 0) c.number.ensures
    ∙ ap (λ (a : Result ℕ Incomparable). packed (compared_answer a)) (sym (c.in-Err-First.is ∙ ap Err (rw c.in-Err-First.is at c.in-Err-First.field-0-is)))

pub returns-in-Err-Second : goal.returns-in-Err-Second
returns-in-Err-Second c =
    c.refused-in-Err-Second.ensures ∙ ap (λ (k : ℕ). (k + 30) * top_byte + 0) c.number-in-Err-Second.ensures
    ∙ ap (λ (a : Result ℕ Incomparable). packed (compared_answer a)) (sym (c.in-Err-Second.is ∙ ap Err (rw c.in-Err-Second.is at c.in-Err-Second.field-0-is)))
