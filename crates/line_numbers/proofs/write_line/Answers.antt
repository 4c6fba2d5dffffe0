-- Each case of the answer, packed, and the lent buffer as it was left.
use Rattle.std.specs.Prelude.{ℕ, Err, Result}
use mathlib.Core.Path.{sym, ◌∙◌, ap}
use Rattle.operation_line.specs.Writing.{written_answer}
use Rattle.answer_numbers.specs.Packing.{packed}
use Rattle.line_numbers.proofs.write_line.Goals as goal
use Rattle.operation_line.specs.declared.WritingRefusal.{WritingRefusal}

pub returns-in-Ok : goal.returns-in-Ok
returns-in-Ok c =
    (ap (λ (a : Result ℕ WritingRefusal). packed (written_answer a)) (sym c.in-Ok.is ∙ c.write_line.ensures.0), c.write_line.ensures.1)

pub returns-in-Err-NoOperation : goal.returns-in-Err-NoOperation
returns-in-Err-NoOperation c = (
  c.refused.ensures ∙ ap (λ (a : Result ℕ WritingRefusal). packed (written_answer a))
      (sym (c.in-Err-NoOperation.is ∙ ap Err c.in-Err-NoOperation.field-0-is) ∙ c.write_line.ensures.0),
  c.write_line.ensures.1,
)

pub returns-in-Err-Determinant : goal.returns-in-Err-Determinant
returns-in-Err-Determinant c = (
  c.refused-in-Err-Determinant.ensures
      ∙ ap (λ (a : Result ℕ WritingRefusal). packed (written_answer a))
      (sym (c.in-Err-Determinant.is ∙ ap Err c.in-Err-Determinant.field-0-is) ∙ c.write_line.ensures.0),
  c.write_line.ensures.1,
)

pub returns-in-Err-NoRoom : goal.returns-in-Err-NoRoom
returns-in-Err-NoRoom c = (
  c.refused-in-Err-NoRoom.ensures
      ∙ ap (λ (a : Result ℕ WritingRefusal). packed (written_answer a))
      (sym (c.in-Err-NoRoom.is ∙ ap Err c.in-Err-NoRoom.field-0-is) ∙ c.write_line.ensures.0),
  c.write_line.ensures.1,
)
