-- Each case of the answer, packed.
use Rattle.std.specs.Prelude.{Err, Result}
use mathlib.Core.Path.{sym, ◌∙◌, ap, subst}
use Rattle.hall_token.specs.Answers.{Reduced}
use Rattle.operation_line.specs.Answers.{answer_of}
use Rattle.line_numbers.specs.LineBounds.{read-within}
use Rattle.answer_numbers.specs.Packing.{packed, mapped, operation_number, Within, told-whole}
use Rattle.line_numbers.proofs.read_line.Goals as goal
use Rattle.operation.specs.declared.Operation.{Operation}
use Rattle.operation_line.specs.declared.ReadingRefusal.{ReadingRefusal}

pub returns-in-Ok : goal.returns-in-Ok
returns-in-Ok c =
    c.operation_number.ensures
    ∙ ap (λ (a : Result Operation ReadingRefusal). packed (mapped operation_number (answer_of a)))
    (sym c.in-Ok.is ∙ c.read_line.ensures)

pub returns-in-Err-TooLong : goal.returns-in-Err-TooLong
returns-in-Err-TooLong c =
    c.refused.ensures
    ∙ ap (λ (a : Result Operation ReadingRefusal). packed (mapped operation_number (answer_of a)))
    (sym (c.in-Err-TooLong.is ∙ ap Err c.in-Err-TooLong.field-0-is) ∙ c.read_line.ensures)

pub returns-in-Err-Misspelt : goal.returns-in-Err-Misspelt
returns-in-Err-Misspelt c =
    let misspelt = sym c.read_line.ensures ∙ (c.in-Err-Misspelt.is ∙ ap Err c.in-Err-Misspelt.field-0-is) in
    c.refused-in-Err-Misspelt.ensures ∙ told-whole (subst (λ (a : Result Operation ReadingRefusal). Within Reduced (answer_of a)) misspelt (read-within _))
    ∙ ap (λ (a : Result Operation ReadingRefusal). packed (mapped operation_number (answer_of a)))
    (sym (c.in-Err-Misspelt.is ∙ ap Err c.in-Err-Misspelt.field-0-is) ∙ c.read_line.ensures)

pub returns-in-Err-Determinant : goal.returns-in-Err-Determinant
returns-in-Err-Determinant c =
    c.refused-in-Err-Determinant.ensures
    ∙ ap (λ (a : Result Operation ReadingRefusal). packed (mapped operation_number (answer_of a)))
    (sym (c.in-Err-Determinant.is ∙ ap Err c.in-Err-Determinant.field-0-is) ∙ c.read_line.ensures)
