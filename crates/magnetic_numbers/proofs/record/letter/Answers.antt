-- By what was read.
use Rattle.std.specs.Prelude.{Result, ℕ}
use mathlib.Core.Path.{sym, ◌∙◌, ap}
use Rattle.magnetic_record.specs.Answers.{magnetic_letter_answer}
use Rattle.answer_numbers.specs.Packing.{packed}
use Rattle.magnetic_numbers.proofs.record.letter.Goals as goal
use Rattle.centering.specs.declared.Centering.{Centering}
use Rattle.group_record.specs.declared.Refusal.{Refusal}

pub returns-in-Ok : goal.returns-in-Ok
returns-in-Ok c =
    c.byte.ensures
    ∙ ap (λ (a : Result (Centering × ℕ) Refusal). packed (magnetic_letter_answer a))
    (sym c.in-Ok.is ∙ c.read_record.ensures)

pub returns-in-Err : goal.returns-in-Err
returns-in-Err c =
    c.refused_record.ensures
    ∙ ap (λ (a : Result (Centering × ℕ) Refusal). packed (magnetic_letter_answer a))
    (sym c.in-Err.is ∙ c.read_record.ensures)
