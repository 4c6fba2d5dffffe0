-- Each case of the answer, packed.
use Rattle.std.specs.Prelude.{Err, Result, ℕ}
use Rattle.answer_numbers.specs.Packing.{packed}
use Rattle.record_writing.specs.Copying.{copy_answer}
use mathlib.Core.Path.{sym, ◌∙◌, ap}
use Rattle.record_numbers.proofs.record.copied.Goals as goal
use Rattle.record_writing.specs.declared.Unwritten.{Unwritten}
use Rattle.group_record.specs.declared.Refusal.{Refusal}

pub returns-in-Err-Refused : goal.returns-in-Err-Refused
returns-in-Err-Refused c = c.refused_record.ensures
    ∙ ap (λ (a : Result ℕ (Unwritten Refusal)). packed (copy_answer a))
    (sym (c.in-Err-Refused.is ∙ ap Err (rw c.in-Err-Refused.is at c.in-Err-Refused.field-0-is)))
