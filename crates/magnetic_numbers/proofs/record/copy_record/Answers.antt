-- The answer, packed, and the lent buffer as it was left.
use Rattle.std.specs.Prelude.{Result, ℕ}
use Rattle.answer_numbers.specs.Packing.{packed}
use Rattle.record_writing.specs.Copying.{copy_answer}
use mathlib.Core.Path.{◌∙◌, ap}
use Rattle.magnetic_numbers.proofs.record.copy_record.Goals as goal
use Rattle.record_writing.specs.declared.Unwritten.{Unwritten}
use Rattle.group_record.specs.declared.Refusal.{Refusal}

pub returns : goal.returns
returns c =
    (c.copied.ensures ∙ ap (λ (a : Result ℕ (Unwritten Refusal)). packed (copy_answer a)) c.copy_record.ensures.0, c.copy_record.ensures.1)
