-- Each case of the answer, packed, and the lent buffer as it was left.
use Rattle.std.specs.Prelude.{Err, Result, ℕ}
use mathlib.Core.Path.{sym, ◌∙◌, ap, subst}
use Rattle.record_writing.specs.LayerRecords.{layer_record_answer}
use Rattle.answer_numbers.specs.Packing.{packed, Within, Low, told-whole}
use Rattle.symbol_numbers.specs.LayerBounds.{record-within}
use Rattle.symbol_numbers.proofs.layer.write_record.Goals as goal
use Rattle.record_writing.specs.declared.Unwritten.{Unwritten}
use Rattle.layer_group.specs.declared.refusal.Refusal.{Refusal}

pub returns-in-Ok : goal.returns-in-Ok
returns-in-Ok c =
    (ap (λ (a : Result ℕ (Unwritten Refusal)). packed (layer_record_answer a)) (sym c.in-Ok.is ∙ c.write_record.ensures.0), c.write_record.ensures.1)

pub returns-in-Err-NoRoom : goal.returns-in-Err-NoRoom
returns-in-Err-NoRoom c = (
  c.refused.ensures ∙ ap (λ (a : Result ℕ (Unwritten Refusal)). packed (layer_record_answer a))
      (sym (c.in-Err-NoRoom.is ∙ ap Err c.in-Err-NoRoom.field-0-is) ∙ c.write_record.ensures.0),
  c.write_record.ensures.1,
)

pub returns-in-Err-Refused : goal.returns-in-Err-Refused
returns-in-Err-Refused c =
    let refused = sym c.write_record.ensures.0 ∙ (c.in-Err-Refused.is ∙ ap Err c.in-Err-Refused.field-0-is) in
    let told = subst (λ (a : Result ℕ (Unwritten Refusal)). Within Low (layer_record_answer a)) refused (record-within _ _ _) in (
      c.refused_layer.ensures ∙ told-whole told
          ∙ ap (λ (a : Result ℕ (Unwritten Refusal)). packed (layer_record_answer a)) (sym refused),
      c.write_record.ensures.1,
    )
