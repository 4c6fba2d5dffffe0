-- Each case of the answer, packed.
use Rattle.std.specs.Prelude.{Ok, Result}
use mathlib.Core.Path.{sym, ◌∙◌, ap, subst}
use native.Mathlib.Omega.{arith}
use Rattle.list_check.specs.Told.{checked_answer}
use Rattle.answer_numbers.specs.Packing.{packed, mapped, Within, told-whole}
use Rattle.symbol_numbers.specs.ListBounds.{said_number, Sayable, checked-within}
use Rattle.symbol_numbers.proofs.list.check_list.Goals as goal
use Rattle.list_check.specs.declared.Verdict.{Verdict}
use Rattle.list_check.specs.declared.refusal.Refusal.{Refusal}

pub overflow_add-result : goal.overflow_add-result
overflow_add-result c =
    let few = subst (λ (a : Result Verdict Refusal). Within Sayable (checked_answer a)) (sym c.check_list.ensures
    ∙ (c.in-Ok-Entry.is ∙ ap Ok c.in-Ok-Entry.field-0-is))
    (checked-within _ _) in
    omega arith

pub returns-in-Ok-Yes : goal.returns-in-Ok-Yes
returns-in-Ok-Yes c = ap (λ (a : Result Verdict Refusal). packed (mapped said_number (checked_answer a)))
    (sym (c.in-Ok-Yes.is ∙ ap Ok c.in-Ok-Yes.field-0-is) ∙ c.check_list.ensures)

pub returns-in-Ok-Entry : goal.returns-in-Ok-Entry
returns-in-Ok-Entry c = ap (λ (a : Result Verdict Refusal). packed (mapped said_number (checked_answer a)))
    (sym (c.in-Ok-Entry.is ∙ ap Ok c.in-Ok-Entry.field-0-is) ∙ c.check_list.ensures)

pub returns-in-Ok-Missing : goal.returns-in-Ok-Missing
returns-in-Ok-Missing c =
    ap (λ (a : Result Verdict Refusal). packed (mapped said_number (checked_answer a)))
    (sym (c.in-Ok-Missing.is ∙ ap Ok c.in-Ok-Missing.field-0-is) ∙ c.check_list.ensures)

pub returns-in-Err : goal.returns-in-Err
returns-in-Err c =
    let refused = sym c.check_list.ensures ∙ c.in-Err.is in
    let told = subst (λ (a : Result Verdict Refusal). Within Sayable (checked_answer a)) refused (checked-within _ _) in
    c.refused_list.ensures ∙ told-whole told ∙ ap (λ (a : Result Verdict Refusal). packed (mapped said_number (checked_answer a))) (sym refused)
