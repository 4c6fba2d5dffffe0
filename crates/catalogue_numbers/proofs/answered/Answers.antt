-- What was taken and what is said, or the refusal.
use Rattle.std.specs.Prelude.{Ok, Result}
use mathlib.Core.Path.{◌≡◌, sym, ◌∙◌, ap, subst}
use Prim.Native.Nat.{ℕ, ◌+◌, ◌*◌}
use native.Mathlib.Omega.{arith}
use Rattle.record_writing.specs.SymbolRecords.{symbol_record_answer}
use Rattle.catalogue.specs.Answers.{line, catalogue_answer}
use Rattle.catalogue_numbers.specs.CatalogueBounds.{Tellable, said-low}
use Rattle.catalogue_numbers.specs.Catalogues.{step_number}
use Rattle.answer_numbers.specs.Packing.{packed, mapped}
use Rattle.catalogue_numbers.proofs.answered.Goals as goal
use Rattle.catalogue.specs.declared.Progress.{Progress}
use Rattle.catalogue.specs.declared.Refusal.{Refusal}

pub said-requires : goal.said-requires
said-requires c = (subst Tellable (c.in-Ok-Told.is ∙ ap Ok (rw c.in-Ok-Told.is at c.in-Ok-Told.field-0-is)) c.requires).1

pub overflow_mul-result : goal.overflow_mul-result
overflow_mul-result c =
    let told = subst Tellable (c.in-Ok-Told.is ∙ ap Ok (rw c.in-Ok-Told.is at c.in-Ok-Told.field-0-is)) c.requires in
    omega (arith, c.said.ensures, said-low (line (symbol_record_answer c.in-Ok-Told.written)) told.1)

pub overflow_add-result : goal.overflow_add-result
overflow_add-result c =
    let told = subst Tellable (c.in-Ok-Told.is ∙ ap Ok (rw c.in-Ok-Told.is at c.in-Ok-Told.field-0-is)) c.requires in
    omega (arith, c.said.ensures, said-low (line (symbol_record_answer c.in-Ok-Told.written)) told.1, told.0)

pub returns-in-Ok-NoLine : goal.returns-in-Ok-NoLine
returns-in-Ok-NoLine c =
    let alone : c.in-Ok-NoLine.taken ≡ c.in-Ok-NoLine.taken + 65536 * 0 = omega arith in
    alone ∙ ap (λ (a : Result Progress Refusal). packed (mapped step_number (catalogue_answer a)))
    (sym (c.in-Ok-NoLine.is ∙ ap Ok (rw c.in-Ok-NoLine.is at c.in-Ok-NoLine.field-0-is)))

pub returns-in-Ok-Told : goal.returns-in-Ok-Told
returns-in-Ok-Told c =
    ap (λ (n : ℕ). c.in-Ok-Told.taken + 65536 * n) c.said.ensures
    ∙ ap (λ (a : Result Progress Refusal). packed (mapped step_number (catalogue_answer a)))
    (sym (c.in-Ok-Told.is ∙ ap Ok (rw c.in-Ok-Told.is at c.in-Ok-Told.field-0-is)))
