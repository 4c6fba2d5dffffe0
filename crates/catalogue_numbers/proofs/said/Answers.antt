-- The count, or the number and the place, and one more.
use Rattle.std.specs.Prelude.{Err, Result}
use mathlib.Core.Path.{sym, ◌∙◌, ap, ap₂, subst}
use Prim.Native.Nat.{ℕ, ◌+◌, ◌*◌}
use native.Mathlib.Omega.{arith}
use Rattle.record_writing.specs.SymbolRecords.{symbol_record_answer}
use Rattle.catalogue.specs.Answers.{line}
use Rattle.catalogue_numbers.specs.CatalogueBounds.{Short}
use Rattle.catalogue_numbers.specs.Catalogues.{said_number}
use Rattle.catalogue_numbers.proofs.said.Goals as goal
use Rattle.record_writing.specs.declared.Unwritten.{Unwritten}
use Rattle.symbol_group.specs.declared.refusal.Refusal.{Refusal}

pub overflow_add-result : goal.overflow_add-result
overflow_add-result c =
    let few = subst (λ (w : Result ℕ (Unwritten Refusal)). Short (line (symbol_record_answer w))) c.in-Ok.is c.requires in
    omega arith

pub overflow_add-result-in-Err-Refused : goal.overflow_add-result-in-Err-Refused
overflow_add-result-in-Err-Refused c =
    let close = subst (λ (w : Result ℕ (Unwritten Refusal)). Short (line (symbol_record_answer w))) (c.in-Err-Refused.is
    ∙ ap Err (rw c.in-Err-Refused.is at c.in-Err-Refused.field-0-is))
    c.requires in
    omega (arith, c.number.ensures, c.place.ensures, close.one_byte, close.at_most)

pub overflow_add-result-in-Err-Refused-2 : goal.overflow_add-result-in-Err-Refused-2
overflow_add-result-in-Err-Refused-2 c =
    let close = subst (λ (w : Result ℕ (Unwritten Refusal)). Short (line (symbol_record_answer w))) (c.in-Err-Refused.is
    ∙ ap Err (rw c.in-Err-Refused.is at c.in-Err-Refused.field-0-is))
    c.requires in
    omega (arith, c.number.ensures, c.place.ensures, close.one_byte, close.at_most)

pub returns-in-Ok : goal.returns-in-Ok
returns-in-Ok c = ap (λ (w : Result ℕ (Unwritten Refusal)). said_number (line (symbol_record_answer w))) (sym c.in-Ok.is)

pub returns-in-Err-Refused : goal.returns-in-Err-Refused
returns-in-Err-Refused c =
    ap₂ (λ (n p : ℕ). n * 256 + p + 1) c.number.ensures c.place.ensures
    ∙ ap (λ (w : Result ℕ (Unwritten Refusal)). said_number (line (symbol_record_answer w)))
    (sym (c.in-Err-Refused.is ∙ ap Err (rw c.in-Err-Refused.is at c.in-Err-Refused.field-0-is)))
