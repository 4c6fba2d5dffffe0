-- Each case of the answer.
use Rattle.std.specs.Prelude.{Err, Result, ℕ}
use mathlib.Core.Path.{sym, ◌∙◌, ap}
use Rattle.record_writing.specs.SymbolRecords.{symbol_record_answer}
use Rattle.answer_numbers.specs.Packing.{told_answer}
use Rattle.symbol_numbers.proofs.symbol.written.Goals as goal
use Rattle.record_writing.specs.declared.Unwritten.{Unwritten}
use Rattle.symbol_group.specs.declared.refusal.Refusal.{Refusal}

pub returns-in-Err-Refused : goal.returns-in-Err-Refused
returns-in-Err-Refused c = c.refused_symbol.ensures
    ∙ ap (λ (a : Result ℕ (Unwritten Refusal)). told_answer (symbol_record_answer a))
    (sym (c.in-Err-Refused.is ∙ ap Err (rw c.in-Err-Refused.is at c.in-Err-Refused.field-0-is)))
