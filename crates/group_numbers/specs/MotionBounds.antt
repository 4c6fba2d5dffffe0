-- What is answered on the group of a symbol or a record can be packed if it can on every table: the refusals of symbols and records can be told.
use Rattle.std.specs.Prelude.{◌≡◌, refl, List, ℕ, Err, Ok, Result}
use Rattle.std.proofs.Common.{sym, subst}
use Rattle.symbol_group.specs.Answers.{symbol_answer, order_by, order_of}
use Rattle.symbol_group.specs.declared.Answer as symbol
use Rattle.symbol_group.specs.declared.Answer.TheVariants as symbol-variant
use Rattle.group_record.specs.Reading.{read_of}
use Rattle.group_record.specs.declared.Reading.{Reading}
use Rattle.group_record.specs.declared.Reading.TheVariants as reading
use Rattle.group_table.specs.Tables.{order_of_record_by, order_of_record, symbol_cells, record_cells}
use Rattle.motion_tables.specs.Answers.{motion_answer, of_table, on_source, of_symbol, on_symbol, of_record, on_record}
use Rattle.answer_numbers.specs.Packing.{Within, Low}
use Rattle.record_numbers.specs.RecordBounds.{record-told}
use Rattle.symbol_numbers.specs.SymbolBounds.{symbol-told}
use Rattle.table_numbers.specs.TableBounds.{Packable}
use Rattle.motion_tables.specs.declared.Refusal.{Refusal}
use Rattle.table_check.specs.declared.Refusal.{Refusal as TableRefusal}

-- An answer that can be packed.
abbrev pub Tellable : Result ℕ Refusal → Type 0
Tellable a = Within Low (motion_answer a)

-- What is asked for one of two equal answers is had from the other.
pub tellable-as : {a b : Result ℕ Refusal} → a ≡ b → Tellable b → Tellable a
tellable-as e k = subst (λ (a : Result ℕ Refusal). Tellable a) (sym e) k

-- An answer on a table is handed on as it is.
table-tellable : (a : Result ℕ TableRefusal) → Packable a → Tellable (of_table a)
table-tellable (Ok n) h = h
table-tellable (Err r) h = h

-- ---- symbols
pub on-symbol : (text : List ℕ) (f : ℕ → List ℕ → Result ℕ TableRefusal) → ((n : ℕ) (t : List ℕ) → Packable (f n t)) → Tellable (on_symbol text f)
unfolding order_of
on-symbol text f h = by_answer (symbol_answer text).answer refl
  where
    by_answer : (a : symbol.Answer) → (symbol_answer text).answer ≡ a
        → Tellable (on_source (of_symbol (order_by a (symbol_answer text).count)) (λ n. f n (symbol_cells text)))
    by_answer symbol-variant.Group e = table-tellable (f (symbol_answer text).count (symbol_cells text)) (h (symbol_answer text).count (symbol_cells text))
    by_answer (symbol-variant.Refused r) e = symbol-told text r e

-- ---- records
pub on-record : (bytes : List ℕ) (f : ℕ → List ℕ → Result ℕ TableRefusal) → ((n : ℕ) (t : List ℕ) → Packable (f n t)) → Tellable (on_record bytes f)
unfolding order_of_record
on-record bytes f h = by_answer (read_of bytes).answer
  where
    by_answer : (a : Reading) → Tellable (on_source (of_record (order_of_record_by a (read_of bytes).count)) (λ n. f n (record_cells bytes)))
    by_answer reading.Accepted = table-tellable (f (read_of bytes).count (record_cells bytes)) (h (read_of bytes).count (record_cells bytes))
    by_answer (reading.Refused r) = record-told r
