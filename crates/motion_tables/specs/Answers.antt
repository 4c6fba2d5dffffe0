-- What is asked of the group of a symbol or a record: its refusal, or what `finite_group` answers on the cells of its table.
use Rattle.std.specs.Prelude.{List, ℕ, ◌*◌, Err, Ok, Result}
use Rattle.operation.specs.Answer as answer
use Rattle.symbol_group.specs.Answers.{order_of}
use Rattle.symbol_group.specs.Refusals as symbol
use Rattle.symbol_group.specs.declared.refusal.Refusal as symbol-refusal
use Rattle.group_record.specs.Reading.{refusal_number}
use Rattle.group_record.specs.declared.Refusal as record-refusal
use Rattle.group_table.specs.Tables.{symbol_cells, order_of_record, record_cells}
use Rattle.finite_group.specs.Answers as group
use Rattle.table_check.specs.declared.Refusal as table-refusal
use Rattle.motion_tables.specs.declared.Filled.{Filled}
use Rattle.motion_tables.specs.declared.Refusal.{Refusal}
use Rattle.group_record.specs.declared.Refusal.{Refusal as RecordRefusal}
use Rattle.symbol_group.specs.declared.refusal.Refusal.{Refusal as SymbolRefusal}
use Rattle.table_check.specs.declared.Refusal.{Refusal as TableRefusal}

-- ---- in numbers
-- The number and the place of a symbol's refusal, of a record's, and of one that a table has.
abbrev pub symbol_refusal : symbol-refusal.Refusal → Refusal
symbol_refusal r = record { number = symbol.number_of r; place = symbol.place_of r }

abbrev pub record_refusal : record-refusal.Refusal → Refusal
record_refusal r = record { number = refusal_number r; place = 0 }

abbrev pub table_refusal : table-refusal.Refusal → Refusal
table_refusal r = record { number = group.number_of r; place = group.place_of r }

-- What an answer on the group of a symbol or a record says.
abbrev pub motion_answer : Result ℕ Refusal → answer.Answer ℕ answer.Nothing
motion_answer (Ok v) = answer.given v
motion_answer (Err r) = answer.refused r.number r.place tt

-- ---- on the order of a group, or a refusal
-- What is answered on a table, as an answer of this room.
abbrev pub of_table : Result ℕ TableRefusal → Result ℕ Refusal
of_table (Ok v) = Ok v
of_table (Err r) = Err (table_refusal r)

abbrev pub on_source : Result ℕ Refusal → (ℕ → Result ℕ TableRefusal) → Result ℕ Refusal
on_source (Ok n) f = of_table (f n)
on_source (Err r) f = Err r

-- Lent bytes: a refusal of the symbol or of the record leaves them as they are.
abbrev pub bytes_on : Result ℕ Refusal → List ℕ → (ℕ → List ℕ) → List ℕ
bytes_on (Ok n) lent f = f n
bytes_on (Err r) lent f = lent

-- Where the table of such a group ends; without one it has no cells.
abbrev pub end_of : Result ℕ Refusal → ℕ
end_of (Ok n) = n * n
end_of (Err r) = 0

abbrev pub filled_from : Result ℕ Refusal → Filled
filled_from s = record { source = s; end = end_of s }

-- ---- on a symbol
-- What is asked of the order and the table of an accepted symbol; or its refusal.
abbrev pub of_symbol : Result ℕ SymbolRefusal → Result ℕ Refusal
of_symbol (Ok n) = Ok n
of_symbol (Err r) = Err (symbol_refusal r)

abbrev pub on_symbol : List ℕ → (ℕ → List ℕ → Result ℕ TableRefusal) → Result ℕ Refusal
on_symbol text f = on_source (of_symbol (order_of text)) (λ n. f n (symbol_cells text))

abbrev pub bytes_on_symbol : List ℕ → List ℕ → (ℕ → List ℕ → List ℕ) → List ℕ
bytes_on_symbol text lent f = bytes_on (of_symbol (order_of text)) lent (λ n. f n (symbol_cells text))

-- ---- on a record
-- What is asked of the order and the table of a record that is read; or its refusal.
abbrev pub of_record : Result ℕ RecordRefusal → Result ℕ Refusal
of_record (Ok n) = Ok n
of_record (Err r) = Err (record_refusal r)

abbrev pub on_record : List ℕ → (ℕ → List ℕ → Result ℕ TableRefusal) → Result ℕ Refusal
on_record bytes f = on_source (of_record (order_of_record bytes)) (λ n. f n (record_cells bytes))

abbrev pub bytes_on_record : List ℕ → List ℕ → (ℕ → List ℕ → List ℕ) → List ℕ
bytes_on_record bytes lent f = bytes_on (of_record (order_of_record bytes)) lent (λ n. f n (record_cells bytes))
