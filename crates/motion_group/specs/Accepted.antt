-- The tables of symbols and records are those of groups: the check of a table accepts them, and they fit the lent slots.
use Rattle.std.specs.Prelude.{◌≡◌, refl, List, ℕ, ◌*◌, ◌-◌, ◌≤◌, length, take, Err, Ok, Result}
use Rattle.std.proofs.Common.{sym, ◌∙◌, ap, subst, arith}
use Rattle.symbol_group.specs.Answers.{order_of}
use Rattle.group_record.specs.Acceptance.{Bytes}
use Rattle.group_record.specs.Reading.{read_of}
use Rattle.group_record.specs.declared.RecordGroup.{RecordGroup}
use Rattle.subgroup_laws.specs.Table.{GroupTable}
use Rattle.subgroup_laws.specs.TableCells.{square-limit}
use Rattle.group_table.specs.Overlay.{laid-front}
use Rattle.group_table.specs.Tables.{symbol_cells, order_of_record_by, order_of_record, record_cells, laid}
use Rattle.group_table_theorems.specs.TableAnswers.{symbol-cells-group, record-cells-group}
use Rattle.finite_group.specs.Answers.{identity_answer}
use Rattle.table_check.specs.CheckAnswers.{Accepts}
use Rattle.table_check.specs.TableVerdict.{accepted-exactly}
use Rattle.motion_tables.specs.Answers.{symbol_refusal, record_refusal, end_of, filled_from, of_symbol, of_record}
use Rattle.motion_tables.specs.Orders.{symbol_end, record-end}
use Rattle.motion_tables.specs.declared.Filled.{Filled}
use Rattle.motion_tables.specs.declared.Refusal.{Refusal}
use Rattle.motion_group.specs.Cells.{Holds}
use Rattle.group_record.specs.declared.Refusal.{Refusal as RecordRefusal}
use Rattle.symbol_group.specs.declared.refusal.Refusal.{Refusal as SymbolRefusal}

-- ---- the check
table-accepted : (n e : ℕ) (t : List ℕ) → GroupTable n t e → Accepts n t e
table-accepted n e t T = (accepted-exactly n t e).1 (omega (arith, T.group.identity-below), T.cells, T.group)

-- The check accepts the table of every accepted symbol, with element 0 as its identity,
pub symbol-table-accepted : (text : List ℕ) (n : ℕ) → order_of text ≡ Ok n → Accepts n (symbol_cells text) 0
symbol-table-accepted text n p = table-accepted n 0 (symbol_cells text) (symbol-cells-group text n p)

-- so the identity is known without it;
pub symbol-identity-first : (text : List ℕ) (n : ℕ) → order_of text ≡ Ok n → identity_answer n (symbol_cells text) ≡ Ok 0
symbol-identity-first text n p = rw (symbol-table-accepted text n p) refl

-- and that of every record that is read.
pub record-table-accepted : (bytes : List ℕ) → Bytes bytes → (n : ℕ) → order_of_record bytes ≡ Ok n → (e : ℕ) × Accepts n (record_cells bytes) e
record-table-accepted bytes b n p = (_, table-accepted n _ (record_cells bytes) (record-cells-group bytes b n p))

-- The order of a record is what was read.
pub order-read : (bytes : List ℕ) (g : RecordGroup) → g ≡ read_of bytes → order_of_record bytes ≡ order_of_record_by g.answer g.count
unfolding order_of_record
order-read bytes g e = ap (λ (h : RecordGroup). order_of_record_by h.answer h.count) (sym e)

-- ---- the slots
-- A part from the start on is so many first cells.
from_start : (k : ℕ) (l : List ℕ) → take (k - 0) l ≡ take k l
from_start k l = let same : k - 0 ≡ k = omega arith in ap (λ (j : ℕ). take j l) same

module _ (n e : ℕ) (table lent : List ℕ) (T : GroupTable n table e) (wide : 2304 ≤ length lent) where
  abbrev cells : List ℕ
  cells = laid table lent

  front : take (n * n) cells ≡ table
  front = subst (λ (k : ℕ). take k cells ≡ table) T.cells.size (laid-front table lent (omega (arith, T.cells.size, square-limit n T.cells.limit)))

  laid-holds : Holds (filled_from (Ok n)) table cells
  laid-holds = record { front = λ m same. from_start (n * n) cells ∙ front }

none-holds : (r : Refusal) (table cells : List ℕ) → Holds (filled_from (Err r)) table cells
none-holds r table cells = record { front = λ n e. let z : ◌≡◌ {A = ℕ} 0 1 = cc in absurd (omega arith) }

-- There are slots for the largest table.
pub every-slot : 2304 ≤ 2304
every-slot = omega arith

-- What was filled is what was given.
pub filled-holds : {given f : Filled} {table cells filled : List ℕ} → (given ≡ f) × (cells ≡ filled) → Holds f table filled
    → (given.source ≡ f.source) × Holds given table cells
filled-holds (e, same) h = (ap (λ (g : Filled). g.source) e, rw (e, same) h)

-- The slots hold the table of an accepted symbol,
pub symbol-holds : (text lent : List ℕ) → 2304 ≤ length lent → Holds (filled_from (of_symbol (order_of text))) (symbol_cells text)
    (laid (symbol_cells text) lent)
symbol-holds text lent wide = by_order (order_of text) refl
  where
    by_order : (o : Result ℕ SymbolRefusal) → order_of text ≡ o → Holds (filled_from (of_symbol o)) (symbol_cells text) (laid (symbol_cells text) lent)
    by_order (Ok n) p = laid-holds n 0 (symbol_cells text) lent (symbol-cells-group text n p) wide
    by_order (Err r) p = none-holds (symbol_refusal r) (symbol_cells text) (laid (symbol_cells text) lent)

-- and of a record that is read.
pub record-holds : (bytes lent : List ℕ) → Bytes bytes → 2304 ≤ length lent
    → Holds (filled_from (of_record (order_of_record bytes))) (record_cells bytes) (laid (record_cells bytes) lent)
record-holds bytes lent b wide = by_order (order_of_record bytes) refl
  where
    by_order : (o : Result ℕ RecordRefusal) → order_of_record bytes ≡ o
        → Holds (filled_from (of_record o)) (record_cells bytes) (laid (record_cells bytes) lent)
    by_order (Ok n) p = laid-holds n _ (record_cells bytes) lent (record-cells-group bytes b n p) wide
    by_order (Err r) p = none-holds (record_refusal r) (record_cells bytes) (laid (record_cells bytes) lent)

-- A table ends within 2304 cells.
pub symbol-inside : (text : List ℕ) {given : Filled} → given ≡ filled_from (of_symbol (order_of text)) → given.end ≤ 2304
symbol-inside text e = rw e (by_order (order_of text) refl)
  where
    by_order : (o : Result ℕ SymbolRefusal) → order_of text ≡ o → end_of (of_symbol o) ≤ 2304
    by_order (Ok n) p = symbol_end text n p
    by_order (Err r) p = omega arith

pub record-inside : (bytes : List ℕ) → Bytes bytes → {given : Filled} → given ≡ filled_from (of_record (order_of_record bytes)) → given.end ≤ 2304
record-inside bytes b e = rw e (by_order (order_of_record bytes) refl)
  where
    by_order : (o : Result ℕ RecordRefusal) → order_of_record bytes ≡ o → end_of (of_record o) ≤ 2304
    by_order (Ok n) p = record-end bytes b n p
    by_order (Err r) p = omega arith
