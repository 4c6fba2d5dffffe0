-- The table of what was read: a record that is read holds what a table is made of, and its answer is the table of its operations.
use Rattle.std.specs.Prelude.{◌≡◌, refl, List, [], map, ℕ, ◌*◌, ◌<◌, ◌≤◌, length, take, replicate, Err, Ok, Result}
use Rattle.std.proofs.Common.{sym, ◌∙◌, ap₂, subst, arith, length-take-le}
use Rattle.std.proofs.Math.Path.{ap}
use Rattle.operation.specs.Meaning.{motion_of}
use Rattle.operation.specs.declared.Operation.{Operation}
use Rattle.centering.specs.declared.Centering.{Centering}
use Rattle.group_record.specs.Groups.{Allowed}
use Rattle.group_record.specs.Reading.{read_of}
use Rattle.group_record.specs.Acceptance.{Bytes}
use Rattle.record_writing.specs.RoundTrips.{Writable, read-writable, written-again}
use Rattle.group_record.specs.declared.Reading.{Reading}
use Rattle.group_record.specs.declared.Reading.TheVariants.{Accepted, Refused}
use Rattle.group_record.specs.declared.RecordGroup.{RecordGroup}
use Rattle.group_record.specs.declared.Refusal.{Refusal}
use Rattle.subgroup_laws.specs.TableCells.{square-limit}
use Rattle.group_table.specs.OperationTables.{table-length}
use Rattle.group_table.specs.Tables.{table_of, record_table_by, record_table, order_of_record_by, order_of_record, record_cells_by, record_cells, overlaid, laid}
use Rattle.group_table.specs.Overlay.{laid-all, laid_none, laid-blank}
use Rattle.group_table.specs.declared.RecordTable.{RecordTable}

module _ (bytes : List ℕ) (g : RecordGroup) (e : g ≡ read_of bytes) where
  -- What was read is a listing of allowed operations.
  pub read-allowed : Bytes bytes → g.answer ≡ Accepted → Writable g × Allowed g.centering (map motion_of (take g.count g.operations))
  read-allowed b told = (
    read-writable bytes g b e told,
    subst (λ (h : RecordGroup). Allowed h.centering (map motion_of (take h.count h.operations))) (sym e)
        (written-again bytes b (ap (λ (h : RecordGroup). h.answer) (sym e) ∙ told)).allowed,
  )

  -- The order, by cases of what was read,
  order-by : (a : Reading) → g.answer ≡ a → order_of_record_by a g.count ≡ order_of_record bytes
  unfolding order_of_record
  order-by a told =
      ap (λ (b : Reading). order_of_record_by b g.count) (sym told)
      ∙ ap (λ (h : RecordGroup). order_of_record_by h.answer h.count) e

  -- and the cells.
  cells-by : (a : Reading) → g.answer ≡ a → record_cells_by a g.centering (take g.count g.operations) ≡ record_cells bytes
  unfolding record_cells
  cells-by a told =
      ap (λ (b : Reading). record_cells_by b g.centering (take g.count g.operations)) (sym told)
      ∙ ap (λ (h : RecordGroup). record_cells_by h.answer h.centering (take h.count h.operations)) e

  module _ (b : Bytes bytes) (told : g.answer ≡ Accepted) where
    -- A record that is read lists as many operations as it counts,
    listed : length (take g.count g.operations) ≡ g.count
    listed = length-take-le g.count g.operations (read-writable bytes g b e told).there

    -- so there are n² cells.
    square : length (table_of g.centering (take g.count g.operations)) ≡ g.count * g.count
    square = table-length g.centering (take g.count g.operations) ∙ ap (λ (n : ℕ). n * n) listed

    -- What is answered if the slots are too few,
    pub record-short : (lent : List ℕ) → length lent < g.count * g.count → (Ok g.count ≡ order_of_record bytes) × (lent ≡ laid (record_cells bytes) lent)
    record-short lent short =
        (order-by Accepted told, sym (laid_none _ lent (omega (arith, square))) ∙ ap (λ (cells : List ℕ). laid cells lent) (cells-by Accepted told))

    -- if they hold all cells,
    pub record-filled : (lent now : List ℕ) → g.count * g.count ≤ length lent → now ≡ overlaid (table_of g.centering (take g.count g.operations)) lent
        → (Ok g.count ≡ order_of_record bytes) × (now ≡ laid (record_cells bytes) lent)
    record-filled lent now room d =
        (order-by Accepted told, d ∙ sym (laid-all _ lent (omega (arith, square))) ∙ ap (λ (cells : List ℕ). laid cells lent) (cells-by Accepted told))

  -- and for a refusal.
  pub record-refused : (r : Refusal) → g.answer ≡ Refused r → (lent : List ℕ) → (Err r ≡ order_of_record bytes)
      × (lent ≡ laid (record_cells bytes) lent)
  record-refused r told lent =
      (order-by (Refused r) told, sym (laid-all [] lent (omega arith)) ∙ ap (λ (cells : List ℕ). laid cells lent) (cells-by (Refused r) told))

-- A record that is read lists as many operations as it counts, and at most 48.
pub read-order : (bytes : List ℕ) → Bytes bytes → (read_of bytes).answer ≡ Accepted
    → (length (take (read_of bytes).count (read_of bytes).operations) ≡ (read_of bytes).count) × ((read_of bytes).count ≤ 48)
read-order bytes b told = (listed bytes (read_of bytes) refl b told, (read-writable bytes (read_of bytes) b refl told).few)

-- The table by value is the order, and the cells in blank slots.
abbrev by_value : Result ℕ Refusal → List ℕ → RecordTable
by_value (Ok n) cells = record { answer = Accepted; order = n; cells = cells }
by_value (Err r) cells = record { answer = Refused r; order = 0; cells = cells }

by_value_lem : (a : Reading) (c : Centering) (count : ℕ) (l : List Operation) → (a ≡ Accepted → (length l ≡ count) × (count ≤ 48))
    → by_value (order_of_record_by a count) (laid (record_cells_by a c l) (replicate 2304 0)) ≡ record_table_by a c l
by_value_lem Accepted c count l fits =
    let (long, few) = fits refl in
    let blank = laid-blank (table_of c l) 2304 (omega (arith, table-length c l, square-limit (length l) (omega arith))) in
    λ i. record { answer = Accepted; order = sym long i; cells = blank i }
by_value_lem (Refused r) c count l fits = ap (by_value (Err r)) (laid-blank [] 2304 (omega arith))

pub record-by-value : (bytes : List ℕ) → Bytes bytes → (o : Result ℕ Refusal) (cells : List ℕ) → o ≡ order_of_record bytes
    → cells ≡ laid (record_cells bytes) (replicate 2304 0) → by_value o cells ≡ record_table bytes
unfolding order_of_record record_cells record_table
record-by-value bytes b o cells e d =
    ap₂ by_value e d
    ∙ by_value_lem (read_of bytes).answer (read_of bytes).centering (read_of bytes).count (take (read_of bytes).count (read_of bytes).operations)
    (read-order bytes b)
