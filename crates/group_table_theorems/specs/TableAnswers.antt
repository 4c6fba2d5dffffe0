-- What the answers say: a table is given for every accepted symbol and for every record that is read, it is that of a group, and it is the table of their sets
-- of motions.
use Rattle.std.specs.Prelude.{◌≡◌, refl, ◌↔◌, List, map, ℕ, ◌*◌, ◌-◌, ◌<◌, length, take, replicate, Ok}
use Rattle.std.proofs.Common.{◌∙◌, subst, arith, take_at}
use Rattle.laws.specs.Motion.{SpaceMotion, compose}
use Rattle.operation.specs.Meaning.{motion_of}
use Rattle.operation.specs.declared.Operation.{Operation}
use Rattle.centering.specs.declared.Centering.{Centering}
use Rattle.space_group_theorems.specs.Members.{identity-first}
use Rattle.symbol_group.specs.AcceptedTexts.{accepted-text}
use Rattle.symbol_group.specs.Answers.{symbol_answer, order_by, order_of}
use Rattle.symbol_group.specs.declared.Answer as symbol
use Rattle.symbol_group.specs.declared.Answer.TheVariants.{Group, Refused}
use Rattle.group_record.specs.Groups.{InSet, Allowed, Listing}
use Rattle.group_record.specs.Reading.{read_of}
use Rattle.group_record.specs.Acceptance.{Bytes}
use Rattle.record_writing.specs.AcceptedSymbols.{accepted-listing, accepted-allowed}
use Rattle.record_writing.specs.SymbolSets.{InSetOf, set-of-list}
use Rattle.group_record.specs.declared.Reading.{Reading}
use Rattle.group_record.specs.declared.Reading.TheVariants.{Accepted, Refused as RecordRefused}
use Rattle.subgroup_laws.specs.Table.{product, GroupTable}
use Rattle.group_table.specs.Tables.{table_of, cells_of, symbol_table_by, symbol_table, symbol_cells_by, symbol_cells, record_table_by, record_table, order_of_record_by, order_of_record, record_cells_by, record_cells}
use Rattle.group_table.specs.OperationTables.{motion_at, table-length}
use Rattle.group_table.specs.TableMotions.{BelongsTo, belongs-inside, listed-belongs, one_index, product-belongs}
use Rattle.group_table.specs.TableGroups.{identity_index, identity-at, group-table}
use Rattle.group_table.specs.ReadTables.{read-allowed, read-order}
use Rattle.group_table.specs.SymbolSteps.{symbol-order}

-- n² cells are the table of a set of motions by a list of operations: that of a group, each motion of the set belongs to exactly one index, every index
-- holds motions, all of the set, and products go with the table.
pub record TableOfMotions (Inside : SpaceMotion → Type 0) (c : Centering) (l : List Operation) (n : ℕ) (cells : List ℕ) : Type 0 where
  pub order : n ≡ length l
  pub group : GroupTable n cells (identity_index c l)
  pub belongs : (f : SpaceMotion) → Inside f → (i : ℕ) × BelongsTo c l f i × ((k : ℕ) → BelongsTo c l f k → i ≡ k)
  pub holds : (i : ℕ) → i < n → (f : SpaceMotion) × BelongsTo c l f i
  pub inside : (f : SpaceMotion) (i : ℕ) → BelongsTo c l f i → Inside f
  pub products : (f g : SpaceMotion) (i j : ℕ) → BelongsTo c l f i → BelongsTo c l g j → BelongsTo c l (compose f g) (product n cells i j)

-- The first n² slots hold the table.
cells-table : (c : Centering) (l : List Operation) → take (length l * length l) (cells_of c l) ≡ table_of c l
cells-table c l = take_at (table_of c l) (replicate (2304 - length (table_of c l)) 0) (length l * length l) (table-length c l)

-- The table of allowed operations is that of their set of motions.
motions-table : (Inside : SpaceMotion → Type 0) (c : Centering) (l : List Operation) → Listing l → Allowed c (map motion_of l)
    → ((f : SpaceMotion) → Inside f ↔ InSet c (map motion_of l) f) → TableOfMotions Inside c l (length l) (take (length l * length l) (cells_of c l))
motions-table Inside c l L A same =
    rw (cells-table c l) (record {
      order = refl;
      group = group-table c L A;
      belongs = λ f m. one_index c L f ((same f).0 m);
      holds = λ i h. (motion_at c l i, listed-belongs c l i h);
      inside = λ f i b. (same f).1 (belongs-inside c l f i b);
      products = product-belongs c L A;
    })

-- ---- records
-- A record has a table exactly if it is read; if not, the answer is why.
pub record-answer : (bytes : List ℕ) → (record_table bytes).answer ≡ (read_of bytes).answer
unfolding record_table
record-answer bytes = by_answer (read_of bytes).answer (read_of bytes).centering (take (read_of bytes).count (read_of bytes).operations)
  where
    by_answer : (a : Reading) (c : Centering) (l : List Operation) → (record_table_by a c l).answer ≡ a
    by_answer Accepted c l = refl
    by_answer (RecordRefused r) c l = refl

-- The table of a record that is read is that of its set of motions.
pub record-motions : (bytes : List ℕ) → Bytes bytes → (read_of bytes).answer ≡ Accepted
    → TableOfMotions (InSet (read_of bytes).centering (map motion_of
    (take (read_of bytes).count (read_of bytes).operations))) (read_of bytes).centering (take (read_of bytes).count (read_of bytes).operations) (record_table
    bytes).order (take ((record_table bytes).order * (record_table bytes).order) (record_table bytes).cells)
unfolding record_table
record-motions bytes b e =
    let g = read_of bytes in
    let l = take g.count g.operations in
    let (w, A) = read-allowed bytes g refl b e in
    rw e (motions-table (InSet g.centering (map motion_of l)) g.centering l w.listing A (λ f. ((λ m. m), λ m. m)))

-- ---- symbols
-- A symbol has a table exactly if it is accepted; if not, the answer is why.
pub symbol-answer : (text : List ℕ) → (symbol_table text).answer ≡ (symbol_answer text).answer
unfolding symbol_table
symbol-answer text = by_answer (symbol_answer text).answer (symbol_answer text).centering (take (symbol_answer text).count (symbol_answer text).operations)
  where
    by_answer : (a : symbol.Answer) (c : Centering) (l : List Operation) → (symbol_table_by a c l).answer ≡ a
    by_answer Group c l = refl
    by_answer (Refused r) c l = refl

module _ (text : List ℕ) (e : (symbol_answer text).answer ≡ Group) where
  -- Its letter and its operations.
  abbrev letter : Centering
  letter = (symbol_answer text).centering

  abbrev operations : List Operation
  operations = take (symbol_answer text).count (symbol_answer text).operations

  -- They are a listing,
  symbol-listing : Listing operations
  symbol-listing = let T = accepted-text text e in rw T.same-operations (accepted-listing T.letter T.generators T.operations T.steps
      T.accepted)

  -- and allowed.
  symbol-allowed : Allowed letter (map motion_of operations)
  symbol-allowed =
      let T = accepted-text text e in rw (
        T.same-letter,
        T.same-operations,
      ) (accepted-allowed T.letter T.generators T.operations T.steps T.accepted)

  -- The text's set of motions is theirs with L added.
  symbol-inside : (f : SpaceMotion) → InSetOf text f ↔ InSet letter (map motion_of operations) f
  symbol-inside f = let T = accepted-text text e in rw (T.same-letter, T.same-operations) (set-of-list text T f)

  -- The table of an accepted symbol is that of its set of motions: all finite products of generators and translations by L.
  pub symbol-motions : TableOfMotions (InSetOf text) letter operations (symbol_table text).order (take ((symbol_table text).order * (symbol_table text).order)
      (symbol_table text).cells)
  unfolding symbol_table
  symbol-motions = rw e (motions-table (InSetOf text) letter operations symbol-listing symbol-allowed symbol-inside)

  -- Its identity has index 0.
  pub symbol-identity : identity_index letter operations ≡ 0
  symbol-identity =
      let T = accepted-text text e in
      let (rest, first) = identity-first T.letter T.generators T.operations T.steps T.accepted in
      identity-at letter symbol-listing 0 (rw (T.same-operations, first) (omega arith)) (rw (T.same-operations, first) refl)

-- ---- the cells alone
-- The cells of an accepted symbol are the table of a group whose identity is element 0.
pub symbol-cells-group : (text : List ℕ) (n : ℕ) → order_of text ≡ Ok n → GroupTable n (symbol_cells text) 0
unfolding order_of symbol_cells
symbol-cells-group text n = by_answer (symbol_answer text).answer refl
  where
    by_answer : (a : symbol.Answer) → (symbol_answer text).answer ≡ a → order_by a (symbol_answer text).count ≡ Ok n
        → GroupTable n (symbol_cells_by a (symbol_answer text).centering (take (symbol_answer text).count (symbol_answer text).operations)) 0
    by_answer Group e p =
        let g = symbol_answer text in
        let l = take g.count g.operations in
        let same : g.count ≡ n = cc in
        let T = group-table g.centering (symbol-listing text e) (symbol-allowed text e) in
        subst (λ (k : ℕ). GroupTable k (table_of g.centering l) 0) (symbol-order text g refl
        ∙ same) (subst (GroupTable (length l) (table_of g.centering l)) (symbol-identity text e) T)
    by_answer (Refused r) e p = let z : ◌≡◌ {A = ℕ} 0 1 = cc in absurd (omega arith)

-- The cells of a record that is read are the table of a group.
pub record-cells-group : (bytes : List ℕ) → Bytes bytes → (n : ℕ) → order_of_record bytes ≡ Ok n
    → GroupTable n (record_cells bytes) (identity_index (read_of bytes).centering (take (read_of bytes).count (read_of bytes).operations))
unfolding order_of_record record_cells
record-cells-group bytes b n = by_answer (read_of bytes).answer refl
  where
    by_answer : (a : Reading) → (read_of bytes).answer ≡ a → order_of_record_by a (read_of bytes).count ≡ Ok n
        → GroupTable n (record_cells_by a (read_of bytes).centering (take (read_of bytes).count (read_of bytes).operations)) (identity_index
        (read_of bytes).centering (take (read_of bytes).count (read_of bytes).operations))
    by_answer Accepted e p =
        let g = read_of bytes in
        let l = take g.count g.operations in
        let same : g.count ≡ n = cc in
        let (w, A) = read-allowed bytes g refl b e in
        subst (λ (k : ℕ). GroupTable k (table_of g.centering l) (identity_index g.centering l)) ((read-order bytes b e).0
        ∙ same) (group-table g.centering w.listing A)
    by_answer (RecordRefused r) e p = let z : ◌≡◌ {A = ℕ} 0 1 = cc in absurd (omega arith)

-- They are the first n² slots of the table by value, so what is said of motions there holds for the cells alone.
pub symbol-cells-same : (text : List ℕ) (n : ℕ) → order_of text ≡ Ok n → take (n * n) (symbol_table text).cells ≡ symbol_cells text
unfolding order_of symbol_table symbol_cells
symbol-cells-same text n = by_answer (symbol_answer text).answer
  where
    by_answer : (a : symbol.Answer) → order_by a (symbol_answer text).count ≡ Ok n
        → take (n * n) (symbol_table_by a (symbol_answer text).centering (take (symbol_answer text).count (symbol_answer text).operations)).cells
        ≡ symbol_cells_by a (symbol_answer text).centering (take (symbol_answer text).count (symbol_answer text).operations)
    by_answer Group p =
        let g = symbol_answer text in
        let l = take g.count g.operations in
        let same : g.count ≡ n = cc in
        subst (λ (k : ℕ). take (k * k) (cells_of g.centering l) ≡ table_of g.centering l) (symbol-order text g refl ∙ same) (cells-table g.centering l)
    by_answer (Refused r) p = let z : ◌≡◌ {A = ℕ} 0 1 = cc in absurd (omega arith)

pub record-cells-same : (bytes : List ℕ) → Bytes bytes → (n : ℕ) → order_of_record bytes ≡ Ok n
    → take (n * n) (record_table bytes).cells ≡ record_cells bytes
unfolding order_of_record record_table record_cells
record-cells-same bytes b n = by_answer (read_of bytes).answer refl
  where
    by_answer : (a : Reading) → (read_of bytes).answer ≡ a → order_of_record_by a (read_of bytes).count ≡ Ok n
        → take (n * n) (record_table_by a (read_of bytes).centering (take (read_of bytes).count (read_of bytes).operations)).cells
        ≡ record_cells_by a (read_of bytes).centering (take (read_of bytes).count (read_of bytes).operations)
    by_answer Accepted e p =
        let g = read_of bytes in
        let l = take g.count g.operations in
        let same : g.count ≡ n = cc in
        subst (λ (k : ℕ). take (k * k) (cells_of g.centering l) ≡ table_of g.centering l) ((read-order bytes b e).0 ∙ same) (cells-table g.centering l)
    by_answer (RecordRefused r) e p = let z : ◌≡◌ {A = ℕ} 0 1 = cc in absurd (omega arith)
