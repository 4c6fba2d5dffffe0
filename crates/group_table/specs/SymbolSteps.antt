-- The table of an accepted symbol's operations goes by the steps of its traversal: a step is the product with the generator's index, and products associate.
use Rattle.std.specs.Prelude.{◌≡◌, refl, List, [], map, ℕ, ◌+◌, ◌*◌, ◌/◌, ◌%◌, ◌-◌, ◌≤◌, ◌<◌, take, replicate, Err, Ok, Result}
use Rattle.std.proofs.Math.Path.{sym, ap}
use Rattle.std.proofs.Common.{◌∙◌, ap₂, suc-mul, mul-le-mul_right, div-add-mod', div-lt_iff_lt-mul, mod-lt, take_at, length-take-le}
use native.Mathlib.Omega.{arith}
use Rattle.std.proofs.Math.ListN.{length, get_or}
use Rattle.laws.specs.Motion.{compose, identity, identity-compose}
use Rattle.operation.specs.Composed.{identity-motion}
use Rattle.operation.specs.Meaning.{motion_of}
use Rattle.operation.specs.Product.{identity_operation}
use Rattle.operation.specs.declared.Operation.{Operation}
use Rattle.centering.specs.declared.Centering.{Centering}
use Rattle.hall_symbol.specs.Answers.{symbol-count}
use Rattle.space_group.specs.Traversal.{padded}
use Rattle.space_group.specs.Resuming.{padded-at}
use Rattle.space_group_theorems.specs.Acceptance.{Accepted}
use Rattle.space_group_theorems.specs.Members.{identity-first, at-most-48}
use Rattle.space_group_theorems.specs.Steps.{steps-length, step_right}
use Rattle.symbol_group.specs.AcceptedTexts.{accepted-text}
use Rattle.symbol_group.specs.Answers.{symbol_answer, order_by, order_of}
use Rattle.symbol_group.specs.Slots.{symbol-slots}
use Rattle.symbol_group.specs.declared.Answer as decided
use Rattle.symbol_group.specs.declared.Answer.TheVariants.{Group as Given, Refused as NotGiven}
use Rattle.symbol_group.specs.declared.refusal.Refusal.{Refusal}
use Rattle.symbol_group.specs.declared.SymbolGroup.{SymbolGroup}
use Rattle.group_record.specs.Groups.{Allowed, Listing}
use Rattle.record_writing.specs.AcceptedSymbols.{accepted-listing, accepted-allowed}
use Rattle.subgroup_laws.specs.Groups.{Group}
use Rattle.subgroup_laws.specs.Table.{product}
use Rattle.subgroup_laws.specs.TableCells.{square-limit}
use Rattle.group_table.specs.Tables.{table_of, symbol_table_by, symbol_table, symbol_cells_by, symbol_cells, overlaid, laid}
use Rattle.group_table.specs.OperationTables.{motion_at, table-length}
use Rattle.group_table.specs.TableMotions.{BelongsTo, listed-belongs, product_is}
use Rattle.group_table.specs.TableGroups.{identity_index, identity-at, group-table}
use Rattle.group_table.specs.Parents.{parent-step}
use Rattle.group_table.specs.declared.SymbolTable.{SymbolTable}
use Rattle.group_table.specs.Overlay.{laid-all, laid_none, laid-blank}
use Rattle.group_table.specs.StepTables.{Traversed, GoesBy, place_inside, divisor}

module _ (c : Centering) (gens operations : List Operation) (steps : List ℕ) (A : Accepted c gens operations steps) where
  -- The slots of the steps.
  abbrev noted : List ℕ
  noted = padded 432 0 steps

  -- Each rotation is listed once,
  listed : Listing operations
  listed = accepted-listing c gens operations steps A

  -- and the operations are a group modulo L.
  allowed : Allowed c (map motion_of operations)
  allowed = accepted-allowed c gens operations steps A

  -- ---- the steps
  -- The step that stands in a slot.
  noted-at : (t : ℕ) → t < length operations * length gens → get_or noted t 0 ≡ get_or steps t 0
  noted-at t h = padded-at 432 0 steps t 0 (omega (arith, steps-length c gens operations steps A))

  -- Operation p times generator k belongs to the index that the step leads to.
  step-belongs : (p k : ℕ) → p < length operations → k < length gens
      → BelongsTo c operations (compose (motion_at c operations p) (motion_at c gens k)) (get_or noted (p * length gens + k) 0)
  step-belongs p k h w =
      rw (noted-at (p * length gens + k) (place_inside p k (length operations) (length gens) h w)) (step_right c gens operations steps A p k h w)

  -- They are those of a traversal.
  accepted-traversed : length gens ≤ 9 → Traversed (length operations) (length gens) noted
  accepted-traversed few = record {
    few = at-most-48 c gens operations steps A;
    narrow = few;
    inside = λ t h.
        let positive = divisor t (length operations) (length gens) h in
        rw (div-add-mod' t (length gens)) at (step-belongs (t / length gens) (t % length gens) ((div-lt_iff_lt-mul positive).1 h) (mod-lt t positive)).0;
    parent = λ j a b.
        let (t, lt, e) = parent-step c gens operations steps A listed j a b in
        (t, lt, noted-at t (omega (arith, mul-le-mul_right (length gens) b, suc-mul j (length gens))) ∙ e);
  }

  -- ---- the table
  -- The product of indices that the table gives,
  abbrev ◌·◌ : ℕ → ℕ → ℕ
  ◌·◌ = product (length operations) (table_of c operations)

  infixl 70 ◌·◌
  -- and its laws.
  laws : Group (length operations) ◌·◌ (identity_index c operations)
  laws = (group-table c listed allowed).group

  -- The identity stands first.
  identity-zero : (0 < length operations) × (get_or operations 0 identity_operation ≡ identity_operation)
  identity-zero = let (rest, e) = identity-first c gens operations steps A in rw e (omega arith, refl)

  -- So a generator belongs to the index to which its step leads from there,
  generator-belongs : (k : ℕ) → k < length gens → BelongsTo c operations (motion_at c gens k) (get_or noted (0 * length gens + k) 0)
  generator-belongs k w =
      let (some, first) = identity-zero in
      let same : motion_at c operations 0 ≡ identity = ap motion_of first ∙ identity-motion in
      rw (same, identity-compose (motion_at c gens k)) at (step-belongs 0 k some w)

  -- and every step is the product with that index.
  step-product : (p k : ℕ) → p < length operations → k < length gens → p · get_or noted (0 * length gens + k) 0 ≡ get_or noted (p * length gens + k) 0
  step-product p k h w =
      product_is c listed allowed (motion_at c operations p) (motion_at c gens k) p (get_or noted (0 * length gens + k) 0)
      (get_or noted (p * length gens + k) 0)
      (listed-belongs c operations p h) (generator-belongs k w) (step-belongs p k h w)

  -- So the table goes by the steps.
  accepted-goes-by : GoesBy (length operations) (length gens) noted (table_of c operations)
  unfolding product
  accepted-goes-by = record {
    size = table-length c operations;
    first = λ i h.
        let (some, first) = identity-zero in
        let at : i * length operations + 0 ≡ i * length operations = omega arith in
        rw at at (rw (identity-at c listed 0 some first) at (laws.right_identity i h));
    inside = laws.product-below;
    next = λ i p k h a w.
        let x = get_or noted (0 * length gens + k) 0 in
        ap (λ (j : ℕ). i · j) (sym (step-product p k a w))
        ∙ sym (laws.associative i p x h a (generator-belongs k w).0)
        ∙ step-product (i · p) k (laws.product-below i p h a) w;
  }

-- ---- the answer for a text
-- The steps of a symbol's group are those of a traversal, and its table goes by them.
pub record TableBySteps (g : SymbolGroup) : Type 0 where
  pub traversed : Traversed g.count g.generators g.steps
  pub goes : GoesBy g.count g.generators g.steps (table_of g.centering (take g.count g.operations))

module _ (text : List ℕ) (g : SymbolGroup) (e : g ≡ symbol_answer text) where
  -- A symbol that is accepted has its table from its steps.
  pub symbol-steps : g.answer ≡ Given → TableBySteps g
  symbol-steps a =
      let T = accepted-text text (sym (ap (λ (h : SymbolGroup). h.answer) e) ∙ a) in
      let l = T.operations in
      rw (e ∙ T.answered) (record {
        traversed = accepted-traversed T.letter T.generators l T.steps T.accepted (symbol-count text T.letter T.generators T.spells).1;
        goes =
            rw (take_at l (replicate (48 - length l) identity_operation) (length l) refl)
            (accepted-goes-by T.letter T.generators l T.steps T.accepted);
      })

  -- As many operations are listed as are counted.
  pub symbol-order : length (take g.count g.operations) ≡ g.count
  symbol-order =
      let slots = symbol-slots text in
      length-take-le g.count g.operations (omega (arith, ap (λ (h : SymbolGroup). h.count) e, ap (λ (h : SymbolGroup). length h.operations) e))

  -- The order, by cases of the symbol's answer,
  symbol-order-by : (a : decided.Answer) → g.answer ≡ a → order_by a g.count ≡ order_of text
  unfolding order_of
  symbol-order-by a told =
      ap (λ (b : decided.Answer). order_by b g.count) (sym told)
      ∙ ap (λ (h : SymbolGroup). order_by h.answer h.count) e

  -- and the cells.
  symbol-cells-by : (a : decided.Answer) → g.answer ≡ a → symbol_cells_by a g.centering (take g.count g.operations) ≡ symbol_cells text
  unfolding symbol_cells
  symbol-cells-by a told =
      ap (λ (b : decided.Answer). symbol_cells_by b g.centering (take g.count g.operations)) (sym told)
      ∙ ap (λ (h : SymbolGroup). symbol_cells_by h.answer h.centering (take h.count h.operations)) e

  -- There are n² cells.
  symbol-square : length (table_of g.centering (take g.count g.operations)) ≡ g.count * g.count
  symbol-square = table-length g.centering (take g.count g.operations) ∙ ap (λ (n : ℕ). n * n) symbol-order

  -- What is answered if the slots are too few,
  pub symbol-short : g.answer ≡ Given → (lent : List ℕ) → length lent < g.count * g.count
      → (Ok g.count ≡ order_of text) × (lent ≡ laid (symbol_cells text) lent)
  symbol-short told lent short = (
    symbol-order-by Given told,
    sym (laid_none _ lent (omega (arith, symbol-square)))
        ∙ ap (λ (cells : List ℕ). laid cells lent) (symbol-cells-by Given told),
  )

  -- if they hold all cells,
  pub symbol-filled : g.answer ≡ Given → (lent now : List ℕ) → g.count * g.count ≤ length lent
      → now ≡ overlaid (table_of g.centering (take g.count g.operations)) lent → (Ok g.count ≡ order_of text) × (now ≡ laid (symbol_cells text) lent)
  symbol-filled told lent now room e = (
    symbol-order-by Given told,
    e ∙ sym (laid-all _ lent (omega (arith, symbol-square)))
        ∙ ap (λ (cells : List ℕ). laid cells lent) (symbol-cells-by Given told),
  )

  -- and for a refusal.
  pub symbol-refused : (r : Refusal) → g.answer ≡ NotGiven r → (lent : List ℕ) → (Err r ≡ order_of text) × (lent ≡ laid (symbol_cells text) lent)
  symbol-refused r told lent =
      (symbol-order-by (NotGiven r) told, sym (laid-all [] lent (omega arith)) ∙ ap (λ (cells : List ℕ). laid cells lent) (symbol-cells-by (NotGiven r) told))

-- The table by value is the order, and the cells in blank slots.
abbrev by_value : Result ℕ Refusal → List ℕ → SymbolTable
by_value (Ok n) cells = record { answer = Given; order = n; cells = cells }
by_value (Err r) cells = record { answer = NotGiven r; order = 0; cells = cells }

by_value_lem : (a : decided.Answer) (c : Centering) (count : ℕ) (l : List Operation) → length l ≡ count → count ≤ 48
    → by_value (order_by a count) (laid (symbol_cells_by a c l) (replicate 2304 0)) ≡ symbol_table_by a c l
by_value_lem Given c count l long few =
    let blank = laid-blank (table_of c l) 2304 (omega (arith, table-length c l, square-limit (length l) (omega arith))) in
    λ i. record { answer = Given; order = sym long i; cells = blank i }
by_value_lem (NotGiven r) c count l long few = ap (by_value (Err r)) (laid-blank [] 2304 (omega arith))

pub symbol-by-value : (text : List ℕ) (o : Result ℕ Refusal) (cells : List ℕ) → o ≡ order_of text → cells ≡ laid (symbol_cells text) (replicate 2304 0)
    → by_value o cells ≡ symbol_table text
unfolding order_of symbol_cells symbol_table
symbol-by-value text o cells e d =
    ap₂ by_value e d
    ∙ by_value_lem (symbol_answer text).answer (symbol_answer text).centering (symbol_answer text).count
    (take (symbol_answer text).count (symbol_answer text).operations) (symbol-order text (symbol_answer text) refl) (symbol-slots text).0
