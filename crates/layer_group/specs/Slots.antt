-- How the answers are put together from the plain symbol's, and what holds of their slots.
use Rattle.std.specs.Prelude.{◌≡◌, refl, Bool, true, false, cond, ◌&&◌, List, [], ◌∷◌, ℕ, suc, ◌-◌, ◌≤◌, ◌<◌, eqb, ltb, get_or, take, Result, Ok, Err, None, Some}
use Rattle.std.specs.Prelude as std
use Rattle.std.proofs.Math.Path.{ap, sym}
use Rattle.std.proofs.Common.{arith, length-take-le}
use Rattle.std.proofs.Math.ListN.{length}
use borrow.Author.Tests.{lt-ltb, le-ltb}
use Rattle.operation.specs.Product.{identity_operation}
use Rattle.operation.specs.declared.Operation.{Operation}
use Rattle.centering.specs.Letters.{byte_of}
use Rattle.centering.specs.declared.Centering.{Centering}
use Rattle.centering.specs.declared.Centering.TheVariants.{P, A, B, C, I, R, F, H}
use Rattle.hall_symbol.specs.Bytes.{whitespace}
use Rattle.hall_symbol.specs.Walk.{read-long}
use Rattle.laws.specs.Indices.{at-any}
use Rattle.symbol_group.specs.Answers.{symbol_answer}
use Rattle.symbol_group.specs.Slots.{symbol-slots}
use Rattle.symbol_group.specs.declared.refusal.Refusal as plain-refusal
use Rattle.symbol_group.specs.declared.Answer as plain
use Rattle.symbol_group.specs.declared.Answer.TheVariants as plain-answer
use Rattle.symbol_group.specs.declared.SymbolGroup.{SymbolGroup}
use Rattle.layer_group.specs.Capitals.{letter_here, marked, from_token, capitalised}
use Rattle.layer_group.specs.Layers.{front, off_position, front-found, front-missed}
use Rattle.layer_group.specs.Answers.{refused_answer, layered_by, layer_answer, order_of, small_of, letter_of, operation_at}
use Rattle.layer_group.specs.declared.refusal.Refusal.{Refusal}
use Rattle.layer_group.specs.declared.refusal.Refusal.TheVariants.{Symbol, NoLayer}
use Rattle.layer_group.specs.declared.Answer.TheVariants.{Group, Refused}
use Rattle.layer_group.specs.declared.LayerGroup.{LayerGroup}

-- ---- the copy is as long as the text
token-length : (s : List ℕ) → length (from_token s) ≡ length s
unfolding from_token
token-length [] = refl
token-length (b ∷ []) = go (letter_here (b ∷ [])) (eqb b 45)
  where
    go : (x y : Bool) → length (cond x ((b - 32) ∷ []) (cond (y && false) (b ∷ []) (marked b ∷ []))) ≡ 1
    go true y = refl
    go false true = refl
    go false false = refl
token-length (b ∷ d ∷ s) = go (letter_here (b ∷ d ∷ s)) (eqb b 45 && letter_here (d ∷ s))
  where
    go : (x y : Bool) → length (cond x ((b - 32) ∷ d ∷ s) (cond y (b ∷ (d - 32) ∷ s) (marked b ∷ d ∷ s))) ≡ length (b ∷ d ∷ s)
    go true y = refl
    go false true = refl
    go false false = refl

pub capitalised-length : (s : List ℕ) → length (capitalised s) ≡ length s
unfolding capitalised
capitalised-length [] = refl
capitalised-length (b ∷ s) = go (whitespace b) (capitalised-length s)
  where
    go : (x : Bool) → length (capitalised s) ≡ length s → length (cond x (b ∷ capitalised s) (from_token (b ∷ s))) ≡ length (b ∷ s)
    go true e = ap suc e
    go false e = token-length (b ∷ s)

-- ---- from the plain symbol
-- Over 80 bytes the text is refused as its copy is.
pub plain-long : (text : List ℕ) → 80 < length text → symbol_answer text ≡ symbol_answer (capitalised text)
unfolding symbol_answer
plain-long text h = rw (read-long text h, read-long (capitalised text) (rw (capitalised-length text) h))

-- How many operations the plain symbol's group has, if every one is of a layer; or why it is no group of a layer.
abbrev pub counted_by : plain.Answer → ℕ → List Operation → Result ℕ Refusal
counted_by plain-answer.Group count operations =
    cond (ltb (front (take count operations)) count) (Err (NoLayer (front (take count operations)))) (Ok count)
counted_by (plain-answer.Refused r) count operations = Err (Symbol r)

abbrev pub layered_count : SymbolGroup → Result ℕ Refusal
layered_count g = counted_by g.answer g.count g.operations

-- The answer by that.
abbrev pub answer_by : Result ℕ Refusal → Centering → List Operation → LayerGroup
answer_by (Ok count) c operations = record { answer = Group; centering = c; count = count; operations = operations }
answer_by (Err r) c operations = refused_answer r

answer-counted : (a : plain.Answer) (c : Centering) (n : ℕ) (l : List Operation) → layered_by a c n l ≡ answer_by (counted_by a n l) c l
answer-counted plain-answer.Group c n l = go (ltb (front (take n l)) n)
  where
    go : (b : Bool) → ◌≡◌ {A = LayerGroup}
        (cond b (refused_answer (NoLayer (front (take n l)))) (record { answer = Group; centering = c; count = n; operations = l }))
        (answer_by (cond b (Err (NoLayer (front (take n l)))) (Ok n)) c l)
    go true = refl
    go false = refl
answer-counted (plain-answer.Refused r) c n l = refl

module _ (g : SymbolGroup) where
  -- The plain symbol is refused,
  pub count-text : (r : plain-refusal.Refusal) → g.answer ≡ plain-answer.Refused r → Err (Symbol r) ≡ layered_count g
  count-text r a = rw a

  module _ (a : g.answer ≡ plain-answer.Group) (room : g.count ≤ length g.operations) where
    long : length (take g.count g.operations) ≡ g.count
    long = length-take-le g.count g.operations room

    -- an operation is none of a layer,
    pub count-off : (off : ℕ) → off_position (take g.count g.operations) ≡ std.Some off → Err (NoLayer off) ≡ layered_count g
    count-off off h =
        let (found, low) = front-found (take g.count g.operations) off h in
        rw (a, lt-ltb (front (take g.count g.operations)) g.count (omega (arith, long, found, low))) (ap (λ (i : ℕ). Err (NoLayer i)) (sym found))

    -- or all are.
    pub count-all : off_position (take g.count g.operations) ≡ std.None → Ok g.count ≡ layered_count g
    count-all h =
        let low = front-missed (take g.count g.operations) h in
        rw (a, le-ltb (front (take g.count g.operations)) g.count (omega (arith, long, low)))

module _ (text : List ℕ) (g : SymbolGroup) (e : g ≡ symbol_answer (capitalised text)) where
  -- Its group has 48 slots,
  pub layer-slots : (g.count ≤ 48) × (length g.operations ≡ 48)
  layer-slots = rw e (symbol-slots (capitalised text))

  -- and how many operations it has, or why it is no group of a layer, decides.
  pub layer-counted : (o : Result ℕ Refusal) → layered_count g ≡ o → answer_by o g.centering g.operations ≡ layer_answer text
  unfolding layer_answer
  layer-counted o h = rw (← e, ← h) (sym (answer-counted g.answer g.centering g.count g.operations))

-- ---- the slots of a layer symbol's group
by_slots : (a : plain.Answer) (c : Centering) (n : ℕ) (l : List Operation) → n ≤ 48 → length l ≡ 48 → ((layered_by a c n l).count ≤ 48)
    × (length (layered_by a c n l).operations ≡ 48)
by_slots plain-answer.Group c n l h k = go (ltb (front (take n l)) n)
  where
    go : (b : Bool) → let g : LayerGroup = cond b (refused_answer (NoLayer (front (take n l))))
        (record { answer = Group; centering = c; count = n; operations = l }) in (g.count ≤ 48) × (length g.operations ≡ 48)
    go true = (omega arith, refl)
    go false = (h, k)
by_slots (plain-answer.Refused r) c n l h k = (omega arith, refl)

pub layer-places : (text : List ℕ) → ((layer_answer text).count ≤ 48) × (length (layer_answer text).operations ≡ 48)
unfolding layer_answer
layer-places text =
    let g = symbol_answer (capitalised text) in
    let s = symbol-slots (capitalised text) in
    by_slots g.answer g.centering g.count g.operations s.0 s.1

-- A capital letter's byte leaves room for the small one.
pub small-fits : (c : Centering) → byte_of c < 100
small-fits P = omega arith
small-fits A = omega arith
small-fits B = omega arith
small-fits C = omega arith
small-fits I = omega arith
small-fits R = omega arith
small-fits F = omega arith
small-fits H = omega arith

module _ (text : List ℕ) (g : LayerGroup) (e : g ≡ layer_answer text) where
  -- Refused, whatever is asked for.
  pub order-refused : (r : Refusal) → g.answer ≡ Refused r → Err r ≡ order_of text
  unfolding order_of
  order-refused r a = rw (← e, a)

  pub letter-refused : (r : Refusal) → g.answer ≡ Refused r → Err r ≡ letter_of text
  unfolding letter_of
  letter-refused r a = rw (← e, a)

  pub operation-refused : (r : Refusal) (i : ℕ) → g.answer ≡ Refused r → Err r ≡ operation_at text i
  unfolding operation_at
  operation-refused r i a = rw (← e, a)

  module _ (a : g.answer ≡ Group) where
    pub order-given : Ok g.count ≡ order_of text
    unfolding order_of
    order-given = rw (← e, a)

    pub letter-given : Ok (small_of g.centering) ≡ letter_of text
    unfolding letter_of
    letter-given = rw (← e, a)

    -- Past the end.
    pub operation-past : (i : ℕ) → g.count ≤ i → Ok None ≡ operation_at text i
    unfolding operation_at
    operation-past i h = rw (← e, a, le-ltb i g.count h)

    -- An index that is used is below 48.
    pub index-small : (i : ℕ) → i < g.count → i < 48
    index-small i h = omega (arith, layer-places text, ap (λ (g : LayerGroup). g.count) e)

    pub operation-given : (i : ℕ) (d : Operation) → i < g.count → Ok (Some (get_or g.operations i d)) ≡ operation_at text i
    unfolding operation_at
    operation-given i d h =
        let within : i < length g.operations = omega (
          arith,
          layer-places text,
          ap (λ (g : LayerGroup). g.count) e,
          ap (λ (g : LayerGroup). length g.operations) e,
        ) in
        rw (← e, a, lt-ltb i g.count h, at-any g.operations i d identity_operation within)
