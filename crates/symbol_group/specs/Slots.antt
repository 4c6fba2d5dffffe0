-- How the answers are put together from the reader's and the group's, and what holds of their slots.
use Rattle.std.specs.Prelude.{◌≡◌, refl, List, [], ◌∷◌, ℕ, ◌≤◌, ◌<◌, get_or, take, Err, None, Ok, Option, Result, Some}
use Rattle.std.proofs.Common.{sym, ◌∙◌, ap₂}
use Rattle.std.proofs.Math.Path.{ap}
use native.Mathlib.Omega.{arith}
use Rattle.std.proofs.Math.ListN.{length}
use borrow.Author.Tests.{lt-ltb, le-ltb}
use Rattle.std.proofs.Math.IntN.{one}
use Rattle.laws.specs.Integer.{nought}
use Rattle.laws.specs.Matrix.{unit, origin}
use Rattle.laws.specs.Residue.{residue}
use Rattle.laws.specs.Closure.{fresh, run, closure}
use Rattle.laws.specs.SameMatrix.{same_matrix}
use Rattle.laws.specs.Growth.{place}
use Rattle.laws.specs.GrowthClosure.{agrees, steps_from, steady_from}
use Rattle.laws.specs.Truth.{all}
use Rattle.laws.specs.Indices.{at-any}
use Rattle.operation.specs.Meaning.{entry_of, matrix_of, vector_of, motion_of, digit_above, digit_of, inside, row_inside, all_inside}
use Rattle.operation.specs.Product.{identity_operation, operation_of}
use Rattle.operation.specs.declared.Operation.{Operation}
use Rattle.centering.specs.declared.Centering.{Centering}
use Rattle.centering.specs.declared.Centering.TheVariants.{P}
use Rattle.hall_symbol.specs.Answers.{slots-listed}
use Rattle.hall_symbol.specs.Reader as reader
use Rattle.hall_symbol.specs.declared.Answer as text-type
use Rattle.hall_symbol.specs.declared.Answer.TheVariants as text-answer
use Rattle.hall_symbol.specs.declared.HallSymbol.{HallSymbol}
use Rattle.space_group.specs.Generated.{first_off, listing, is_small, same_vector_class, on_list, Outcome, group, refused, outcome_of}
use Rattle.space_group.specs.Resuming.{padded-length}
use Rattle.space_group.specs.Slots.{answer_of, group_answer, outcome-few}
use Rattle.space_group.specs.declared.Answer as group-type
use Rattle.space_group.specs.declared.Answer.TheVariants as group-answer
use Rattle.space_group.specs.declared.SpaceGroup.{SpaceGroup}
use Rattle.symbol_group.specs.Answers.{outcome_answer, reading_answer, symbol_answer, order_of, operation_at, translation_of_found, translation_at}
use Rattle.symbol_group.specs.declared.refusal.Refusal.{Refusal}
use Rattle.symbol_group.specs.declared.refusal.Refusal.TheVariants.{Text, Group as NoGroup}
use Rattle.symbol_group.specs.declared.Answer.{Answer}
use Rattle.symbol_group.specs.declared.Answer.TheVariants.{Group, Refused}
use Rattle.symbol_group.specs.declared.Head.{Head}
use Rattle.symbol_group.specs.declared.SymbolGroup.{SymbolGroup}

-- ---- from a group of generators
-- Its refusals are among those of a symbol.
abbrev pub answer_by : group-type.Answer → Answer
answer_by group-answer.Group = Group
answer_by (group-answer.Refused r) = Refused (NoGroup r)

-- The group's answer with a symbol's.
abbrev pub symbol_by : SpaceGroup → SymbolGroup
symbol_by g = record {
  answer = answer_by g.answer;
  centering = g.centering;
  count = g.count;
  operations = g.operations;
  generators = g.generators;
  steps = g.steps;
}

outcome-told : (c : Centering) (n : ℕ) (o : Outcome) → symbol_by (answer_of c n o) ≡ outcome_answer c n o
outcome-told c n (group operations steps) = refl
outcome-told c n (refused r) = refl

pub group-told : (c : Centering) (gens : List Operation) (g : SpaceGroup) → g ≡ group_answer c gens → symbol_by g
    ≡ outcome_answer c (length gens) (outcome_of c gens)
unfolding group_answer
group-told c gens g e = ap symbol_by e ∙ outcome-told c (length gens) (outcome_of c gens)

-- ---- from a reading
-- The text's refusal goes first; then the group's answer.
abbrev pub head_by : text-type.Answer → group-type.Answer → ℕ → Head
head_by (text-answer.Refused r) told count = record { answer = Refused (Text r); count = 0 }
head_by text-answer.Symbol told count = record { answer = answer_by told; count = count }

-- A head over the slots of a group.
abbrev laid : Head → SpaceGroup → SymbolGroup
laid head g =
    record {
      answer = head.answer;
      centering = g.centering;
      count = head.count;
      operations = g.operations;
      generators = g.generators;
      steps = g.steps;
    }

-- No generators make the identity alone.
no-generators : outcome_of P [] ≡ group (identity_operation ∷ []) []
unfolding outcome_of first_off listing is_small same_vector_class on_list operation_of motion_of matrix_of vector_of entry_of digit_above digit_of inside
    row_inside all_inside
    agrees steps_from steady_from place same_matrix fresh run closure all residue unit origin nought one
no-generators = refl

alone : group_answer P [] ≡ answer_of P 0 (group (identity_operation ∷ []) [])
unfolding group_answer
alone = ap (answer_of P 0) no-generators

module _ (bytes : List ℕ) (h : HallSymbol) (e : h ≡ reader.answer_of (reader.read_symbol bytes)) (g : SpaceGroup)
    (made : g ≡ group_answer h.centering (take h.count h.generators)) (head : Head) (told : head ≡ head_by h.answer g.answer g.count) where
  by-reading : (s : reader.Reading) → h ≡ reader.answer_of s → laid head g ≡ reading_answer s
  by-reading (reader.symbol c gens) p =
      let own = told ∙ ap (λ (x : HallSymbol). head_by x.answer g.answer g.count) p in
      let grown = made ∙ ap (λ (x : HallSymbol). group_answer x.centering (take x.count x.generators)) p ∙ ap (group_answer c) (slots-listed gens) in
      ap (λ (x : Head). laid x g) own ∙ group-told c gens g grown
  by-reading (reader.refusal r) p =
      let own = told ∙ ap (λ (x : HallSymbol). head_by x.answer g.answer g.count) p in
      let grown = made ∙ ap (λ (x : HallSymbol). group_answer x.centering (take x.count x.generators)) p ∙ alone in
      ap₂ laid own grown

  -- The answer of a text: what it decides, over the slots of its generators' group.
  pub symbol-laid : laid head g ≡ symbol_answer bytes
  unfolding symbol_answer
  symbol-laid = by-reading (reader.read_symbol bytes) e

-- ---- the slots of a symbol's group
outcome-slots : (c : Centering) (n : ℕ) (gens : List Operation) (o : Outcome) → outcome_of c gens ≡ o → ((outcome_answer c n o).count ≤ 48)
    × (length (outcome_answer c n o).operations ≡ 48)
outcome-slots c n gens (group operations steps) e =
    let few = outcome-few c gens operations steps e in
    (few, padded-length 48 identity_operation operations few)
outcome-slots c n gens (refused r) e = (omega arith, refl)

reading-slots : (s : reader.Reading) → ((reading_answer s).count ≤ 48) × (length (reading_answer s).operations ≡ 48)
reading-slots (reader.symbol c gens) = outcome-slots c (length gens) gens (outcome_of c gens) refl
reading-slots (reader.refusal r) = (omega arith, refl)

-- At most 48 operations, in 48 slots.
pub symbol-slots : (bytes : List ℕ) → ((symbol_answer bytes).count ≤ 48) × (length (symbol_answer bytes).operations ≡ 48)
unfolding symbol_answer
symbol-slots bytes = reading-slots (reader.read_symbol bytes)

module _ (bytes : List ℕ) (g : SymbolGroup) (e : g ≡ symbol_answer bytes) where
  -- Refused, whatever is asked for.
  pub order-refused : (r : Refusal) → g.answer ≡ Refused r → Err r ≡ order_of bytes
  unfolding order_of
  order-refused r a = rw (← e, a)

  pub operation-refused : (r : Refusal) (i : ℕ) → g.answer ≡ Refused r → Err r ≡ operation_at bytes i
  unfolding operation_at
  operation-refused r i a = rw (← e, a)

  module _ (a : g.answer ≡ Group) where
    pub order-given : Ok g.count ≡ order_of bytes
    unfolding order_of
    order-given = rw (← e, a)

    -- Past the end.
    pub operation-past : (i : ℕ) → g.count ≤ i → Ok None ≡ operation_at bytes i
    unfolding operation_at
    operation-past i h = rw (← e, a, le-ltb i g.count h)

    -- An index that is used is below 48.
    pub index-small : (i : ℕ) → i < g.count → i < 48
    index-small i h = omega (arith, symbol-slots bytes, ap (λ (g : SymbolGroup). g.count) e)

    pub operation-given : (i : ℕ) (d : Operation) → i < g.count → Ok (Some (get_or g.operations i d)) ≡ operation_at bytes i
    unfolding operation_at
    operation-given i d h =
        let within : i < length g.operations = omega (
          arith,
          symbol-slots bytes,
          ap (λ (g : SymbolGroup). g.count) e,
          ap (λ (g : SymbolGroup). length g.operations) e,
        ) in
        rw (← e, a, lt-ltb i g.count h, at-any g.operations i d identity_operation within)

-- The translation of what was found.
pub translation-found : (bytes : List ℕ) (i : ℕ) (f g : Result (Option Operation) Refusal) → f ≡ operation_at bytes i → f ≡ g
    → translation_of_found g ≡ translation_at bytes i
unfolding translation_at
translation-found bytes i f g p q = ap translation_of_found (sym q ∙ p)
