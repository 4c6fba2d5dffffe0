-- How the answer for generators with flags, and the lent slots, come from the growth of their numbers.
use Rattle.std.specs.Prelude.{◌≡◌, Bool, true, false, List, ◌++◌, map, ℕ, ◌-◌, ◌≤◌, ◌<◌, min, length, take, drop, replicate, Result, Ok, Err}
use Rattle.std.specs.Result.{result_unwrap_or}
use Rattle.std.proofs.Math.Path.{refl, sym}
use Rattle.std.proofs.Common.{◌∙◌, ap, ap₂, subst, arith, length-drop, take_at, length-take-le, lt-ltb, le-ltb}
use Rattle.std.proofs.Math.Option.{Option, some, none}
use Rattle.std.proofs.Math.Decide.{dec_lt}
use Rattle.std.proofs.lemmas.List.{length-map}
use borrow.Rule.Slice.PartMut.{put_mid}
use Rattle.laws.specs.Growth.{Growth}
use Rattle.laws.specs.LentParts.{tail-part, tail-put}
use Rattle.group_growth.specs.Verdicts.{on_growth}
use Rattle.group_growth.specs.Flagged.{Flagged}
use Rattle.operation.specs.declared.Operation.{Operation}
use Rattle.centering.specs.declared.Centering.{Centering}
use Rattle.space_group.specs.Generated.{first_off}
use Rattle.space_group.specs.Resuming.{first-nine}
use Rattle.space_group.specs.NumberGrowth.{unit_number, number_growth}
use Rattle.space_group.specs.NumberSlots.{of_growth, Lists, held-front}
use Rattle.space_group.specs.Listings.{numbers_listing, listing-off, listing-grown}
use Rattle.space_group.specs.FlaggedGenerators.{with_flags, flagged_number, with-length, plain-with}
use Rattle.space_group.specs.FlaggedOutcomes.{ListOutcome, group, refused, of_verdict, plain_of, number_outcome, answer_by, slots_by}
use Rattle.space_group.specs.declared.refusal.Refusal.{Refusal}
use Rattle.space_group.specs.declared.refusal.Refusal.TheVariants.{Lattice}

-- The answer of what was listed.
abbrev pub answered : Result ℕ Refusal → Result ℕ Refusal
answered (Ok n) = Ok n
answered (Err r) = Err r

-- Slots that hold the identity from a place on.
unfoldable pub cleared : ℕ → List ℕ → List ℕ
cleared from slots = take from slots ++ replicate (length slots - from) unit_number

-- So they are after the part from there on is filled with it.
pub part-cleared : (slots part : List ℕ) (from : ℕ) → part ≡ replicate (length (take (length slots - from) (drop from slots))) unit_number
    → put_mid from (length slots - from) slots part ≡ cleared from slots
unfolding cleared
part-cleared slots part from e =
    let long : length (take (length slots - from) (drop from slots)) ≡ length slots - from = ap length (tail-part slots from) ∙ length-drop from slots in
    tail-put slots part from ∙ ap (λ l. take from slots ++ l) (e ∙ ap (λ (k : ℕ). replicate k unit_number) long)

-- ---- what the numbers come to
module _ (c : Centering) (gens : List (Flagged Operation)) where
  pub numbers-off : first_off c (plain_of gens) < length gens → number_outcome c gens ≡ refused (Lattice (first_off c (plain_of gens)))
  unfolding number_outcome
  numbers-off h = rw (lt-ltb (first_off c (plain_of gens)) (length gens) h)

  pub numbers-grown : length gens ≤ first_off c (plain_of gens) → number_outcome c gens ≡ of_verdict (on_growth (number_growth c 96 (map flagged_number gens)))
  unfolding number_outcome
  numbers-grown h = rw (le-ltb (first_off c (plain_of gens)) (length gens) h)

-- ---- what is listed
-- The numbers in list order, or why there are none.
abbrev pub outcome_by : Result (Growth ℕ) Refusal → ListOutcome ℕ
outcome_by (Ok s) = group s.found
outcome_by (Err r) = refused r

module _ (c : Centering) (gens : List (Flagged Operation)) where
  grown-says : (o : Option (Growth ℕ)) → of_verdict (on_growth o) ≡ outcome_by (of_growth o)
  grown-says none = refl
  grown-says (some s) = by-test s.steady refl
    where
      by-test : (b : Bool) → s.steady ≡ b → of_verdict (on_growth (some s)) ≡ outcome_by (of_growth (some s))
      by-test true t = rw t refl
      by-test false t = rw t refl

  pub listing-says : number_outcome c gens ≡ outcome_by (numbers_listing c 96 (plain_of gens) (map flagged_number gens))
  listing-says = elim (dec_lt (first_off c (plain_of gens)) (length (plain_of gens))) [
    | yes h ↦
        numbers-off c gens (omega (arith, long))
        ∙ sym (ap outcome_by (listing-off c 96 (plain_of gens) (map flagged_number gens) h))
    | no h ↦
        let low : length (plain_of gens) ≤ first_off c (plain_of gens) = omega arith in
        numbers-grown c gens (omega (arith, long, low)) ∙ grown-says (number_growth c 96 (map flagged_number gens))
        ∙ sym (ap outcome_by (listing-grown c 96 (plain_of gens) (map flagged_number gens) low))
  ]
    where
      long : length (plain_of gens) ≡ length gens
      long = length-map gens (λ (g : Flagged Operation). g.element)

module _ (o : Result (Growth ℕ) Refusal) (ended : Result ℕ Refusal) (before numbers noughts steps : List ℕ)
    (E : Lists o ended before numbers noughts steps) (wide : length before ≡ 96) where
  -- The answer is told,
  pub answer-told : answered ended ≡ answer_by (outcome_by o)
  answer-told = by_answer o E
    where
      by_answer : (o : Result (Growth ℕ) Refusal) → Lists o ended before numbers noughts steps → answered ended ≡ answer_by (outcome_by o)
      by_answer (Ok s) e = ap answered e.0
      by_answer (Err r) e = ap answered e

  -- the list fits the slots,
  pub count-within : result_unwrap_or ended 0 ≤ 96
  count-within = by_answer o E
    where
      by_answer : (o : Result (Growth ℕ) Refusal) → Lists o ended before numbers noughts steps → result_unwrap_or ended 0 ≤ 96
      by_answer (Ok s) e = rw e.0 (omega (arith, e.1.few, wide))
      by_answer (Err r) e = rw e (omega arith)

  -- and cleared behind it they are those of the outcome.
  pub slots-cleared : length numbers ≡ 96 → cleared (result_unwrap_or ended 0) numbers ≡ slots_by (outcome_by o)
  unfolding cleared
  slots-cleared long = by_answer o E
    where
      by_answer : (o : Result (Growth ℕ) Refusal) → Lists o ended before numbers noughts steps
          → cleared (result_unwrap_or ended 0) numbers ≡ slots_by (outcome_by o)
      by_answer (Ok s) e = rw (e.0, held-front s ended before numbers noughts steps e.1, long) refl
      by_answer (Err r) e = rw (e, long) refl

-- ---- the first n of nine generators
module _ (c : Centering) (n : ℕ) (generators : List Operation) (flags : List Bool) (nine : length generators ≡ 9) (also : length flags ≡ 9) where
  module _ (used : ℕ) (few : used ≡ min n 9) (factors : List ℕ)
      (made : factors ≡ map flagged_number (with_flags (take used generators) (take used flags)) ++ drop (length (take used generators)) (replicate 9 0)) where
    -- Their list is what is answered.
    used-says : outcome_by (numbers_listing c 96 (take used generators) (take used factors)) ≡ number_outcome c (with_flags (take n generators) (take n flags))
    used-says =
        let gens = with_flags (take used generators) (take used flags) in
        let long : length (take used generators) ≡ used = length-take-le used generators (omega arith) in
        let wide : length (map flagged_number gens) ≡ used =
        length-map gens flagged_number ∙ with-length (take used generators) (take used flags) ∙ long in
        let front = ap (take used) made ∙ take_at (map flagged_number gens) (drop (length (take used generators)) (replicate 9 0)) used wide in
        let first : take used generators ≡ take n generators = ap (λ (k : ℕ). take k generators) few ∙ first-nine n generators nine in
        let second : take used flags ≡ take n flags = ap (λ (k : ℕ). take k flags) few ∙ first-nine n flags also in
        ap₂ (λ (g : List Operation) (l : List ℕ). outcome_by (numbers_listing c 96 g l)) (sym (plain-with (take used generators) (take used flags))) front
        ∙ sym (listing-says c gens) ∙ ap₂ (λ (g : List Operation) (f : List Bool). number_outcome c (with_flags g f)) first second

    -- So are the answer, and the slots, the identity written behind the list.
    pub flagged-told : (ended : Result ℕ Refusal) (before numbers noughts steps : List ℕ)
        → Lists (numbers_listing c (length before) (take used generators) (take used factors)) ended before numbers noughts steps → length before ≡ 96
        → length numbers ≡ 96 → (from : ℕ) → from ≡ result_unwrap_or ended 0 → (part : List ℕ)
        → part ≡ replicate (length (take (96 - from) (drop from numbers))) unit_number
        → (answered ended ≡ answer_by (number_outcome c (with_flags (take n generators) (take n flags))))
        × (put_mid from (96 - from) numbers part ≡ slots_by (number_outcome c (with_flags (take n generators) (take n flags))))
    flagged-told ended before numbers noughts steps E wide long from f part e =
        let o = numbers_listing c 96 (take used generators) (take used factors) in
        let own : Lists o ended before numbers noughts steps =
        subst (λ (w : ℕ). Lists (numbers_listing c w (take used generators) (take used factors)) ended before numbers noughts steps) wide E in
        let put : put_mid from (96 - from) numbers part ≡ cleared from numbers =
        subst (λ (w : ℕ). part ≡ replicate (length (take (w - from) (drop from numbers))) unit_number
        → put_mid from (w - from) numbers part ≡ cleared from numbers)
        long (part-cleared numbers part from) e in (
          answer-told o ended before numbers noughts steps own wide ∙ ap answer_by used-says,
          put ∙ ap (λ (k : ℕ). cleared k numbers) f ∙ slots-cleared o ended before numbers noughts steps own wide long ∙ ap slots_by used-says,
        )
