-- What is answered for generators by number and place, 12 to 14; number, place and value determine the answer.
use Rattle.std.specs.Prelude.{◌≡◌, refl, ◌⊎◌, ◌↔◌, List, ℕ, ◌-◌, ◌≤◌, length, take, replicate}
use Rattle.std.proofs.Common.{◌∙◌, ap, inl, inr, arith, take_at}
use Rattle.operation.specs.Answer as answer
use Rattle.operation.specs.Product.{identity_operation}
use Rattle.operation.specs.declared.Operation.{Operation}
use Rattle.centering.specs.declared.Centering.{Centering}
use Rattle.space_group.specs.Refusals.{number_of, place_of, operations_by, operations_answer}
use Rattle.space_group.specs.Generated.{Outcome, group, refused, outcome_of}
use Rattle.space_group.specs.Slots.{answer_of, group_answer}
use Rattle.space_group.specs.declared.refusal.Refusal.{Refusal}
use Rattle.space_group.specs.declared.refusal.Refusal.TheVariants.{Lattice, Rotations, Translations}
use Rattle.space_group.specs.declared.Answer.{Answer}
use Rattle.space_group.specs.declared.Answer.TheVariants.{Group, Refused}

-- ---- number, place and value
-- The numbers are 12 to 14.
pub number-range : (r : Refusal) → (12 ≤ number_of r) × (number_of r ≤ 14)
number-range (Lattice i) = (omega arith, omega arith)
number-range Rotations = (omega arith, omega arith)
number-range Translations = (omega arith, omega arith)

-- Number and place determine the refusal.
pub told-once : (r s : Refusal) → number_of r ≡ number_of s → place_of r ≡ place_of s → r ≡ s
told-once (Lattice i) (Lattice j) p q = ap Lattice q
told-once (Lattice i) Rotations p q = absurd (omega arith)
told-once (Lattice i) Translations p q = absurd (omega arith)
told-once Rotations (Lattice j) p q = absurd (omega arith)
told-once Rotations Rotations p q = refl
told-once Rotations Translations p q = absurd (omega arith)
told-once Translations (Lattice j) p q = absurd (omega arith)
told-once Translations Rotations p q = absurd (omega arith)
told-once Translations Translations p q = refl

-- Number, place and value determine the answer.
pub answer-once : (a b : Answer) (l m : List Operation) → operations_by a l ≡ operations_by b m → (a ≡ b) × (a ≡ Group → l ≡ m)
answer-once Group Group l m e = (refl, λ _. cc)
answer-once Group (Refused s) l m e = let z : ◌≡◌ {A = ℕ} 0 1 = cc in absurd (omega arith)
answer-once (Refused r) Group l m e = let z : ◌≡◌ {A = ℕ} 0 1 = cc in absurd (omega arith)
answer-once (Refused r) (Refused s) l m e =
    let p : number_of r ≡ number_of s = cc in
    let q : place_of r ≡ place_of s = cc in
    (ap Refused (told-once r s p q), λ f. let z : ◌≡◌ {A = ℕ} 0 1 = cc in absurd (omega arith))

-- ---- by the outcome
-- The list is that of the outcome,
outcome-given : (c : Centering) (n : ℕ) (o : Outcome) (operations : List Operation)
    → (operations_answer (answer_of c n o) ≡ answer.given operations) ↔ ((steps : List ℕ) × (o ≡ group operations steps))
outcome-given c n (group listed steps) operations =
    let slots = (answer_of c n (group listed steps)).operations in
    let front : take (length listed) slots ≡ listed = take_at listed (replicate (48 - length listed) identity_operation) (length listed) refl in (
      (λ e. let z : listed ≡ operations = cc in (steps, ap (λ l. group l steps) z)),
      λ (others, e). let z : listed ≡ operations = cc in ap answer.given (front ∙ z),
    )
outcome-given c n (refused r) operations = (
  (λ e. let z : ◌≡◌ {A = ℕ} 0 1 = cc in absurd (omega arith)),
  λ (_, e). let z : ◌≡◌ {A = ℕ} 0 1 = cc in absurd (omega arith),
)

-- and so is the refusal.
outcome-refused : (c : Centering) (n : ℕ) (o : Outcome) (r : Refusal)
    → (operations_answer (answer_of c n o) ≡ answer.refused (number_of r) (place_of r) tt) ↔ (o ≡ refused r)
outcome-refused c n (group listed steps) r = (
  (λ e. let z : ◌≡◌ {A = ℕ} 0 1 = cc in absurd (omega arith)),
  λ e. let z : ◌≡◌ {A = ℕ} 0 1 = cc in absurd (omega arith),
)
outcome-refused c n (refused q) r = (
  (λ e. let p : number_of q ≡ number_of r = cc in let h : place_of q ≡ place_of r = cc in ap refused (told-once q r p h)),
  λ e. let z : q ≡ r = cc in ap (λ r. answer.refused (number_of r) (place_of r) tt) z,
)

-- ---- by the generators
-- What is answered for them.
unfoldable pub told : Centering → List Operation → answer.Answer (List Operation) answer.Nothing
told c gens = operations_answer (group_answer c gens)

module _ (c : Centering) (gens : List Operation) where
  -- The list of the outcome,
  pub given-told : (operations : List Operation) → (told c gens ≡ answer.given operations) ↔ ((steps : List ℕ) × (outcome_of c gens ≡ group operations steps))
  unfolding told group_answer
  given-told operations = outcome-given c (length gens) (outcome_of c gens) operations

  -- or its refusal:
  refused-told : (r : Refusal) → (told c gens ≡ answer.refused (number_of r) (place_of r) tt) ↔ (outcome_of c gens ≡ refused r)
  unfolding told group_answer
  refused-told r = outcome-refused c (length gens) (outcome_of c gens) r

  -- 12 with the generator's index as its place,
  pub lattice-told : (i : ℕ) → (told c gens ≡ answer.refused 12 i tt) ↔ (outcome_of c gens ≡ refused (Lattice i))
  lattice-told i = refused-told (Lattice i)

  -- 13 at 0,
  pub rotations-told : (told c gens ≡ answer.refused 13 0 tt) ↔ (outcome_of c gens ≡ refused Rotations)
  rotations-told = refused-told Rotations

  -- 14 at 0,
  pub translations-told : (told c gens ≡ answer.refused 14 0 tt) ↔ (outcome_of c gens ≡ refused Translations)
  translations-told = refused-told Translations

-- and nothing else.
outcome-only : (c : Centering) (k : ℕ) (o : Outcome) (n p : ℕ) → operations_answer (answer_of c k o) ≡ answer.refused n p tt
    → (n ≡ 12) ⊎ (((n ≡ 13) × (p ≡ 0)) ⊎ ((n ≡ 14) × (p ≡ 0)))
outcome-only c k (group listed steps) n p e = let z : ◌≡◌ {A = ℕ} 0 1 = cc in absurd (omega arith)
outcome-only c k (refused (Lattice i)) n p e = inl cc
outcome-only c k (refused Rotations) n p e = inr (inl (cc, cc))
outcome-only c k (refused Translations) n p e = inr (inr (cc, cc))

pub refused-only : (c : Centering) (gens : List Operation) (n p : ℕ) → told c gens ≡ answer.refused n p tt
    → (n ≡ 12) ⊎ (((n ≡ 13) × (p ≡ 0)) ⊎ ((n ≡ 14) × (p ≡ 0)))
unfolding told group_answer
refused-only c gens n p e = outcome-only c (length gens) (outcome_of c gens) n p e
