-- What is answered for a text, exactly: a group if the text spells a symbol that R3.5 accepts, and each refusal if its rule holds.
use Rattle.std.specs.Prelude.{◌≡◌, refl, ◌↔◌, List, ◌∷◌, ℕ, length}
use Rattle.std.proofs.Common.{ap, arith}
use mathlib.Core.List.Memᴰ.{head as here}
use mathlib.Core.List.Memᴰ.{tail as there}
use Rattle.operation.specs.Entries.{digits-entries}
use Rattle.operation.specs.declared.Operation.{Operation}
use Rattle.centering.specs.declared.Centering.{Centering}
use Rattle.hall_symbol.specs.Reader.{Reading, symbol, refusal, read_symbol}
use Rattle.hall_symbol.specs.Spelling.{Spells, Refuses}
use Rattle.hall_symbol.specs.Agreement.{symbol-exactly, refusal-exactly}
use Rattle.hall_symbol.specs.Answers.{AllReduced, symbol-reduced}
use Rattle.hall_symbol.specs.declared.refusal.Refusal as text
use Rattle.space_group.specs.Generated.{AllKeep, FewRotations, SmallRotations, OneTranslation, Outcome, group, refused, outcome_of}
use Rattle.space_group_theorems.specs.Acceptance.{SmallGenerators, FirstOff, accepted-exactly}
use Rattle.space_group_theorems.specs.Acceptance as acceptance
use Rattle.space_group.specs.declared.refusal.Refusal as generators
use Rattle.space_group.specs.declared.refusal.Refusal.TheVariants.{Lattice, Rotations, Translations}
use Rattle.symbol_group.specs.Answers.{outcome_answer, reading_answer, symbol_answer}
use Rattle.symbol_group.specs.declared.refusal.Refusal.TheVariants.{Text, Group as NoGroup}
use Rattle.symbol_group.specs.declared.Answer.TheVariants.{Group, Refused}

-- A symbol's generators have their entries in −1..1.
reduced-small : (gens : List Operation) → AllReduced gens → SmallGenerators gens
reduced-small (g ∷ gens) h o (here p) = rw p ((digits-entries g.rotation).0 h.0.digits)
reduced-small (g ∷ gens) h o (there m) = reduced-small gens h.1 o m
reduced-small mathlib.Core.List.[] h o x'' = elim x'' [ ]

pub symbol-small : (bytes : List ℕ) (c : Centering) (gens : List Operation) → Spells bytes c gens → SmallGenerators gens
symbol-small bytes c gens s = reduced-small gens (symbol-reduced bytes c gens s)

-- ---- by the reading
-- What the answer of an outcome is.
outcome-is-group : (c : Centering) (n : ℕ) (o : Outcome)
    → ((outcome_answer c n o).answer ≡ Group) ↔ ((operations : List Operation) × (steps : List ℕ) × (o ≡ group operations steps))
outcome-is-group c n (group operations steps) = ((λ _. (operations, steps, refl)), λ _. refl)
outcome-is-group c n (refused r) = (
  (λ e. let z : ◌≡◌ {A = ℕ} 0 1 = cc in absurd (omega arith)),
  λ (_, _, e). let z : ◌≡◌ {A = ℕ} 0 1 = cc in
      absurd (omega arith),
)

outcome-is-refused : (c : Centering) (n : ℕ) (o : Outcome) (r : generators.Refusal) → ((outcome_answer c n o).answer ≡ Refused (NoGroup r)) ↔ (o ≡ refused r)
outcome-is-refused c n (group operations steps) r =
    ((λ e. let z : ◌≡◌ {A = ℕ} 0 1 = cc in absurd (omega arith)), λ e. let z : ◌≡◌ {A = ℕ} 0 1 = cc in absurd (omega arith))
outcome-is-refused c n (refused q) r = ((λ e. let z : q ≡ r = cc in ap refused z), λ e. let z : q ≡ r = cc in ap (λ r. Refused (NoGroup r)) z)

-- Not of the text.
outcome-no-text : (c : Centering) (n : ℕ) (o : Outcome) (r : text.Refusal) → ¬ ((outcome_answer c n o).answer ≡ Refused (Text r))
outcome-no-text c n (group operations steps) r e = let z : ◌≡◌ {A = ℕ} 0 1 = cc in omega arith
outcome-no-text c n (refused q) r e = let z : ◌≡◌ {A = ℕ} 0 1 = cc in omega arith

reading-is-group : (s : Reading) → ((reading_answer s).answer ≡ Group) ↔ ((c : Centering) × (gens : List Operation) × (s ≡ symbol c gens)
    × ((operations : List Operation) × (steps : List ℕ) × (outcome_of c gens ≡ group operations steps)))
reading-is-group (symbol c gens) = (
  (λ e. (c, gens, refl, (outcome-is-group c (length gens) (outcome_of c gens)).0 e)),
  λ (d, hens, e, h).
      let z : c ≡ d = cc in
      let w : gens ≡ hens = cc in
      (outcome-is-group c (length gens) (outcome_of c gens)).1 (rw (z, w) h),
)
reading-is-group (refusal r) = (
  (λ e. let z : ◌≡◌ {A = ℕ} 0 1 = cc in absurd (omega arith)),
  λ (_, _, e, _). let z : ◌≡◌ {A = ℕ} 0 1 = cc in
      absurd (omega arith),
)

reading-is-refused : (s : Reading) (r : generators.Refusal)
    → ((reading_answer s).answer ≡ Refused (NoGroup r)) ↔ ((c : Centering) × (gens : List Operation) × (s ≡ symbol c gens) × (outcome_of c gens ≡ refused r))
reading-is-refused (symbol c gens) r = (
  (λ e. (c, gens, refl, (outcome-is-refused c (length gens) (outcome_of c gens) r).0 e)),
  λ (d, hens, e, h).
      let z : c ≡ d = cc in
      let w : gens ≡ hens = cc in
      (outcome-is-refused c (length gens) (outcome_of c gens) r).1 (rw (z, w) h),
)
reading-is-refused (refusal q) r = (
  (λ e. let z : ◌≡◌ {A = ℕ} 0 1 = cc in absurd (omega arith)),
  λ (_, _, e, _). let z : ◌≡◌ {A = ℕ} 0 1 = cc in
      absurd (omega arith),
)

reading-is-text : (s : Reading) (r : text.Refusal) → ((reading_answer s).answer ≡ Refused (Text r)) ↔ (s ≡ refusal r)
reading-is-text (symbol c gens) r = (
  (λ e. absurd (outcome-no-text c (length gens) (outcome_of c gens) r e)),
  λ e. let z : ◌≡◌ {A = ℕ} 0 1 = cc in
      absurd (omega arith),
)
reading-is-text (refusal q) r = ((λ e. let z : q ≡ r = cc in ap refusal z), λ e. let z : q ≡ r = cc in ap (λ r. Refused (Text r)) z)

-- ---- by the text
module _ (bytes : List ℕ) where
  -- A group is answered exactly if the text spells a symbol and R3.5 accepts its generators.
  pub group-exactly : ((symbol_answer bytes).answer ≡ Group) ↔ ((c : Centering) × (gens : List Operation) × Spells bytes c gens
      × (AllKeep c gens × FewRotations gens × SmallRotations gens × OneTranslation c gens))
  unfolding symbol_answer
  group-exactly = (
    (λ e.
        let (c, gens, p, h) = (reading-is-group (read_symbol bytes)).0 e in
        let s = (symbol-exactly bytes c gens).0 p in
        (c, gens, s, (accepted-exactly c gens (symbol-small bytes c gens s)).0 h)),
    λ (c, gens, s, h). (reading-is-group (read_symbol bytes)).1 (
      c,
      gens,
      (symbol-exactly bytes c gens).1 s,
      (accepted-exactly c gens (symbol-small bytes c gens s)).1 h,
    ),
  )

  -- 1 to 11: exactly if the rule of the text's refusal holds.
  pub text-exactly : (r : text.Refusal) → ((symbol_answer bytes).answer ≡ Refused (Text r)) ↔ Refuses bytes r
  unfolding symbol_answer
  text-exactly r = (
    (λ e. (refusal-exactly bytes r).0 ((reading-is-text (read_symbol bytes) r).0 e)),
    λ h. (reading-is-text (read_symbol bytes) r).1 ((refusal-exactly bytes r).1 h),
  )

  -- 12 to 14 by the outcome of its generators.
  pub generators-refused : (r : generators.Refusal) → ((symbol_answer bytes).answer ≡ Refused (NoGroup r)) ↔ ((c : Centering) × (gens : List Operation)
      × Spells bytes c gens × (outcome_of c gens ≡ refused r))
  unfolding symbol_answer
  generators-refused r = (
    (λ e. let (c, gens, p, h) = (reading-is-refused (read_symbol bytes) r).0 e in (c, gens, (symbol-exactly bytes c gens).0 p, h)),
    λ (c, gens, s, h). (reading-is-refused (read_symbol bytes) r).1 (c, gens, (symbol-exactly bytes c gens).1 s, h),
  )

  -- 12: exactly if the text spells a symbol and generator i is the first that does not map L onto L.
  pub lattice-exactly : (i : ℕ) → ((symbol_answer bytes).answer ≡ Refused (NoGroup (Lattice i))) ↔ ((c : Centering) × (gens : List Operation)
      × Spells bytes c gens × FirstOff c gens i)
  lattice-exactly i = (
    (λ e. let (c, gens, s, h) = (generators-refused (Lattice i)).0 e in (c, gens, s, (acceptance.lattice-exactly c gens (symbol-small bytes c gens s) i).0 h)),
    λ (c, gens, s, h). (generators-refused (Lattice i)).1 (c, gens, s, (acceptance.lattice-exactly c gens (symbol-small bytes c gens s) i).1 h),
  )

  -- 13: exactly if all generators do, and not both hold: at most 48 rotations are generated, and all their entries are in −1..1.
  pub rotations-exactly : ((symbol_answer bytes).answer ≡ Refused (NoGroup Rotations)) ↔ ((c : Centering) × (gens : List Operation) × Spells bytes c gens
      × (AllKeep c gens × (¬ (FewRotations gens × SmallRotations gens))))
  rotations-exactly = (
    (λ e. let (c, gens, s, h) = (generators-refused Rotations).0 e in (c, gens, s, (acceptance.rotations-exactly c gens (symbol-small bytes c gens s)).0 h)),
    λ (c, gens, s, h). (generators-refused Rotations).1 (c, gens, s, (acceptance.rotations-exactly c gens (symbol-small bytes c gens s)).1 h),
  )

  -- 14: exactly if all that is well, and not every generated motion with identity rotation has its translation in L.
  pub translations-exactly : ((symbol_answer bytes).answer ≡ Refused (NoGroup Translations)) ↔ ((c : Centering) × (gens : List Operation)
      × Spells bytes c gens × (AllKeep c gens × FewRotations gens × SmallRotations gens × (¬ OneTranslation c gens)))
  translations-exactly = (
    (λ e. let (c, gens, s, h) = (generators-refused Translations).0 e in
        (c, gens, s, (acceptance.translations-exactly c gens (symbol-small bytes c gens s)).0 h)),
    λ (c, gens, s, h). (generators-refused Translations).1 (c, gens, s, (acceptance.translations-exactly c gens (symbol-small bytes c gens s)).1 h),
  )
