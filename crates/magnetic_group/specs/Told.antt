-- What is answered for a magnetic symbol's text, by number and place: the order exactly if the text spells a symbol whose generators are accepted, the reader's
-- refusals 1 to 11 and 17 as it tells them, and 12, 13 and 14 each exactly if its rule holds. Number, place and value determine the answer.
use Rattle.std.proofs.Math.Path.{◌≡◌, sym, ap, subst}
use Rattle.std.specs.Prelude.{refl, ◌↔◌, Bool, List, ℕ, length, Err, Ok, Result}
use Rattle.std.proofs.Common.{◌∙◌, arith}
use Rattle.std.proofs.Math.Logic.{inl, inr}
use Rattle.group_growth.specs.Flagged.{Flagged}
use Rattle.operation.specs.Answer as answer
use Rattle.operation.specs.declared.Operation.{Operation}
use Rattle.centering.specs.declared.Centering.{Centering}
use Rattle.hall_symbol.specs.Refusals as text-numbers
use Rattle.hall_symbol.specs.declared.refusal.Refusal as reading
use Rattle.space_group.specs.Generated.{AllKeep}
use Rattle.space_group.specs.FlaggedGenerators.{with_flags}
use Rattle.space_group.specs.declared.refusal.Refusal as generators
use Rattle.space_group.specs.declared.refusal.Refusal.TheVariants.{Lattice, Rotations, Translations}
use Rattle.space_group.specs.FlaggedOutcomes.{plain_of}
use Rattle.space_group_theorems.specs.Acceptance.{FirstOff}
use Rattle.symbol_group.specs.Refusals.{number_of, place_of}
use Rattle.symbol_group.specs.Told.{told-once}
use Rattle.symbol_group.specs.declared.refusal.Refusal.TheVariants.{Text, Group as NoGroup}
use Rattle.magnetic_symbol.specs.Told.{MagneticSpells, MagneticRefuses, magnetic-says}
use Rattle.magnetic_group.specs.Generated.{FewPairs, SmallPairs, OneTranslation, group, refused, outcome_of}
use Rattle.magnetic_group.specs.Symbols.{SymbolOutcome, made, misread, magnetic_outcome, made-spelled, spelled-outcome, refused-outcome, symbol-accepted, symbol-twelve, symbol-thirteen, symbol-fourteen}
use Rattle.magnetic_group.specs.Answers.{order_by, order_answer}
use Rattle.symbol_group.specs.declared.refusal.Refusal.{Refusal}

-- ---- number, place and value
pub order-once : (a b : Result ℕ Refusal) → order_answer a ≡ order_answer b → a ≡ b
order-once (Ok n) (Ok m) e = let z : n ≡ m = cc in ap Ok z
order-once (Ok n) (Err s) e = let z : ◌≡◌ {A = ℕ} 0 1 = cc in absurd (omega arith)
order-once (Err r) (Ok m) e = let z : ◌≡◌ {A = ℕ} 0 1 = cc in absurd (omega arith)
order-once (Err r) (Err s) e =
    let p : number_of r ≡ number_of s = cc in let q : place_of r ≡ place_of s = cc in ap Err (told-once r s p q)

-- ---- by the text
-- The text spells a symbol of whose generators this is true.
abbrev pub Spelled : List ℕ → (Centering → List (Flagged Operation) → Type 0) → Type 0
Spelled text True = (c : Centering) × (gs : List Operation) × (fs : List Bool) × MagneticSpells text c gs fs × True c (with_flags gs fs)

-- The order of a text's group, or its refusal.
unfoldable pub told : List ℕ → answer.Answer ℕ answer.Nothing
told text = order_answer (order_by (magnetic_outcome text))

-- A refusal is that of the generators,
by-made : (o : SymbolOutcome) (c : Centering) (r : generators.Refusal) → o ≡ made c (refused r)
    → order_answer (order_by o) ≡ answer.refused (number_of (NoGroup r)) (place_of (NoGroup r)) tt
by-made o c r e = rw e refl

-- and comes from them alone,
made_by : (o : SymbolOutcome) (r : generators.Refusal) → order_by o ≡ Err (NoGroup r) → (c : Centering) × (o ≡ made c (refused r))
made_by (made c (group operations steps)) r e = let z : ◌≡◌ {A = ℕ} 0 1 = cc in absurd (omega arith)
made_by (made c (refused q)) r e = let z : q ≡ r = cc in (c, ap (λ q. made c (refused q)) z)
made_by (misread q) r e = let z : ◌≡◌ {A = ℕ} 0 1 = cc in absurd (omega arith)

-- or that of the reader.
misread-by : (o : SymbolOutcome) (r : reading.Refusal) → order_by o ≡ Err (Text r) → o ≡ misread r
misread-by (made c (group operations steps)) r e = let z : ◌≡◌ {A = ℕ} 0 1 = cc in absurd (omega arith)
misread-by (made c (refused q)) r e = let z : ◌≡◌ {A = ℕ} 0 1 = cc in absurd (omega arith)
misread-by (misread q) r e = let z : q ≡ r = cc in ap misread z

group-by : (o : SymbolOutcome) (n : ℕ) → order_answer (order_by o) ≡ answer.given n
    → (c : Centering) × (operations : List (Flagged Operation)) × (steps : List ℕ) × (o ≡ made c (group operations steps)) × (length operations ≡ n)
group-by (made c (group operations steps)) n e = (c, operations, steps, refl, cc)
group-by (made c (refused r)) n e = let z : ◌≡◌ {A = ℕ} 0 1 = cc in absurd (omega arith)
group-by (misread r) n e = let z : ◌≡◌ {A = ℕ} 0 1 = cc in absurd (omega arith)

module _ (text : List ℕ) where
  -- An order is given exactly if the text spells a symbol whose generators are accepted.
  pub given-exactly : ((n : ℕ) × (told text ≡ answer.given n))
      ↔ Spelled text (λ c gens. AllKeep c (plain_of gens) × FewPairs gens × SmallPairs gens × OneTranslation c gens)
  unfolding told
  given-exactly = (
    (λ (n, e).
        let (c, operations, steps, is, _) = group-by (magnetic_outcome text) n e in
        let (gs, fs, spells, _) = made-spelled text c (group operations steps) is in
        (c, gs, fs, spells, (symbol-accepted text c gs fs spells).0 (operations, steps, is))),
    λ (c, gs, fs, spells, h).
        let (operations, steps, is) = (symbol-accepted text c gs fs spells).1 h in
        (length operations, ap (λ o. order_answer (order_by o)) is),
  )

  -- A refusal of the generators, by number and place,
  told-made : (r : generators.Refusal) → (told text ≡ answer.refused (number_of (NoGroup r)) (place_of (NoGroup r)) tt)
      ↔ ((c : Centering) × (magnetic_outcome text ≡ made c (refused r)))
  unfolding told
  told-made r = (
    (λ e. made_by (magnetic_outcome text) r (order-once (order_by (magnetic_outcome text)) (Err (NoGroup r)) e)),
    λ (c, e). by-made (magnetic_outcome text) c r e,
  )

  -- and of the reader.
  pub text-exactly : (r : reading.Refusal) → (told text ≡ answer.refused (text-numbers.number_of r) (text-numbers.place_of r) tt) ↔ MagneticRefuses text r
  unfolding told
  text-exactly r = (
    (λ e. misread-refuses (misread-by (magnetic_outcome text) r (order-once (order_by (magnetic_outcome text)) (Err (Text r)) e))),
    λ m. ap (λ o. order_answer (order_by o)) (refused-outcome text r m),
  )
    where
      misread-refuses : magnetic_outcome text ≡ misread r → MagneticRefuses text r
      misread-refuses e = elim (magnetic-says text) [
        | inl (c, gs, fs, m) ↦
            let both : made c (outcome_of c (with_flags gs fs)) ≡ misread r = sym (spelled-outcome text c gs fs m) ∙ e in
            let z : ◌≡◌ {A = ℕ} 0 1 = cc in
            absurd (omega arith)
        | inr (q, m) ↦
            let both : misread q ≡ misread r = sym (refused-outcome text q m) ∙ e in
            let z : q ≡ r = cc in
            subst (MagneticRefuses text) z m
      ]

  -- 12 at i: the text spells a symbol, and generator i is the first that does not map L onto L.
  pub twelve-exactly : (i : ℕ) → (told text ≡ answer.refused 12 i tt)
      ↔ Spelled text (λ c gens. FirstOff c (plain_of gens) i)
  twelve-exactly i = (
    (λ e.
        let (c, is) = (told-made (Lattice i)).0 e in
        let (gs, fs, spells, _) = made-spelled text c (refused (Lattice i)) is in
        (c, gs, fs, spells, (symbol-twelve text c gs fs spells i).0 is)),
    λ (c, gs, fs, spells, h). (told-made (Lattice i)).1 (c, (symbol-twelve text c gs fs spells i).1 h),
  )

  -- 13 at 0: all do, and not both hold: at most 96 pairs of rotation and flag are generated, and all entries are in −1..1.
  pub thirteen-exactly : (told text ≡ answer.refused 13 0 tt)
      ↔ Spelled text (λ c gens. AllKeep c (plain_of gens) × (¬ (FewPairs gens × SmallPairs gens)))
  thirteen-exactly = (
    (λ e.
        let (c, is) = (told-made Rotations).0 e in
        let (gs, fs, spells, _) = made-spelled text c (refused Rotations) is in
        (c, gs, fs, spells, (symbol-thirteen text c gs fs spells).0 is)),
    λ (c, gs, fs, spells, h). (told-made Rotations).1 (c, (symbol-thirteen text c gs fs spells).1 h),
  )

  -- 14 at 0: all that is well, and not every generated motion with identity rotation and without the flag has its translation in L.
  pub fourteen-exactly : (told text ≡ answer.refused 14 0 tt)
      ↔ Spelled text (λ c gens. AllKeep c (plain_of gens) × FewPairs gens × SmallPairs gens × (¬ OneTranslation c gens))
  fourteen-exactly = (
    (λ e.
        let (c, is) = (told-made Translations).0 e in
        let (gs, fs, spells, _) = made-spelled text c (refused Translations) is in
        (c, gs, fs, spells, (symbol-fourteen text c gs fs spells).0 is)),
    λ (c, gs, fs, spells, h). (told-made Translations).1 (c, (symbol-fourteen text c gs fs spells).1 h),
  )
