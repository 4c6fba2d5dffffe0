-- What is answered for the text of a magnetic symbol: the group of its generators with their flags, or the refusal of the text; each exactly when.
use Rattle.std.specs.Prelude.{◌≡◌, refl, ◌⊎◌, ◌↔◌, Bool, false, List, [], ◌∷◌, map, ℕ, ◌-◌, length, take, replicate}
use Rattle.std.proofs.Common.{sym, ◌∙◌, ap, ap₂, subst, inl, inr, arith}
use Rattle.std.proofs.Math.Seq.{take-append_seam}
use Rattle.group_growth.specs.Flagged.{Flagged}
use Rattle.operation.specs.declared.Operation.{Operation}
use Rattle.centering.specs.declared.Centering.{Centering}
use Rattle.hall_symbol.specs.Answers.{slots-listed}
use Rattle.hall_symbol.specs.declared.Answer.{Answer}
use Rattle.hall_symbol.specs.declared.Answer.TheVariants.{Symbol, Refused}
use Rattle.hall_symbol.specs.declared.refusal.Refusal as reading
use Rattle.space_group.specs.Generated.{AllKeep}
use Rattle.space_group.specs.declared.refusal.Refusal.TheVariants.{Lattice, Rotations, Translations}
use Rattle.space_group.specs.FlaggedGenerators.{with_flags, plain-with}
use Rattle.space_group.specs.FlaggedOutcomes.{plain_of}
use Rattle.space_group_theorems.specs.Acceptance.{SmallGenerators, FirstOff}
use Rattle.symbol_group.specs.Exactly.{symbol-small}
use Rattle.magnetic_symbol.specs.Answer.{magnetic_answer}
use Rattle.magnetic_symbol.specs.FlagSlots.{flags_in}
use Rattle.magnetic_symbol.specs.Told.{MagneticSpells, MagneticRefuses, magnetic-exactly, magnetic-refused, magnetic-says}
use Rattle.magnetic_symbol.specs.declared.MagneticSymbol.{MagneticSymbol}
use Rattle.magnetic_group.specs.Generated.{FewPairs, SmallPairs, OneTranslation, MagneticOutcome, group, refused, outcome_of}
use Rattle.magnetic_group.specs.Acceptance.{MagneticAccepted, accepted-exactly, accepted-list, lattice-exactly, rotations-exactly, translations-exactly}

-- A letter and what its generators make, or the refusal of the text.
pub data SymbolOutcome : Type 0 where
  made : Centering → MagneticOutcome → SymbolOutcome
  misread : reading.Refusal → SymbolOutcome

abbrev pub on_symbol : Answer → MagneticSymbol → SymbolOutcome
on_symbol Symbol m =
    let c = m.symbol.centering in
    let n = m.symbol.count in
    made c (outcome_of c (with_flags (take n m.symbol.generators) (take n m.flags)))
on_symbol (Refused r) m = misread r

-- What is answered for a text.
unfoldable pub magnetic_outcome : List ℕ → SymbolOutcome
magnetic_outcome text = let m = magnetic_answer text in on_symbol m.symbol.answer m

-- The flags of generators with their flags are those given.
pub flags-with : (gs : List Operation) (fs : List Bool) → length fs ≡ length gs → map (λ (g : Flagged Operation). g.flag) (with_flags gs fs) ≡ fs
flags-with [] [] h = refl
flags-with [] (f ∷ fs) h = absurd (omega arith)
flags-with (g ∷ gs) [] h = absurd (omega arith)
flags-with (g ∷ gs) (f ∷ fs) h = ap (λ (l : List Bool). f ∷ l) (flags-with gs fs (omega arith))

-- ---- by the text
-- A text that spells a symbol is answered what its generators make,
pub spelled-outcome : (text : List ℕ) (c : Centering) (gs : List Operation) (fs : List Bool) → MagneticSpells text c gs fs
    → magnetic_outcome text ≡ made c (outcome_of c (with_flags gs fs))
unfolding magnetic_outcome
spelled-outcome text c gs fs m =
    let (n, e) = (magnetic-exactly text c gs fs).1 m in
    let flags : take (length gs) (flags_in fs) ≡ fs =
    ap (λ (k : ℕ). take k (flags_in fs)) (sym n) ∙ take-append_seam fs (replicate (9 - length fs) false) in
    ap (λ (s : MagneticSymbol). on_symbol s.symbol.answer s) e
    ∙ ap₂ (λ (l : List Operation) (k : List Bool). made c (outcome_of c (with_flags l k))) (slots-listed gs) flags

-- and one that is refused its refusal.
pub refused-outcome : (text : List ℕ) (r : reading.Refusal) → MagneticRefuses text r → magnetic_outcome text ≡ misread r
unfolding magnetic_outcome
refused-outcome text r m = ap (λ (s : MagneticSymbol). on_symbol s.symbol.answer s) ((magnetic-refused text r).1 m)

-- ---- exactly
-- What is made is made of the symbol that the text spells.
pub made-spelled : (text : List ℕ) (c : Centering) (o : MagneticOutcome) → magnetic_outcome text ≡ made c o
    → (gs : List Operation) × (fs : List Bool) × MagneticSpells text c gs fs × (outcome_of c (with_flags gs fs) ≡ o)
made-spelled text c o e = go (magnetic-says text)
  where
    go : ((d : Centering) × (gs : List Operation) × (fs : List Bool) × MagneticSpells text d gs fs) ⊎ ((r : reading.Refusal) × MagneticRefuses text r)
        → (gs : List Operation) × (fs : List Bool) × MagneticSpells text c gs fs × (outcome_of c (with_flags gs fs) ≡ o)
    go (inl (d, gs, fs, m)) =
        let both : made d (outcome_of d (with_flags gs fs)) ≡ made c o = sym (spelled-outcome text d gs fs m) ∙ e in
        let letters : d ≡ c = cc in
        let outcomes : outcome_of d (with_flags gs fs) ≡ o = cc in
        let same = subst (λ (x : Centering). outcome_of x (with_flags gs fs) ≡ o) letters outcomes in
        (gs, fs, subst (λ (x : Centering). MagneticSpells text x gs fs) letters m, same)
    go (inr (r, m)) =
        let both : misread r ≡ made c o = sym (refused-outcome text r m) ∙ e in
        let z : ◌≡◌ {A = ℕ} 0 1 = cc in
        absurd (omega arith)

module _ (text : List ℕ) (c : Centering) (gs : List Operation) (fs : List Bool) (spells : MagneticSpells text c gs fs) where
  abbrev gens : List (Flagged Operation)
  gens = with_flags gs fs

  -- A symbol's generators have entries in −1..1.
  generators-small : SmallGenerators (plain_of gens)
  generators-small = subst SmallGenerators (sym (plain-with gs fs)) (symbol-small spells.copy c gs spells.spells)

  own : (o : MagneticOutcome) → (magnetic_outcome text ≡ made c o) ↔ (outcome_of c gens ≡ o)
  own o = (
    (λ e. let both : made c (outcome_of c gens) ≡ made c o = sym (spelled-outcome text c gs fs spells) ∙ e in cc),
    λ e. spelled-outcome text c gs fs spells ∙ ap (made c) e,
  )

  -- A group is answered exactly if every generator maps L onto L, at most 96 pairs of rotation and flag are generated with entries in −1..1, and no motion with
  -- identity rotation and without the flag has its translation outside L.
  pub symbol-accepted : ((operations : List (Flagged Operation)) × (steps : List ℕ) × (magnetic_outcome text ≡ made c (group operations steps)))
      ↔ (AllKeep c (plain_of gens) × FewPairs gens × SmallPairs gens × OneTranslation c gens)
  symbol-accepted =
      let (forth, back) = accepted-exactly c gens generators-small in (
        (λ (operations, steps, e). forth (operations, steps, (own (group operations steps)).0 e)),
        λ h. let (operations, steps, e) = back h in (operations, steps, (own (group operations steps)).1 e),
      )

  -- What is answered then.
  pub symbol-list : (operations : List (Flagged Operation)) (steps : List ℕ) → magnetic_outcome text ≡ made c (group operations steps)
      → MagneticAccepted c gens operations steps
  symbol-list operations steps e = accepted-list c gens generators-small operations steps ((own (group operations steps)).0 e)

  -- 12 with the index of the first generator that does not map L onto L,
  pub symbol-twelve : (i : ℕ) → (magnetic_outcome text ≡ made c (refused (Lattice i))) ↔ FirstOff c (plain_of gens) i
  symbol-twelve i =
      let (forth, back) = lattice-exactly c gens generators-small i in
      ((λ e. forth ((own (refused (Lattice i))).0 e)), λ h. (own (refused (Lattice i))).1 (back h))

  -- 13,
  pub symbol-thirteen : (magnetic_outcome text ≡ made c (refused Rotations)) ↔ (AllKeep c (plain_of gens) × (¬ (FewPairs gens × SmallPairs gens)))
  symbol-thirteen =
      let (forth, back) = rotations-exactly c gens generators-small in
      ((λ e. forth ((own (refused Rotations)).0 e)), λ h. (own (refused Rotations)).1 (back h))

  -- and 14.
  pub symbol-fourteen : (magnetic_outcome text ≡ made c (refused Translations))
      ↔ (AllKeep c (plain_of gens) × FewPairs gens × SmallPairs gens × (¬ OneTranslation c gens))
  symbol-fourteen =
      let (forth, back) = translations-exactly c gens generators-small in
      ((λ e. forth ((own (refused Translations)).0 e)), λ h. (own (refused Translations)).1 (back h))
