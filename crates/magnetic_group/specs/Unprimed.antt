-- Texts without `'`: where the plain entry accepts one, the magnetic one answers the same letter and list with every flag 0, and where the magnetic one
-- answers at most 48 operations, the plain one accepts. So plain symbols are those that hold the flag at 0, seen from outside.
use Rattle.std.proofs.Math.Path.{◌≡◌, refl, sym, ap}
use Rattle.std.proofs.Common.{◌∙◌, arith}
use Rattle.std.proofs.Math.Bool.{false}
use mathlib.Core.List.{List, [], ◌∷◌, map}
use Rattle.std.specs.Prelude.{ℕ, zero, suc, ◌-◌, ◌≤◌}
use Rattle.std.proofs.Math.ListN.{length, take, replicate}
use Rattle.std.proofs.Math.Seq.{take-append_seam}
use Rattle.group_growth.specs.Flagged.{Flagged, flagged_by, held}
use Rattle.operation.specs.Product.{identity_operation}
use Rattle.operation.specs.declared.Operation.{Operation}
use Rattle.centering.specs.declared.Centering.{Centering}
use Rattle.hall_symbol.specs.Runs.{Every}
use Rattle.hall_symbol.specs.Reader.{Reading, symbol, refusal, read_symbol, answer_of}
use Rattle.hall_symbol.specs.Agreement.{symbol-exactly}
use Rattle.hall_symbol.specs.Answers.{slots-listed}
use Rattle.hall_symbol.specs.declared.refusal.Refusal as reading
use Rattle.space_group.specs.Generated as plain
use Rattle.space_group.specs.FlaggedGenerators.{with_flags}
use Rattle.symbol_group.specs.Answers.{outcome_answer, reading_answer, symbol_answer}
use Rattle.symbol_group.specs.Exactly.{symbol-small}
use Rattle.symbol_group.specs.declared.Answer.TheVariants.{Group}
use Rattle.symbol_group.specs.declared.SymbolGroup.{SymbolGroup}
use Rattle.magnetic_symbol.specs.TimeReversals.{unprimed}
use Rattle.magnetic_symbol.specs.Answer.{magnetic_answer}
use Rattle.magnetic_symbol.specs.Told.{unprimed-same}
use Rattle.magnetic_symbol.specs.declared.MagneticSymbol.{MagneticSymbol}
use Rattle.magnetic_group.specs.Generated.{group, outcome_of}
use Rattle.magnetic_group.specs.Symbols.{made, misread, on_symbol, magnetic_outcome}
use Rattle.magnetic_group.specs.Unflagged.{unprimed-group, group-unprimed}

-- Flags that are all 0, however many are given.
no-flags : (gs : List Operation) (k n : ℕ) → with_flags gs (take k (replicate n false)) ≡ map held gs
no-flags [] k n = refl
no-flags (g ∷ gs) zero n = ap (λ (l : List (Flagged Operation)). held g ∷ l) (no-flags gs zero zero)
no-flags (g ∷ gs) (suc k) zero = ap (λ (l : List (Flagged Operation)). held g ∷ l) (no-flags gs zero zero)
no-flags (g ∷ gs) (suc k) (suc n) = ap (λ (l : List (Flagged Operation)). flagged_by false g ∷ l) (no-flags gs k n)

module _ (text : List ℕ) (h : Every unprimed text) where
  -- What is answered of the generators that the plain reader reads, every flag 0.
  read-outcome : (c : Centering) (gens : List Operation) → read_symbol text ≡ symbol c gens → magnetic_outcome text ≡ made c (outcome_of c (map held gens))
  unfolding magnetic_outcome
  read-outcome c gens e =
      let n = length gens in
      let own : magnetic_answer text ≡ record { symbol = answer_of (symbol c gens); flags = replicate 9 false } =
      unprimed-same text h ∙ ap (λ (r : Reading). record { symbol = answer_of r; flags = replicate 9 false }) e in
      ap (λ (m : MagneticSymbol). on_symbol m.symbol.answer m) own
      ∙ ap (λ (l : List Operation). made c (outcome_of c (with_flags l (take n (replicate 9 false))))) (slots-listed gens)
      ∙ ap (λ (l : List (Flagged Operation)). made c (outcome_of c l)) (no-flags gens n 9)

  refused-text : (r : reading.Refusal) → read_symbol text ≡ refusal r → magnetic_outcome text ≡ misread r
  unfolding magnetic_outcome
  refused-text r e =
      let own : magnetic_answer text ≡ record { symbol = answer_of (refusal r); flags = replicate 9 false } =
      unprimed-same text h ∙ ap (λ (s : Reading). record { symbol = answer_of s; flags = replicate 9 false }) e in
      ap (λ (m : MagneticSymbol). on_symbol m.symbol.answer m) own

  -- The plain answer, by what is read.
  plain-answer : (r : Reading) → read_symbol text ≡ r → (symbol_answer text).answer ≡ Group
      → (c : Centering) × (gens : List Operation) × (operations : List Operation) × (steps : List ℕ) × (read_symbol text ≡ symbol c gens)
      × (plain.outcome_of c gens ≡ plain.group operations steps)
  unfolding symbol_answer
  plain-answer (symbol c gens) e a = by-outcome (plain.outcome_of c gens) refl
    where
      by-outcome : (o : plain.Outcome) → plain.outcome_of c gens ≡ o
          → (d : Centering) × (more : List Operation) × (operations : List Operation) × (steps : List ℕ) × (read_symbol text ≡ symbol d more)
          × (plain.outcome_of d more ≡ plain.group operations steps)
      by-outcome (plain.group operations steps) o = (c, gens, operations, steps, e, o)
      by-outcome (plain.refused r) o =
          let b = sym (ap (λ (g : SymbolGroup). g.answer) (ap reading_answer e ∙ ap (outcome_answer c (length gens)) o)) ∙ a in
          let z : ◌≡◌ {A = ℕ} 0 1 = cc in
          absurd (omega arith)
  plain-answer (refusal r) e a =
      let b = sym (ap (λ (g : SymbolGroup). g.answer) (ap reading_answer e)) ∙ a in
      let z : ◌≡◌ {A = ℕ} 0 1 = cc in
      absurd (omega arith)

  -- What the plain entry answers of generators that are accepted: their letter and their list.
  plain-list : (c : Centering) (gens operations : List Operation) (steps : List ℕ) → read_symbol text ≡ symbol c gens
      → plain.outcome_of c gens ≡ plain.group operations steps
      → ((symbol_answer text).answer ≡ Group) × ((symbol_answer text).centering ≡ c)
      × (take (symbol_answer text).count (symbol_answer text).operations ≡ operations)
  unfolding symbol_answer
  plain-list c gens operations steps e o =
      let own : symbol_answer text ≡ outcome_answer c (length gens) (plain.group operations steps) =
      ap reading_answer e ∙ ap (outcome_answer c (length gens)) o in (
        ap (λ (g : SymbolGroup). g.answer) own,
        ap (λ (g : SymbolGroup). g.centering) own,
        ap (λ (g : SymbolGroup). take g.count g.operations) own ∙ take-append_seam operations (replicate (48 - length operations) identity_operation),
      )

  -- Where the plain entry accepts, the same letter and list are answered, every flag 0;
  pub unprimed-text : (symbol_answer text).answer ≡ Group → (steps : List ℕ)
      × (magnetic_outcome text
      ≡ made (symbol_answer text).centering (group (map held (take (symbol_answer text).count (symbol_answer text).operations)) steps))
  unprimed-text a =
      let (c, gens, operations, steps, e, o) = plain-answer (read_symbol text) refl a in
      let (_, letter, list) = plain-list c gens operations steps e o in
      let small = symbol-small text c gens ((symbol-exactly text c gens).0 e) in
      (steps, read-outcome c gens e ∙ ap (made c) (unprimed-group c gens small operations steps o) ∙ sym (rw (letter, list) refl))

  -- and where at most 48 are answered, the plain entry accepts.
  pub text-unprimed : (c : Centering) (k : List (Flagged Operation)) (steps : List ℕ) → length k ≤ 48 → magnetic_outcome text ≡ made c (group k steps)
      → ((symbol_answer text).answer ≡ Group) × ((symbol_answer text).centering ≡ c)
      × (k ≡ map held (take (symbol_answer text).count (symbol_answer text).operations))
  text-unprimed c k steps few is = by-reading (read_symbol text) refl
    where
      by-reading : (r : Reading) → read_symbol text ≡ r
          → ((symbol_answer text).answer ≡ Group) × ((symbol_answer text).centering ≡ c)
          × (k ≡ map held (take (symbol_answer text).count (symbol_answer text).operations))
      by-reading (symbol d gens) e =
          let both : made d (outcome_of d (map held gens)) ≡ made c (group k steps) = sym (read-outcome d gens e) ∙ is in
          let letters : d ≡ c = cc in
          let outcomes : outcome_of d (map held gens) ≡ group k steps = cc in
          let small = symbol-small text d gens ((symbol-exactly text d gens).0 e) in
          let (operations, o, same) = group-unprimed d gens small k steps few outcomes in
          let (a, letter, list) = plain-list d gens operations steps e o in
          (a, letter ∙ letters, same ∙ ap (map held) (sym list))
      by-reading (refusal r) e =
          let both : misread r ≡ made c (group k steps) = sym (refused-text r e) ∙ is in
          let z : ◌≡◌ {A = ℕ} 0 1 = cc in
          absurd (omega arith)
