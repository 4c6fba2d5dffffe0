-- What is answered for a text and a list, exactly: the symbol's refusal, 43 and 44 if their rules hold, in this order; then the first entry that is foreign or
-- repeated, the lowest missing code, or yes, said of the text's set of motions.
use Rattle.std.proofs.Math.Path.{◌≡◌, refl, sym, ap}
use Rattle.std.proofs.Common.{◌∙◌, subst}
use Rattle.std.specs.Prelude.{◌⊎◌, ◌↔◌, Bool, cond, ℕ, ◌<◌, ltb, length, Err, Ok, Result}
use Rattle.std.proofs.Math.Logic.{inl, inr}
use Rattle.std.proofs.Math.Bool.{true, false}
use mathlib.Core.List.{List, Memᴰ as Mem}
use native.Mathlib.Omega.{arith}
use Rattle.operation.specs.Meaning.{Digits}
use Rattle.operation.specs.Product.{identity_operation}
use Rattle.operation.specs.declared.Operation.{Operation}
use Rattle.centering.specs.declared.Centering.{Centering}
use Rattle.hall_symbol.specs.Spelling.{Spells}
use Rattle.hall_symbol.specs.Agreement.{spells-once}
use Rattle.subgroup_laws.specs.Bounded.{first, FirstPassing, first_found, first-none, first-cases}
use Rattle.laws.specs.Truth.{passes-or-fails}
use Rattle.laws.specs.Indices.{member-at, member-index}
use Rattle.space_group.specs.Traversal.{turn_of}
use Rattle.space_group.specs.Generated.{AllKeep, FewRotations, SmallRotations, OneTranslation}
use Rattle.symbol_group.specs.AcceptedTexts.{AcceptedText, accepted-text}
use Rattle.symbol_group.specs.Answers.{symbol_answer}
use Rattle.symbol_group.specs.Exactly.{group-exactly}
use Rattle.symbol_group.specs.declared.Answer.{Answer}
use Rattle.symbol_group.specs.declared.Answer.TheVariants.{Group, Refused as NoGroup}
use Rattle.symbol_group.specs.declared.refusal.Refusal as symbol-refusal
use Rattle.list_check.specs.Checked.{length_fits, entry_count, wrong_at, entry_at, off_at, missing_at, no_code, lowest, entries_answer, list_answer, slot_at, checked_by, checked_of}
use Rattle.list_check.specs.Answers.{length-answer, range-answer, entries-answer, slot-listed}
use Rattle.list_check.specs.Comparison.{Whole, FirstOffEntry, LowestLacking, entry_named, missing-named, yes-said}
use Rattle.list_check.specs.Entries.{RightLength, WellFormed, WrongLength, FirstWrong, length-right, length-wrong, entry-inside, entry-digits, entry-right, entry-wrong}
use Rattle.list_check.specs.declared.refusal.Refusal.{Refusal}
use Rattle.list_check.specs.declared.refusal.Refusal.TheVariants.{Symbol, Length, Entry as WrongEntry}
use Rattle.list_check.specs.declared.Verdict.TheVariants.{Entry, Missing, Yes}
use Rattle.list_check.specs.declared.Verdict.{Verdict}

-- The text spells this symbol, and its generators make a group.
abbrev pub Accepts : List ℕ → Centering → List Operation → Type 0
Accepts text c gens = Spells text c gens × (AllKeep c gens × FewRotations gens × SmallRotations gens × OneTranslation c gens)

-- ---- the operations of an accepted text
module _ (text : List ℕ) (T : AcceptedText text) where
  abbrev count : ℕ
  count = (symbol_answer text).count

  abbrev operation : ℕ → Operation
  operation = slot_at (symbol_answer text).operations

  -- A slot in use holds an operation of the list,
  listed : (k : ℕ) → k < count → Mem (operation k) T.operations
  listed k h =
      subst (λ (o : Operation). Mem o T.operations) (slot-listed text T k h) (member-at T.operations k identity_operation (let e = T.same_count in
      omega arith))

  -- and each of the list is in one.
  indexed : (o : Operation) → Mem o T.operations → (k : ℕ) × (k < count) × (operation k ≡ o)
  indexed o m =
      let (k, h, e) = member-index identity_operation m in
      let within : k < count = let s = T.same_count in omega arith in
      (k, within, sym (slot-listed text T k within) ∙ e)

-- What holds of one symbol holds of an equal one.
pub carried : (P : Centering → List Operation → Type 0) (c d : Centering) (gens hens : List Operation) → c ≡ d → gens ≡ hens → P c gens → P d hens
carried P c d gens hens p q h = subst (λ (e : Centering). P e hens) p (subst (P c) q h)

-- ---- by the list
module _ (c : Centering) (count : ℕ) (operation : ℕ → Operation) (list : List ℕ) where
  -- A well-formed list is compared,
  compared : WellFormed list → list_answer c count operation list ≡ entries_answer c count operation (entry_count list) (entry_at list)
  compared (right, ranged) =
      let none = first-none (wrong_at list) (entry_count list) (λ i h. (entry-right list i (entry-inside list right i h)).1 (ranged i h)) in
      entries-answer c count operation list right (omega arith)

  -- one with an entry out of range is refused 44,
  wrong-entry : (i : ℕ) → FirstWrong list i → list_answer c count operation list ≡ Err (WrongEntry i)
  wrong-entry i F =
      let right = F.right-length in
      let within = F.within in
      let passing : FirstPassing (wrong_at list) (entry_count list) i = record {
        below = within;
        passes = (entry-wrong list i (entry-inside list right i within)).1 F.out;
        before = λ j h. (entry-right list j (entry-inside list right j (omega arith))).1 (F.before j h);
      } in
      let same = first_found (wrong_at list) (entry_count list) i passing in
      range-answer c count operation list right (omega arith) ∙ ap (λ (k : ℕ). (Err (WrongEntry k))) same

  -- and one of these holds of any list.
  cases : WrongLength list ⊎ (((i : ℕ) × FirstWrong list i) ⊎ WellFormed list)
  cases = elim (passes-or-fails (length_fits (length list))) [
    | inr e ↦ inl ((length-wrong list).0 e)
    | inl e ↦ inr (by-range ((length-right list).0 e))
  ]
    where
      by-range : RightLength list → ((i : ℕ) × FirstWrong list i) ⊎ WellFormed list
      by-range right = elim (first-cases (wrong_at list) (entry_count list)) [
        | inl f ↦ let b = f.below in inl (
          first (wrong_at list) (entry_count list),
          record {
            right-length = right;
            within = f.below;
            out = (entry-wrong list (first (wrong_at list) (entry_count list)) (entry-inside list right _ f.below)).0 f.passes;
            before = λ j h. (entry-right list j (entry-inside list right j (omega arith))).0 (f.before j h);
          },
        )
        | inr f ↦ inr (right, λ i h. (entry-right list i (entry-inside list right i h)).0 (f.1 i h))
      ]

  -- What only a comparison answers is answered for a well-formed list alone.
  only-compared : (x : Result Verdict Refusal) → ((r : ℕ) → ¬ (Err (WrongEntry r) ≡ x)) → ¬ (Err Length ≡ x)
      → (list_answer c count operation list ≡ x) ↔ (WellFormed list × (entries_answer c count operation (entry_count list) (entry_at list) ≡ x))
  only-compared x not_entry not-length = (
    (λ e. elim cases [
      | inl w ↦ absurd (not-length (sym (length-answer c count operation list w) ∙ e))
      | inr rest ↦ elim rest [
        | inl (i, F) ↦ absurd (not_entry i (sym (wrong-entry i F) ∙ e))
        | inr well ↦ (well, sym (compared well) ∙ e)
      ]
    ]),
    λ (well, e). compared well ∙ e,
  )

  -- The comparison refuses nothing,
  never-refused : (n : ℕ) (entry : ℕ → Operation) (r : Refusal) → ¬ (entries_answer c count operation n entry ≡ Err r)
  unfolding entries_answer
  never-refused n entry r =
      by_tests (ltb (first (off_at c count operation entry) n) n) (ltb (lowest (missing_at c n entry operation) (λ k. turn_of (operation k)) count) no_code) _ _
    where
      by_tests : (a b : Bool) (i k : ℕ) → ¬ (cond a (Ok (Entry i)) (cond b (Ok (Missing k)) (Ok Yes)) ≡ Err r)
      by_tests true b i k e = let z : ◌≡◌ {A = ℕ} 0 1 = cc in omega arith
      by_tests false true i k e = let z : ◌≡◌ {A = ℕ} 0 1 = cc in omega arith
      by_tests false false i k e = let z : ◌≡◌ {A = ℕ} 0 1 = cc in omega arith

  -- so 43 and 44 are answered exactly by their rules.
  length-refused : (list_answer c count operation list ≡ Err Length) ↔ WrongLength list
  length-refused = (
    (λ e. elim cases [
      | inl w ↦ w
      | inr rest ↦ elim rest [
        | inl (i, F) ↦ absurd (let d = sym (wrong-entry i F) ∙ e in let z : ◌≡◌ {A = ℕ} 0 1 = cc in omega arith)
        | inr well ↦ absurd (never-refused (entry_count list) (entry_at list) Length (sym (compared well) ∙ e))
      ]
    ]),
    length-answer c count operation list,
  )

  entry-refused : (i : ℕ) → (list_answer c count operation list ≡ Err (WrongEntry i)) ↔ FirstWrong list i
  entry-refused i = (
    (λ e. elim cases [
      | inl w ↦ absurd (let d = sym (length-answer c count operation list w) ∙ e in let z : ◌≡◌ {A = ℕ} 0 1 = cc in omega arith)
      | inr rest ↦ elim rest [
        | inl (j, F) ↦ let d = sym (wrong-entry j F) ∙ e in let same : j ≡ i = cc in rw same at F
        | inr well ↦ absurd (never-refused (entry_count list) (entry_at list) (WrongEntry i) (sym (compared well) ∙ e))
      ]
    ]),
    wrong-entry i,
  )

-- ---- by the text
module _ (text list : List ℕ) where
  -- An answer that is not the symbol's refusal is that of the list for the symbol that the text spells.
  by-symbol : (x : Result Verdict Refusal) → ((r : symbol-refusal.Refusal) → ¬ (Err (Symbol r) ≡ x)) → (P : Centering → List Operation → Type 0)
      → ((T : AcceptedText text) → (list_answer (symbol_answer text).centering (symbol_answer text).count (slot_at (symbol_answer text).operations) list ≡ x)
      ↔ P T.letter T.generators)
      → (checked_of text list ≡ x) ↔ ((c : Centering) × (gens : List Operation) × Accepts text c gens × P c gens)
  unfolding checked_of
  by-symbol x other P exactly = (by_answer (symbol_answer text).answer refl, back)
    where
      by_answer : (a : Answer) → (symbol_answer text).answer ≡ a → checked_by a (symbol_answer text) list ≡ x
          → (c : Centering) × (gens : List Operation) × Accepts text c gens × P c gens
      by_answer Group a e =
          let T = accepted-text text a in
          let A = T.accepted in
          (T.letter, T.generators, (T.spells, (A.keep, A.few, A.small, A.one)), (exactly T).0 e)
      by_answer (NoGroup r) a e = absurd (other r e)

      back : ((c : Centering) × (gens : List Operation) × Accepts text c gens × P c gens) → checked_by (symbol_answer text).answer (symbol_answer text) list ≡ x
      back (c, gens, (spells, accepted), h) =
          let a = (group-exactly text).1 (c, gens, spells, accepted) in
          let T = accepted-text text a in
          let (p, q) = spells-once text c T.letter gens T.generators spells T.spells in
          rw a ((exactly T).1 (carried P c T.letter gens T.generators p q h))

  module _ (T : AcceptedText text) where
    -- The entries of a well-formed list have their entries in −1..1.
    ranged-digits : WellFormed list → (i : ℕ) → i < entry_count list → Digits (entry_at list i).rotation
    ranged-digits (right, ranged) i h = entry-digits list i (entry-inside list right i h) (ranged i h)

    -- What a comparison says, of a well-formed list.
    well-formed : (x : Result Verdict Refusal) → ((r : ℕ) → ¬ (Err (WrongEntry r) ≡ x)) → ¬ (Err Length ≡ x) → (Q : Type 0)
        → (WellFormed list → (entries_answer T.letter (count text T) (operation text T) (entry_count list) (entry_at list) ≡ x) ↔ Q)
        → (list_answer (symbol_answer text).centering (count text T) (operation text T) list ≡ x) ↔ (WellFormed list × Q)
    well-formed x not_entry not-length Q said =
        let only = only-compared (symbol_answer text).centering (count text T) (operation text T) list x not_entry not-length in (
          (λ e. let (well, d) = only.0 e in (well, (said well).0 (rw T.same-letter at d))),
          λ (well, q). only.1 (well, rw T.same-letter ((said well).1 q)),
        )

  -- Yes: exactly if the text is accepted, the list is well formed, no two entries are one operation modulo L, and with L added they are the text's set of
  -- motions.
  pub yes-exactly : (checked_of text list ≡ Ok Yes)
      ↔ ((c : Centering) × (gens : List Operation) × Accepts text c gens × (WellFormed list × Whole c gens (entry_count list) (entry_at list)))
  yes-exactly =
      by-symbol (Ok Yes) (λ r e. let z : ◌≡◌ {A = ℕ} 0 1 = cc in omega arith) (λ c gens. WellFormed list × Whole c gens (entry_count list) (entry_at list))
      (λ T. well-formed T (Ok Yes) (λ r e. let z : ◌≡◌ {A = ℕ} 0 1 = cc in omega arith) (λ e. let z : ◌≡◌ {A = ℕ} 0 1 = cc in omega arith)
      (Whole T.letter T.generators (entry_count list) (entry_at list))
      (λ well. yes-said T.letter T.generators T.operations T.steps T.accepted (count text T) (operation text T) (listed text T) (indexed text T)
      (entry_count list) (entry_at list) (ranged-digits T well)))

  -- Entry i: exactly if all that is well, and i is the first entry that is no motion of the set or differs from an entry before it by a translation of L.
  pub entry-exactly : (i : ℕ) → (checked_of text list ≡ Ok (Entry i))
      ↔ ((c : Centering) × (gens : List Operation) × Accepts text c gens × (WellFormed list × FirstOffEntry c gens (entry_count list) (entry_at list) i))
  entry-exactly i =
      by-symbol (Ok (Entry i)) (λ r e. let z : ◌≡◌ {A = ℕ} 0 1 = cc in
      omega arith) (λ c gens. WellFormed list × FirstOffEntry c gens (entry_count list) (entry_at list) i)
      (λ T. well-formed T (Ok (Entry i)) (λ r e. let z : ◌≡◌ {A = ℕ} 0 1 = cc in omega arith) (λ e. let z : ◌≡◌ {A = ℕ} 0 1 = cc in omega arith)
      (FirstOffEntry T.letter T.generators (entry_count list) (entry_at list) i)
      (λ well. entry_named T.letter T.generators T.operations T.steps T.accepted (count text T) (operation text T) (listed text T)
      (indexed text T) (entry_count list) (entry_at list) (ranged-digits T well) i))

  -- Missing: exactly if no entry is so, and this is the lowest code of a rotation of the set that no entry has.
  pub missing-exactly : (code : ℕ) → (checked_of text list ≡ Ok (Missing code))
      ↔ ((c : Centering) × (gens : List Operation) × Accepts text c gens × (WellFormed list × LowestLacking c gens (entry_count list) (entry_at list) code))
  missing-exactly m =
      by-symbol (Ok (Missing m)) (λ r e. let z : ◌≡◌ {A = ℕ} 0 1 = cc in
      omega arith) (λ c gens. WellFormed list × LowestLacking c gens (entry_count list) (entry_at list) m)
      (λ T. well-formed T (Ok (Missing m)) (λ r e. let z : ◌≡◌ {A = ℕ} 0 1 = cc in omega arith) (λ e. let z : ◌≡◌ {A = ℕ} 0 1 = cc in omega arith)
      (LowestLacking T.letter T.generators (entry_count list) (entry_at list) m)
      (λ well. missing-named T.letter T.generators T.operations T.steps T.accepted (count text T) (operation text T) (listed text T)
      (indexed text T) (entry_count list) (entry_at list) (ranged-digits T well) m))

  -- 43: exactly if the text is accepted, and the length is no multiple of five or over 240.
  pub length-exactly : (checked_of text list ≡ Err Length) ↔ ((c : Centering) × (gens : List Operation) × Accepts text c gens × WrongLength list)
  length-exactly =
      by-symbol (Err Length) (λ r e. let z : ◌≡◌ {A = ℕ} 0 1 = cc in omega arith) (λ c gens. WrongLength list)
      (λ T. length-refused (symbol_answer text).centering (count text T) (operation text T) list)

  -- 44 at i: exactly if the text is accepted, the length is right, and i is the first entry with a code over 19682 or a coordinate over 11.
  pub range-exactly : (i : ℕ) → (checked_of text list ≡ Err (WrongEntry i))
      ↔ ((c : Centering) × (gens : List Operation) × Accepts text c gens × FirstWrong list i)
  range-exactly i =
      by-symbol (Err (WrongEntry i)) (λ r e. let z : ◌≡◌ {A = ℕ} 0 1 = cc in omega arith) (λ c gens. FirstWrong list i)
      (λ T. entry-refused (symbol_answer text).centering (count text T) (operation text T) list i)

  -- The symbol's own refusals go first, whatever the list is.
  pub symbol-first : (r : symbol-refusal.Refusal) → (checked_of text list ≡ Err (Symbol r)) ↔ ((symbol_answer text).answer ≡ NoGroup r)
  unfolding checked_of
  symbol-first r = (by_answer (symbol_answer text).answer, λ e. rw e refl)
    where
      by_answer : (a : Answer) → checked_by a (symbol_answer text) list ≡ Err (Symbol r) → a ≡ NoGroup r
      by_answer Group e = absurd (not-symbol e)
        where
          not-symbol : list_answer (symbol_answer text).centering (symbol_answer text).count (slot_at (symbol_answer text).operations) list
              ≡ Err (Symbol r) → ⊥
          not-symbol e = elim (cases (symbol_answer text).centering (symbol_answer text).count (slot_at (symbol_answer text).operations) list) [
            | inl w ↦ let d = sym (length-answer _ _ _ list w) ∙ e in let z : ◌≡◌ {A = ℕ} 0 1 = cc in omega arith
            | inr rest ↦ elim rest [
              | inl (i, F) ↦ let d = sym (wrong-entry _ _ _ list i F) ∙ e in let z : ◌≡◌ {A = ℕ} 0 1 = cc in omega arith
              | inr well ↦ never-refused _ _ _ list (entry_count list) (entry_at list) (Symbol r) (sym (compared _ _ _ list well) ∙ e)
            ]
          ]
      by_answer (NoGroup q) e = let same : q ≡ r = cc in ap NoGroup same
