-- Entries against the set of motions of a symbol: what foreign, repeated and missing mean, and that the tests of the definition say it. The idea: the set is
-- the listed operations with L added, and each rotation is listed once.
use Rattle.std.specs.Prelude.{◌≡◌, refl, ◌⊎◌, ◌↔◌, Bool, false, cond, ◌||◌, ℕ, zero, suc, ◌≤◌, ◌<◌, min, ltb, Ok, Result}
use Rattle.std.proofs.Common.{sym, ◌∙◌, arith, lt-ltb, le-ltb, ltb-true, ltb-false}
use Rattle.std.proofs.Math.Path.{ap}
use Rattle.std.proofs.Math.Logic.{inl, inr}
use Rattle.std.proofs.Math.Bool.{true, not, true≢false}
use mathlib.Core.List.{List, Memᴰ as Mem}
use Rattle.std.proofs.Math.Decide.{ℕ_discrete, dec_lt}
use Rattle.std.proofs.Math.Dec.{eqb_refl}
use Rattle.std.proofs.lemmas.Bool.{not-false}
use Rattle.laws.specs.Motion.{SpaceMotion}
use Rattle.laws.specs.Distinct.{distinct-equal}
use Rattle.laws.specs.MotionsModulo.{Alike, motions-keyed}
use Rattle.laws.specs.Truth.{or-either, or-holds-left, or-holds-right, not-passing, passes-or-fails}
use Rattle.operation.specs.Code.{code_of, code_lt, code-injective}
use Rattle.operation.specs.Entries.{digits-entries, digits-again}
use Rattle.operation.specs.Meaning.{Digits, digits_of, matrix_of, motion_of}
use Rattle.operation.specs.declared.Operation.{Operation}
use Rattle.operation.specs.declared.Rotation.{Rotation}
use Rattle.centering.specs.Letters.{points_of}
use Rattle.centering.specs.Lattices.{points}
use Rattle.centering.specs.declared.Centering.{Centering}
use Rattle.subgroup_laws.specs.Bounded.{first, FirstPassing, passes-some, some-passes, first_found, first-none, first-cases}
use Rattle.space_group.specs.Traversal.{turn_of, same_turn}
use Rattle.space_group_theorems.specs.Acceptance.{Accepted}
use Rattle.space_group_theorems.specs.Members.{rotation-generated, rotations-once}
use Rattle.space_group_theorems.specs.SetOfMotions.{InGeneratedSet, set-exactly}
use Rattle.list_check.specs.Checked.{alike, foreign_at, repeated_at, off_at, missing_at, no_code, lowest, missing_answer, entries_answer}
use Rattle.list_check.specs.Answers.{turns, off-answer, on-answer}
use Rattle.list_check.specs.Slots.{alike-parts}
use Rattle.list_check.specs.declared.Verdict.{Verdict}
use Rattle.list_check.specs.declared.Verdict.TheVariants.{Entry, Missing, Yes}
use Rattle.list_check.specs.declared.refusal.Refusal.{Refusal}

-- ---- what is said of n entries
module _ (c : Centering) (gens : List Operation) (n : ℕ) (entry : ℕ → Operation) where
  -- Entry i is no motion of the set.
  abbrev pub Foreign : ℕ → Type 0
  Foreign i = ¬ (InGeneratedSet c gens (motion_of (entry i)))

  -- An entry further left differs from entry i by a translation of L.
  abbrev pub Repeated : ℕ → Type 0
  Repeated i = (j : ℕ) × (j < i) × Alike (points_of c) (motion_of (entry i)) (motion_of (entry j))

  abbrev pub Off : ℕ → Type 0
  Off i = Foreign i ⊎ Repeated i

  -- A motion differs from an entry by a translation of L.
  abbrev pub Held : SpaceMotion → Type 0
  Held m = (i : ℕ) × (i < n) × Alike (points_of c) m (motion_of (entry i))

  -- No two entries are one operation modulo L, and with L added they are the set of motions: every one of it, and nothing else.
  pub record Whole : Type 0 where
    pub once : (i : ℕ) → i < n → ¬ (Repeated i)
    pub set : (m : SpaceMotion) → InGeneratedSet c gens m ↔ Held m

  -- Entry i is foreign or repeated, and none before it is.
  pub record FirstOffEntry (i : ℕ) : Type 0 where
    pub within : i < n
    pub off : Off i
    pub before : (j : ℕ) → j < i → ¬ (Off j)

  -- The set of motions has a rotation that no entry has.
  pub record Lacking (r : Rotation) : Type 0 where
    pub digits : Digits r
    pub there : (m : SpaceMotion) × InGeneratedSet c gens m × (m.rotation ≡ matrix_of r)
    pub absent : (i : ℕ) → i < n → ¬ ((motion_of (entry i)).rotation ≡ matrix_of r)

  -- No entry is foreign or repeated, and this is the lowest code of a rotation that no entry has.
  pub record LowestLacking (code : ℕ) : Type 0 where
    pub none-off : (i : ℕ) → i < n → ¬ (Off i)
    pub rotation : Rotation
    pub lacking : Lacking rotation
    pub its-code : code_of rotation ≡ code
    pub least : (r : Rotation) → Lacking r → code ≤ code_of r

-- ---- rotations, codes and matrices

-- So the matrix tells the rotation.
matrix-tells : (r s : Rotation) → Digits r → Digits s → matrix_of r ≡ matrix_of s → r ≡ s
matrix-tells r s d e p = sym (digits-again r d) ∙ ap digits_of p ∙ digits-again s e

-- The test on two operations says that their motions differ by a translation of L.
alike-motions : (c : Centering) (f g : Operation) → Digits f.rotation → Digits g.rotation → (alike c f g ≡ true)
    ↔ Alike (points_of c) (motion_of f) (motion_of g)
unfolding motion_of
alike-motions c f g d e = (
  (λ t. let (p, q) = (alike-parts c f g).0 t in (ap matrix_of (code-injective f.rotation g.rotation d e p), q)),
  λ (p, q). (alike-parts c f g).1 (ap code_of (matrix-tells f.rotation g.rotation d e p), q),
)

-- ---- the lowest code
-- It is at most that of each number that passes,
lowest-least : (test : ℕ → Bool) (code : ℕ → ℕ) (n i : ℕ) → i < n → test i ≡ true → lowest test code n ≤ code i
unfolding lowest
lowest-least test code zero i h e = absurd (omega arith)
lowest-least test code (suc n) i h e = elim (ℕ_discrete i n) [
  | yes q ↦ rw (sym (ap test q) ∙ e, q) (omega arith)
  | no q ↦ later (test n) (lowest-least test code n i (omega arith) e)
]
  where
    later : (b : Bool) → lowest test code n ≤ code i → cond b (min (code n) (lowest test code n)) (lowest test code n) ≤ code i
    later true h = omega arith
    later false h = h

-- and, where it is a code, that of one of them.
lowest-found : (test : ℕ → Bool) (code : ℕ → ℕ) (n : ℕ) → lowest test code n < no_code → (i : ℕ) × (i < n) × (test i ≡ true) × (code i ≡ lowest test code n)
unfolding lowest
lowest-found test code zero h = absurd (omega arith)
lowest-found test code (suc n) h = by-test (test n) refl h (lowest-found test code n)
  where
    by-test : (b : Bool) → test n ≡ b → cond b (min (code n) (lowest test code n)) (lowest test code n) < no_code
        → (lowest test code n < no_code → (i : ℕ) × (i < n) × (test i ≡ true) × (code i ≡ lowest test code n))
        → (i : ℕ) × (i < suc n) × (test i ≡ true) × (code i ≡ cond b (min (code n) (lowest test code n)) (lowest test code n))
    by-test true e l before = elim (dec_lt (lowest test code n) (code n)) [
      | yes k ↦ let (i, b, t, q) = before (omega arith) in (i, omega arith, t, omega arith)
      | no k ↦ (n, omega arith, e, omega arith)
    ]
    by-test false e l before = let (i, b, t, q) = before l in (i, omega arith, t, q)

-- ---- the entries of a list and the operations of an accepted symbol
module _
    (c : Centering)
    (gens operations : List Operation)
    (steps : List ℕ)
    (A : Accepted c gens operations steps)
    (count : ℕ)
    (operation : ℕ → Operation)
    (listed : (k : ℕ) → k < count → Mem (operation k) operations)
    (indexed : (o : Operation) → Mem o operations → (k : ℕ) × (k < count) × (operation k ≡ o))
    (n : ℕ)
    (entry : ℕ → Operation)
    (digits : (i : ℕ) → i < n → Digits (entry i).rotation)
  where
    listed-digits : (k : ℕ) → k < count → Digits (operation k).rotation
    listed-digits k h =
        (digits-entries (operation k).rotation).1
        (A.small (matrix_of (operation k).rotation) (rotation-generated c gens operations steps A (operation k) (listed k h)))

    -- To be alike is an equivalence of motions.
    near-symmetric : (f g : SpaceMotion) → Alike (points_of c) f g → Alike (points_of c) g f
    near-symmetric f g = (motions-keyed (points_of c) (points c)).alike-symmetric f g

    near-transitive : (f g h : SpaceMotion) → Alike (points_of c) f g → Alike (points_of c) g h → Alike (points_of c) f h
    near-transitive f g h = (motions-keyed (points_of c) (points c)).alike-transitive f g h

    near-reflexive : (f : SpaceMotion) → Alike (points_of c) f f
    near-reflexive f = (motions-keyed (points_of c) (points c)).alike-reflexive f

    -- A motion is in the set exactly if it is alike to an operation,
    in-set : (m : SpaceMotion) → InGeneratedSet c gens m ↔ ((k : ℕ) × (k < count) × Alike (points_of c) m (motion_of (operation k)))
    in-set m = (forth, λ (k, h, near). (set-exactly c gens operations steps A m).1 (operation k, listed k h, near))
      where
        forth : InGeneratedSet c gens m → (k : ℕ) × (k < count) × Alike (points_of c) m (motion_of (operation k))
        forth s =
            let (o, member, near) = (set-exactly c gens operations steps A m).0 s in
            let (k, h, same) = indexed o member in
            (k, h, rw same near)

    -- and so is a motion alike to one of the set.
    near-in-set : (f g : SpaceMotion) → Alike (points_of c) f g → InGeneratedSet c gens g → InGeneratedSet c gens f
    near-in-set f g near s =
        let (k, h, close) = (in-set g).0 s in
        (in-set f).1 (k, h, near-transitive f g (motion_of (operation k)) near close)

    -- Operations with one rotation are one.
    rotation-tells : (j k : ℕ) → j < count → k < count → (operation j).rotation ≡ (operation k).rotation → operation j ≡ operation k
    rotation-tells j k h l e =
        distinct-equal same_turn turns (rotations-once c gens operations steps A) (listed j h) (listed k l) (rw e (eqb_refl (code_of (operation k).rotation)))

    module _ (i : ℕ) (h : i < n) where
      -- ---- one entry
      -- The test for foreign entries,
      not-foreign : (foreign_at c count operation entry i ≡ false) ↔ InGeneratedSet c gens (motion_of (entry i))
      unfolding foreign_at
      not-foreign = (
        (λ e.
            let (k, l, t) = some-passes (λ k. alike c (entry i) (operation k)) count (not-false _ e) in
            (in-set (motion_of (entry i))).1 (k, l, (alike-motions c (entry i) (operation k) (digits i h) (listed-digits k l)).0 t)),
        λ s.
            let (k, l, near) = (in-set (motion_of (entry i))).0 s in
            ap not (passes-some (λ k. alike c (entry i) (operation k)) count k l
            ((alike-motions c (entry i) (operation k) (digits i h) (listed-digits k l)).1 near)),
      )

      -- and that for repeated ones.
      is-repeated : (repeated_at c entry i ≡ true) ↔ Repeated c gens n entry i
      unfolding repeated_at
      is-repeated = (
        (λ e.
            let (j, l, t) = some-passes (λ j. alike c (entry i) (entry j)) i e in
            (j, l, (alike-motions c (entry i) (entry j) (digits i h) (digits j (omega arith))).0 t)),
        λ (j, l, near). passes-some (λ j. alike c (entry i) (entry j)) i j l
            ((alike-motions c (entry i) (entry j) (digits i h) (digits j (omega arith))).1 near),
      )

      -- Both together.
      is-off : (off_at c count operation entry i ≡ true) ↔ Off c gens n entry i
      unfolding off_at
      is-off = (
        (λ e. elim (or-either (foreign_at c count operation entry i) (repeated_at c entry i) e) [
          | inl f ↦ inl (λ s. true≢false (sym f ∙ not-foreign.1 s))
          | inr r ↦ inr (is-repeated.0 r)
        ]),
        back,
      )
        where
          back : Off c gens n entry i → (foreign_at c count operation entry i || repeated_at c entry i) ≡ true
          back (inl f) = elim (passes-or-fails (foreign_at c count operation entry i)) [
            | inl e ↦ or-holds-left (foreign_at c count operation entry i) (repeated_at c entry i) e
            | inr e ↦ absurd (f (not-foreign.0 e))
          ]
          back (inr r) = or-holds-right (foreign_at c count operation entry i) (repeated_at c entry i) (is-repeated.1 r)

      -- An entry that is not off is in the set, and no entry before it is alike to it.
      on-in-set : off_at c count operation entry i ≡ false → InGeneratedSet c gens (motion_of (entry i))
      unfolding off_at
      on-in-set e = elim (passes-or-fails (foreign_at c count operation entry i)) [
        | inl f ↦ absurd (true≢false (sym (or-holds-left (foreign_at c count operation entry i) (repeated_at c entry i) f) ∙ e))
        | inr f ↦ not-foreign.0 f
      ]

      on-exactly : (off_at c count operation entry i ≡ false) ↔ (¬ (Off c gens n entry i))
      on-exactly = (
        (λ e off. true≢false (sym (is-off.1 off) ∙ e)),
        λ on. not-passing (off_at c count operation entry i) (λ e. on (is-off.0 e)),
      )

    -- ---- an operation
    -- It is not missing if an entry is alike to it.
    not-missing : (k : ℕ) → k < count → (missing_at c n entry operation k ≡ false) ↔ Held c gens n entry (motion_of (operation k))
    unfolding missing_at
    not-missing k h = (
      (λ e.
          let (i, l, t) = some-passes (λ i. alike c (operation k) (entry i)) n (not-false _ e) in
          (i, l, (alike-motions c (operation k) (entry i) (listed-digits k h) (digits i l)).0 t)),
      λ (i, l, near). ap not (passes-some (λ i. alike c (operation k) (entry i)) n i l
          ((alike-motions c (operation k) (entry i) (listed-digits k h) (digits i l)).1 near)),
    )

    -- Where no entry is off, the rotation of a missing operation is lacking:
    missing-lacks : ((i : ℕ) → i < n → off_at c count operation entry i ≡ false) → (k : ℕ) → k < count → missing_at c n entry operation k ≡ true
        → Lacking c gens n entry (operation k).rotation
    unfolding motion_of
    missing-lacks on k h e =
        record {
          digits = listed-digits k h;
          there = (motion_of (operation k), (in-set (motion_of (operation k))).1 (k, h, near-reflexive (motion_of (operation k))), refl);
          absent = λ i l p.
              let (j, b, near) = (in-set (motion_of (entry i))).0 (on-in-set i l (on i l)) in
              let same =
              rotation-tells j k b h
              (matrix-tells (operation j).rotation (operation k).rotation (listed-digits j b) (listed-digits k h) (sym near.0 ∙ p)) in
              let close : Alike (points_of c) (motion_of (entry i)) (motion_of (operation k)) = rw (← same) near in
              true≢false (sym e ∙ (not-missing k h).1 (i, l, near-symmetric (motion_of (entry i)) (motion_of (operation k)) close));
        }

    -- and every lacking rotation is that of a missing operation.
    lacking-misses : (r : Rotation) → Lacking c gens n entry r → (k : ℕ) × (k < count) × (missing_at c n entry operation k ≡ true)
        × ((operation k).rotation ≡ r)
    unfolding motion_of
    lacking-misses r L =
        let (m, s, p) = L.there in
        let (k, h, near) = (in-set m).0 s in
        let same : (operation k).rotation ≡ r = matrix-tells (operation k).rotation r (listed-digits k h) L.digits (sym near.0 ∙ p) in
        (k, h, missing k h same, same)
      where
        missing : (k : ℕ) → k < count → (operation k).rotation ≡ r → missing_at c n entry operation k ≡ true
        missing k h same = elim (passes-or-fails (missing_at c n entry operation k)) [
          | inl e ↦ e
          | inr e ↦ let (i, l, near) = (not-missing k h).0 e in absurd (L.absent i l (sym near.0 ∙ ap matrix_of same))
        ]

    -- ---- the answer
    -- The test for entries, the codes, and the test for operations.
    abbrev off : ℕ → Bool
    off = off_at c count operation entry

    abbrev missing : ℕ → Bool
    missing = missing_at c n entry operation

    abbrev code : ℕ → ℕ
    code k = turn_of (operation k)

    -- Codes of operations are below that which is none.
    code_below : (k : ℕ) → k < count → code k < no_code
    code_below k h = code_lt (operation k).rotation (listed-digits k h)

    -- By the first entry that is off, and then by the lowest code.
    answer-off : FirstPassing off n (first off n) → entries_answer c count operation n entry ≡ Ok (Entry (first off n))
    answer-off f = off-answer c count operation n entry f.below

    answer-on : first off n ≡ n → entries_answer c count operation n entry ≡ missing_answer (lowest missing code count)
    answer-on e = on-answer c count operation n entry (omega arith)

    -- The answer names entry i exactly if it is the first that is foreign or repeated,
    pub entry_named : (i : ℕ) → (entries_answer c count operation n entry ≡ Ok (Entry i)) ↔ FirstOffEntry c gens n entry i
    entry_named i = (
      (λ e. elim (first-cases off n) [
        | inl f ↦ let same : first off n ≡ i = let d = sym (answer-off f) ∙ e in cc in named (rw same at f)
        | inr f ↦ absurd (not_entry (lowest missing code count) (sym (answer-on f.0) ∙ e))
      ]),
      λ f.
          let passing : FirstPassing off n i = record {
            below = f.within;
            passes = (is-off i f.within).1 f.off;
            before = λ j h. (on-exactly j (let w = f.within in omega arith)).1 (f.before j h);
          } in
          let same = first_found off n i passing in
          answer-off (rw same passing) ∙ ap (λ x. Ok (Entry x)) same,
    )
      where
        not_entry : (k : ℕ) → missing_answer k ≡ Ok (Entry i) → ⊥
        not_entry k = by-test (ltb k no_code)
          where
            by-test : (b : Bool) → cond {A = Result Verdict Refusal} b (Ok (Missing k)) (Ok Yes) ≡ Ok (Entry i) → ⊥
            by-test true e = let z : ◌≡◌ {A = ℕ} 0 1 = cc in omega arith
            by-test false e = let z : ◌≡◌ {A = ℕ} 0 1 = cc in omega arith

        named : FirstPassing off n i → FirstOffEntry c gens n entry i
        named f =
            record {
              within = f.below;
              off = (is-off i f.below).0 f.passes;
              before = λ j h. (on-exactly j (let b = f.below in omega arith)).0 (f.before j h);
            }

    -- it names a code exactly if that is the lowest of a rotation that no entry has,
    pub missing-named : (m : ℕ) → (entries_answer c count operation n entry ≡ Ok (Missing m)) ↔ LowestLacking c gens n entry m
    missing-named m = (
      (λ e. elim (first-cases off n) [
        | inl f ↦ absurd (let d = sym (answer-off f) ∙ e in let z : ◌≡◌ {A = ℕ} 0 1 = cc in omega arith)
        | inr f ↦ lacking f.1 (missing-code (lowest missing code count) (ltb (lowest missing code count) no_code) refl (sym (answer-on f.0) ∙ e))
      ]),
      back,
    )
      where
        missing-code : (k : ℕ) (b : Bool) → ltb k no_code ≡ b → cond {A = Result Verdict Refusal} b (Ok (Missing k)) (Ok Yes) ≡ Ok (Missing m) → (k < no_code) × (k ≡ m)
        missing-code k true t e = (ltb-true k no_code t, cc)
        missing-code k false t e = let z : ◌≡◌ {A = ℕ} 0 1 = cc in absurd (omega arith)

        lacking : ((i : ℕ) → i < n → off i ≡ false) → (lowest missing code count < no_code) × (lowest missing code count ≡ m) → LowestLacking c gens n entry m
        lacking on (low, same) =
            let (j, b, s, q) = lowest-found missing code count low in
            record {
              none-off = λ i h. (on-exactly i h).0 (on i h);
              rotation = (operation j).rotation;
              lacking = missing-lacks on j b s;
              its-code = q ∙ same;
              least = λ r L.
                  let (k, h, t, e) = lacking-misses r L in
                  let most = lowest-least missing code count k h t in
                  let known : code k ≡ code_of r = ap code_of e in
                  omega arith;
            }

        back : LowestLacking c gens n entry m → entries_answer c count operation n entry ≡ Ok (Missing m)
        back L =
            let on : (i : ℕ) → i < n → off i ≡ false = λ i h. (on-exactly i h).1 (L.none-off i h) in
            let (k, h, t, e) = lacking-misses L.rotation L.lacking in
            let known : code k ≡ m = ap code_of e ∙ L.its-code in
            let most = lowest-least missing code count k h t in
            let small = code_below k h in
            let low : lowest missing code count < no_code = omega arith in
            let (j, b, s, q) = lowest-found missing code count low in
            let least = L.least (operation j).rotation (missing-lacks on j b s) in
            let same : lowest missing code count ≡ m = omega arith in
            answer-on (first-none off n on) ∙ rw (lt-ltb (lowest missing code count) no_code low) (ap (λ x. Ok (Missing x)) same)

    -- and it is yes exactly if the entries are the set of motions modulo L, each once.
    pub yes-said : (entries_answer c count operation n entry ≡ Ok Yes) ↔ Whole c gens n entry
    yes-said = (
      (λ e. elim (first-cases off n) [
        | inl f ↦ absurd (let d = sym (answer-off f) ∙ e in let z : ◌≡◌ {A = ℕ} 0 1 = cc in omega arith)
        | inr f ↦ whole f.1 (nothing-missing
            (none-low (lowest missing code count) (ltb (lowest missing code count) no_code) refl (sym (answer-on f.0) ∙ e)))
      ]),
      back,
    )
      where
        none-low : (k : ℕ) (b : Bool) → ltb k no_code ≡ b → cond {A = Result Verdict Refusal} b (Ok (Missing k)) (Ok Yes) ≡ Ok Yes → no_code ≤ k
        none-low k true t e = let z : ◌≡◌ {A = ℕ} 0 1 = cc in absurd (omega arith)
        none-low k false t e = ltb-false k no_code t

        nothing-missing : no_code ≤ lowest missing code count → (k : ℕ) → k < count → missing k ≡ false
        nothing-missing high k h = not-passing (missing k) (λ t. let most = lowest-least missing code count k h t in let small = code_below k h in omega arith)

        whole : ((i : ℕ) → i < n → off i ≡ false) → ((k : ℕ) → k < count → missing k ≡ false) → Whole c gens n entry
        whole on there =
            record {
              once = λ i h r. (on-exactly i h).0 (on i h) (inr r);
              set = λ m. (
                (λ s.
                    let (k, h, near) = (in-set m).0 s in
                    let (i, l, close) = (not-missing k h).0 (there k h) in
                    (i, l, near-transitive m (motion_of (operation k)) (motion_of (entry i)) near close)),
                λ (i, l, near). near-in-set m (motion_of (entry i)) near (on-in-set i l (on i l)),
              );
            }

        back : Whole c gens n entry → entries_answer c count operation n entry ≡ Ok Yes
        back W = answer-on (first-none off n on) ∙ rw (le-ltb (lowest missing code count) no_code high) refl
          where
            on : (i : ℕ) → i < n → off i ≡ false
            on i h = (on-exactly i h).1 (λ o. elim o [
              | inl f ↦ f ((W.set (motion_of (entry i))).1 (i, h, near-reflexive (motion_of (entry i))))
              | inr r ↦ W.once i h r
            ])

            there : (k : ℕ) → k < count → missing k ≡ false
            there k h =
                (not-missing k h).1 ((W.set (motion_of (operation k))).0 ((in-set (motion_of (operation k))).1 (k, h, near-reflexive (motion_of (operation k)))))

            high : no_code ≤ lowest missing code count
            high = elim (dec_lt (lowest missing code count) no_code) [
              | yes low ↦ absurd (let (j, b, s, q) = lowest-found missing code count low in true≢false (sym s ∙ there j b))
              | no low ↦ omega arith
            ]
