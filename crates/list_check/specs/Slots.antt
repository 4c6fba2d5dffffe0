-- What the code keeps of the entries that it has passed: the set of the operations that they are, by index. While no entry is off, an operation is in the set
-- exactly if an entry is alike to it, so the set tells a repeated entry, and in the end what is missing.
use Rattle.std.specs.Prelude.{◌≡◌, refl, ◌↔◌, Bool, cond, Option, Some, None, MatchOption, Result, Ok, Err, List, ℕ, zero, suc, ◌+◌, ◌≤◌, ◌<◌, ◌^◌, min, eqb, ltb, length, get_or, position}
use Rattle.std.specs.List.{position_or_len}
use Rattle.std.proofs.Common.{sym, ◌∙◌, ap, true≢false, add-one, arith, eqb-true, eq-eqb, ne_eqb, lt-ltb, le-ltb, ltb-true, ltb-false, subst}
use Rattle.std.proofs.lemmas.List.Quantifiers.{position-Some}
use Rattle.std.proofs.lemmas.List.Sums.{fails_before_first}
use Rattle.std.proofs.Math.Path.{ap₂}
use Rattle.std.proofs.Math.Logic.{inl, inr}
use Rattle.std.proofs.Math.Bool.{true, false, not, ◌||◌}
use Rattle.std.proofs.Math.Decide.{ℕ_discrete}
use Rattle.std.specs.Int.Bits.{bit_or}
use Rattle.laws.specs.Sets.{member, member-empty, with-member}
use Rattle.laws.specs.Lattice.{Congruent, congruent-symmetric, congruent-transitive}
use Rattle.laws.specs.Truth.{same_truth, and_both, both-and, and-fails-left, or-holds-left, or-holds-right, not-passing}
use Rattle.laws.specs.Indices.{at-any}
use Rattle.operation.specs.Meaning.{vector_of}
use Rattle.operation.specs.Product.{identity_operation}
use Rattle.operation.specs.declared.Operation.{Operation}
use Rattle.centering.specs.Letters.{points_of}
use Rattle.centering.specs.Lattices.{points, congruent_of}
use Rattle.centering.specs.LatticeLaws.{congruent-lattice}
use Rattle.centering.specs.declared.Centering.{Centering}
use Rattle.subgroup_laws.specs.Bounded.{some, first, passes-some, some-passes, first_found, first-none, first-cases}
use Rattle.space_group.specs.Traversal.{turn_of}
use Rattle.list_check.specs.Checked.{alike, foreign_at, repeated_at, off_at, no_code, lowest, slot_at, entry_count, entry_at}

-- ---- one operation modulo the lattice
-- The test says: one code, and translations that differ by a vector of L.
pub alike-parts : (c : Centering) (f g : Operation) → (alike c f g ≡ true)
    ↔ ((turn_of f ≡ turn_of g) × Congruent (points_of c) (vector_of f.translation) (vector_of g.translation))
unfolding alike
alike-parts c f g = (
  (λ e.
      let (p, q) = and_both (eqb (turn_of f) (turn_of g)) (congruent_of c f.translation g.translation) e in
      (eqb-true (turn_of f) (turn_of g) p, (congruent-lattice c f.translation g.translation).0 q)),
  λ (p, q). both-and (eqb (turn_of f) (turn_of g)) (congruent_of c f.translation g.translation) (eq-eqb (turn_of f) (turn_of g) p)
      ((congruent-lattice c f.translation g.translation).1 q),
)

-- Codes that differ settle it, and else the translations do.
pub codes-apart : (c : Centering) (f g : Operation) → (turn_of f ≡ turn_of g → ⊥) → alike c f g ≡ false
unfolding alike
codes-apart c f g e = and-fails-left (eqb (turn_of f) (turn_of g)) (congruent_of c f.translation g.translation) (ne_eqb (turn_of f) (turn_of g) e)

pub codes_same : (c : Centering) (f g : Operation) → turn_of f ≡ turn_of g → alike c f g ≡ congruent_of c f.translation g.translation
unfolding alike
codes_same c f g e = rw (eq-eqb (turn_of f) (turn_of g) e) refl

module _ (c : Centering) where
  pub alike-symmetric : (f g : Operation) → alike c f g ≡ true → alike c g f ≡ true
  alike-symmetric f g e =
      let (p, q) = (alike-parts c f g).0 e in
      (alike-parts c g f).1 (sym p, congruent-symmetric (points_of c) (points c) (vector_of f.translation) (vector_of g.translation) q)

  pub alike-transitive : (f g h : Operation) → alike c f g ≡ true → alike c g h ≡ true → alike c f h ≡ true
  alike-transitive f g h d e =
      let (p, q) = (alike-parts c f g).0 d in
      let (r, s) = (alike-parts c g h).0 e in
      (alike-parts c f h).1
      (p ∙ r, congruent-transitive (points_of c) (points c) (vector_of f.translation) (vector_of g.translation) (vector_of h.translation) q s)

-- ---- tests below a number
-- Tests that agree below n agree on whether some number passes.
pub some_same : (p q : ℕ → Bool) (n : ℕ) → ((i : ℕ) → i < n → p i ≡ q i) → some p n ≡ some q n
some_same p q n same =
    same_truth (some p n) (some q n)
    (λ e. let (i, h, f) = some-passes p n e in passes-some q n i h (sym (same i h) ∙ f))
    (λ e. let (i, h, f) = some-passes q n e in passes-some p n i h (same i h ∙ f))

-- If none passes, each fails.
pub none_passes : (p : ℕ → Bool) (n : ℕ) → some p n ≡ false → (i : ℕ) → i < n → p i ≡ false
none_passes p n e i h = not-passing (p i) (λ f. true≢false (sym (passes-some p n i h f) ∙ e))

-- If each fails, none passes.
pub all-fail : (p : ℕ → Bool) (n : ℕ) → ((i : ℕ) → i < n → p i ≡ false) → some p n ≡ false
all-fail p n none = not-passing (some p n) (λ e. let (i, h, f) = some-passes p n e in true≢false (sym f ∙ none i h))

-- The lowest code goes by what the test says below n.
pub lowest-same : (p q : ℕ → Bool) (code : ℕ → ℕ) (n : ℕ) → ((i : ℕ) → i < n → p i ≡ q i) → lowest p code n ≡ lowest q code n
unfolding lowest
lowest-same p q code zero same = refl
lowest-same p q code (suc n) same = rw (same n (omega arith), lowest-same p q code n (λ i h. same i (omega arith)))

-- A number that passes after those that fail is the first,
pub first-here : (p : ℕ → Bool) (n i : ℕ) → i < n → ((j : ℕ) → j < i → p j ≡ false) → p i ≡ true → i ≡ first p n
first-here p n i h before e = sym (first_found p n i (record { below = h; passes = e; before = before }))

-- and where all fail none is found.
pub first-nowhere : (p : ℕ → Bool) (n : ℕ) → ((j : ℕ) → j < n → p j ≡ false) → n ≡ first p n
first-nowhere p n before = sym (first-none p n before)

-- The first number below n that passes, if one does.
abbrev pub first_below : (ℕ → Bool) → ℕ → Option ℕ
first_below p n = cond (ltb (first p n) n) (Some (first p n)) None

-- What a search of them found,
pub below-found : (p : ℕ → Bool) (n i : ℕ) → i < n → p i ≡ true → ((j : ℕ) → j < i → p j ≡ false) → Some i ≡ first_below p n
below-found p n i h e before = rw (← first-here p n i h before e, lt-ltb i n h) refl

-- or that it found none.
pub below-nothing : (p : ℕ → Bool) (n : ℕ) → ((j : ℕ) → j < n → p j ≡ false) → None ≡ first_below p n
below-nothing p n none = rw (first-none p n none, le-ltb n n (omega arith)) refl

-- What a search over them says.
pub below-by : (p : ℕ → Bool) (n : ℕ) (r : Option ℕ) → MatchOption r ((k : ℕ) → 0 ≤ k → k < n → p k ≡ false)
    (λ i. (0 ≤ i) × (i < n) × (p i ≡ true) × ((k : ℕ) → 0 ≤ k → k < i → p k ≡ false)) → r ≡ first_below p n
below-by p n None none = below-nothing p n (λ k h. none k (omega arith) h)
below-by p n (Some i) (low, h, e, before) = below-found p n i h e (λ k l. before k (omega arith) l)

-- The first is there if it is found,
pub found-below : (p : ℕ → Bool) (n i : ℕ) → Some i ≡ first_below p n → (i < n) × (i ≡ first p n)
found-below p n i e = by-test (ltb (first p n) n) refl e
  where
    by-test : (b : Bool) → ltb (first p n) n ≡ b → Some i ≡ cond b (Some (first p n)) None → (i < n) × (i ≡ first p n)
    by-test true t e = let same : i ≡ first p n = cc in (rw same (ltb-true (first p n) n t), same)
    by-test false t e = let z : ◌≡◌ {A = ℕ} 0 1 = cc in absurd (omega arith)

-- and none is there if none is.
pub nothing-below : (p : ℕ → Bool) (n : ℕ) → None ≡ first_below p n → n ≤ first p n
nothing-below p n e = by-test (ltb (first p n) n) refl e
  where
    by-test : (b : Bool) → ltb (first p n) n ≡ b → None ≡ cond b (Some (first p n)) None → n ≤ first p n
    by-test true t e = let z : ◌≡◌ {A = ℕ} 0 1 = cc in absurd (omega arith)
    by-test false t e = ltb-false (first p n) n t

-- One more that fails.
pub one_more : (p : ℕ → Bool) (i : ℕ) → ((j : ℕ) → j < i → p j ≡ false) → p i ≡ false → (j : ℕ) → j < i + 1 → p j ≡ false
one_more p i before e j h = elim (ℕ_discrete j i) [ yes q ↦ rw q e | no q ↦ before j (omega arith) ]

-- ---- what the code finds
-- A slot of the operations, whatever stands for one that is not there.
pub slot_is : (operations : List Operation) (k : ℕ) (d : Operation) → k < length operations → get_or operations k d ≡ slot_at operations k
unfolding slot_at
slot_is operations k d h = at-any operations k d identity_operation h

-- Each rotation of the group stands once.
abbrev pub Once : ℕ → (ℕ → Operation) → Type 0
Once count operation = (j k : ℕ) → j < count → k < count → turn_of (operation j) ≡ turn_of (operation k) → j ≡ k

-- The lowest code of an operation that is not in the set.
unfoldable pub lowest_unseen : ℕ → List Operation → ℕ → ℕ
lowest_unseen count operations seen = lowest (λ k. not (member seen k)) (λ k. turn_of (slot_at operations k)) count

-- Each rotation of the group has a code.
abbrev pub Coded : ℕ → (ℕ → Operation) → Type 0
Coded count operation = (k : ℕ) → k < count → turn_of (operation k) < no_code

-- A code, or none.
abbrev pub code_found : ℕ → Option ℕ
code_found code = cond (ltb code no_code) (Some code) None

-- The lowest code of the operations below k that were not seen.
abbrev pub unseen_below : ℕ → List Operation → ℕ → ℕ
unseen_below seen operations k = lowest (λ j. not (member seen j)) (λ j. turn_of (slot_at operations j)) k

-- One more operation, seen or not.
pub seen-stays : (seen : ℕ) (operations : List Operation) (k : ℕ) → member seen k ≡ true
    → unseen_below seen operations k ≡ unseen_below seen operations (k + 1)
unfolding lowest
seen-stays seen operations k e = rw (add-one k, e) refl

pub unseen-lowers : (seen : ℕ) (operations : List Operation) (k : ℕ) → member seen k ≡ false
    → min (turn_of (slot_at operations k)) (unseen_below seen operations k) ≡ unseen_below seen operations (k + 1)
unfolding lowest
unseen-lowers seen operations k e = rw (add-one k, e) refl

-- The same of a number that is the lowest so far, whatever stands for a slot that is not there.
pub unseen-next : (seen : ℕ) (operations : List Operation) (k best : ℕ) (d : Operation) → k < length operations
    → best ≡ lowest (λ j. not (member seen j)) (λ j. turn_of (slot_at operations j)) k
    → cond (member seen k) best (min (turn_of (get_or operations k d)) best) ≡ lowest (λ j. not (member seen j)) (λ j. turn_of (slot_at operations j)) (k + 1)
unseen-next seen operations k best d h e = rw (slot_is operations k d h, e) (by-test (member seen k) refl)
  where
    by-test : (b : Bool) → member seen k ≡ b
        → cond b (unseen_below seen operations k) (min (turn_of (slot_at operations k)) (unseen_below seen operations k)) ≡ unseen_below seen operations (k + 1)
    by-test true t = seen-stays seen operations k t
    by-test false t = unseen-lowers seen operations k t

-- The lower of a code and one that was found, or that code if none was.
pub lower-found : (code low r : ℕ) (o : Option ℕ) → code < no_code → o ≡ code_found low → MatchOption o (r ≡ code) (λ best. r ≡ min best code)
    → Some r ≡ code_found (min code low)
lower-found code low r o h e m = by-test (ltb low no_code) refl (subst (λ (o : Option ℕ). MatchOption o (r ≡ code) (λ best. r ≡ min best code)) e m)
  where
    by-test : (b : Bool) → ltb low no_code ≡ b → MatchOption (cond b (Some low) None) (r ≡ code) (λ best. r ≡ min best code)
        → Some r ≡ code_found (min code low)
    by-test true t e =
        let same : r ≡ min code low = omega (arith, e) in
        rw (← same, lt-ltb r no_code (omega arith)) refl
    by-test false t e =
        let high = ltb-false low no_code t in
        let same : r ≡ min code low = omega (arith, e) in
        rw (← same, lt-ltb r no_code (omega arith)) refl

-- The set holds the operations that the first i entries are.
abbrev pub Seen : Centering → ℕ → (ℕ → Operation) → (ℕ → Operation) → ℕ → ℕ → Type 0
Seen c count operation entry i seen = (k : ℕ) → k < count → member seen k ≡ some (λ j. alike c (operation k) (entry j)) i

-- The set that all entries make if none is off, and else the first that is.
abbrev pub Compares : Centering → List Operation → List ℕ → Result ℕ ℕ → Type 0
Compares c operations list (Ok seen) =
    (entry_count list ≤ first (off_at c (length operations) (slot_at operations) (entry_at list)) (entry_count list))
    × Seen c (length operations) (slot_at operations) (entry_at list) (entry_count list) seen
Compares c operations list (Err i) =
    (i < entry_count list) × (i ≡ first (off_at c (length operations) (slot_at operations) (entry_at list)) (entry_count list))

-- The place that a search of the operations found is the first,
pub place-found : (c : Centering) (operations : List Operation) (o e : Operation) (k : ℕ) → o ≡ e → Some k ≡ position (alike c o) operations
    → (k < length operations) × (k ≡ first (λ j. alike c e (slot_at operations j)) (length operations))
unfolding slot_at
place-found c operations o e k q found =
    let (h, there, before) = position-Some (alike c o) operations k identity_operation (sym found) in
    (h, rw (← q) (first-here (λ j. alike c o (slot_at operations j)) (length operations) k h before there))

-- and it found none if there is none.
pub place-nothing : (c : Centering) (operations : List Operation) (o e : Operation) → o ≡ e → None ≡ position (alike c o) operations
    → length operations ≤ first (λ j. alike c e (slot_at operations j)) (length operations)
unfolding slot_at
place-nothing c operations o e q none =
    rw (← q) (omega (arith, first-none (λ j. alike c o (slot_at operations j)) (length operations) (nothing_at (alike c o) operations none)))
  where
    nothing_at : (p : Operation → Bool) (xs : List Operation) → None ≡ position p xs → (j : ℕ) → j < length xs → p (get_or xs j identity_operation) ≡ false
    nothing_at p xs e j h = by-test (ltb (position_or_len p xs) (length xs)) refl e
      where
        by-test : (b : Bool) → ltb (position_or_len p xs) (length xs) ≡ b → None ≡ cond b (Some (position_or_len p xs)) None
            → p (get_or xs j identity_operation) ≡ false
        by-test true t e = let z : ◌≡◌ {A = ℕ} 0 1 = cc in absurd (omega arith)
        by-test false t e = fails_before_first p xs j identity_operation (omega (arith, ltb-false (position_or_len p xs) (length xs) t))

module _ (c : Centering) (count : ℕ) (operation entry : ℕ → Operation) (once : Once count operation) where
  -- Nothing is seen before the first entry.
  pub seen_nothing : Seen c count operation entry 0 0
  unfolding some
  seen_nothing k h = member-empty k

  module _ (i : ℕ) where
    -- The place of the entry among the operations.
    abbrev place : ℕ
    place = first (λ k. alike c (entry i) (operation k)) count

    -- An entry whose place is past the operations is foreign,
    pub past_off : count ≤ place → off_at c count operation entry i ≡ true
    unfolding off_at foreign_at
    past_off h = or-holds-left _ (repeated_at c entry i) (ap not (all-fail (λ k. alike c (entry i) (operation k)) count none))
      where
        none : (k : ℕ) → k < count → alike c (entry i) (operation k) ≡ false
        none = elim (first-cases (λ k. alike c (entry i) (operation k)) count) [ inl f ↦ absurd (let b = f.below in omega arith) | inr f ↦ f.1 ]

    module _ (within : place < count) where
      -- else it is alike to the operation at its place.
      at_place : alike c (entry i) (operation place) ≡ true
      at_place = elim (first-cases (λ k. alike c (entry i) (operation k)) count) [ inl f ↦ f.passes | inr f ↦ absurd (let e = f.0 in omega arith) ]

      module _ (seen : ℕ) (S : Seen c count operation entry i seen) where
        -- Seen before, it is repeated.
        pub seen-off : member seen place ≡ true → off_at c count operation entry i ≡ true
        unfolding off_at repeated_at
        seen-off e =
            let (j, h, f) = some-passes (λ j. alike c (operation place) (entry j)) i (sym (S place within) ∙ e) in
            or-holds-right (foreign_at c count operation entry i) _
            (passes-some (λ j. alike c (entry i) (entry j)) i j h (alike-transitive c (entry i) (operation place) (entry j) at_place f))

        -- Not seen before, it is neither foreign nor repeated,
        pub new-on : member seen place ≡ false → off_at c count operation entry i ≡ false
        unfolding off_at foreign_at repeated_at
        new-on e =
            both-fail (not (some (λ k. alike c (entry i) (operation k)) count)) _
            (ap not (passes-some (λ k. alike c (entry i) (operation k)) count place within at_place)) (all-fail (λ j. alike c (entry i) (entry j)) i none)
          where
            both-fail : (a b : Bool) → a ≡ false → b ≡ false → (a || b) ≡ false
            both-fail true b p q = absurd (true≢false p)
            both-fail false b p q = q

            none : (j : ℕ) → j < i → alike c (entry i) (entry j) ≡ false
            none j h = not-passing (alike c (entry i) (entry j)) (λ f.
                let back = alike-symmetric c (entry i) (operation place) at_place in
                let far = alike-transitive c (operation place) (entry i) (entry j) back f in
                true≢false (sym (passes-some (λ j. alike c (operation place) (entry j)) i j h far) ∙ sym (S place within) ∙ e))

        -- and the operation at its place is seen with it, and no other.
        pub seen_next : Seen c count operation entry (i + 1) (bit_or seen (2 ^ place))
        unfolding some
        seen_next k h = rw (add-one i) (with-member seen place k ∙ ap₂ ◌||◌ (S k h) here)
          where
            apart : (place ≡ k → ⊥) → alike c (operation k) (entry i) ≡ false
            apart differ = not-passing (alike c (operation k) (entry i)) (λ f.
                differ (once place k within h
                (sym ((alike-parts c (operation k) (operation place)).0 (alike-transitive c (operation k) (entry i) (operation place) f at_place)).0)))

            here : eqb place k ≡ alike c (operation k) (entry i)
            here = elim (ℕ_discrete place k) [
              | yes q ↦ eq-eqb place k q ∙ sym (rw (← q) (alike-symmetric c (entry i) (operation place) at_place))
              | no q ↦ ne_eqb place k q ∙ sym (apart q)
            ]
