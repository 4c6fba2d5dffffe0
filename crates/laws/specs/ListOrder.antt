-- The list order of sets (R7.2): more members first; then the set that holds the lowest element in which the
-- two differ. It is a strict total order, so given sets stand in one list only.
use Rattle.std.specs.Prelude.{◌≡◌, refl, ◌⊎◌, ◌↔◌, ◌≢◌, Bool, true, false, cond, not, ℕ, zero, suc, ◌+◌, ◌/◌, ◌^◌, ◌≤◌, ◌<◌, ltb, length}
use Rattle.std.proofs.Common.{sym, ap, ◌∙◌, inl, inr, true≢false, suc-le-suc, arith, lt_irrefl, lt-ltb, le-ltb}
use Rattle.std.specs.Bool.{beq}
use mathlib.Core.List.Lexᴰ
use mathlib.Core.List.{List, [], ◌∷◌, ◌++◌, map, Memᴰ as Mem, Nodup, Lexᴰ}
use Rattle.std.proofs.Math.Decide.{ℕ_discrete, dec_lt}
use Rattle.std.specs.Int.Bits.{bit_xor}
use Rattle.std.specs.Int.Count.{ones, ones_in, count_trailing_zeros}
use Rattle.laws.specs.Sorted.{StrictOrder, Decides, Sorted, unique, sort, sort_sorted}
use Rattle.laws.specs.Sets.{member, member-suc, member_below, member-xor, same-members, wide_enough, ones_in-lowest, ones_below, ones-members, members, members-lowest, members-length, trailing_below, trailing-member, trailing-lowest}

-- ---- the order

-- s holds the lowest element in which s and t differ
pub record HoldsLowest (s t : ℕ) : Type 0 where
  pub lowest : ℕ
  pub held : member s lowest ≡ true
  pub not-held : member t lowest ≡ false
  pub same-below : (i : ℕ) → i < lowest → member s i ≡ member t i

-- s stands before t: it has more members (`ones` counts them, law `ones-members`), or as many and it holds the lowest element in which the two differ
pub data Precedes (s t : ℕ) : Type 0 where
  more-members : ones t < ones s → Precedes s t
  as_many : ones s ≡ ones t → HoldsLowest s t → Precedes s t

-- no set holds an element in which it differs from itself
pub holds-lowest-irreflexive : (s : ℕ) → ¬ (HoldsLowest s s)
holds-lowest-irreflexive s h = true≢false (sym h.held ∙ h.not-held)

-- of two lowest elements the lower one decides
pub holds-lowest-transitive : (s t u : ℕ) → HoldsLowest s t → HoldsLowest t u → HoldsLowest s u
holds-lowest-transitive s t u h k = elim (dec_lt h.lowest k.lowest) [
  | yes l ↦ record {
    lowest = h.lowest;
    held = h.held;
    not-held = sym (k.same-below h.lowest l) ∙ h.not-held;
    same-below = λ i m. h.same-below i m ∙ k.same-below i (omega arith);
  }
  | no l ↦ elim (dec_lt k.lowest h.lowest) [
    | yes m ↦ record {
      lowest = k.lowest;
      held = h.same-below k.lowest m ∙ k.held;
      not-held = k.not-held;
      same-below = λ i g. h.same-below i (omega arith) ∙ k.same-below i g;
    }
    | no m ↦ let e : h.lowest ≡ k.lowest = omega arith in absurd (true≢false (sym k.held ∙ ap (member t) (sym e) ∙ h.not-held))
  ]
]

-- no set stands before itself
pub precedes-irreflexive : (s : ℕ) → ¬ (Precedes s s)
precedes-irreflexive s (more-members h) = omega arith
precedes-irreflexive s (as_many e h) = holds-lowest-irreflexive s h

-- what stands before a set stands before all that follow it
pub precedes-transitive : (s t u : ℕ) → Precedes s t → Precedes t u → Precedes s u
precedes-transitive s t u (more-members h) (more-members k) = more-members (omega arith)
precedes-transitive s t u (more-members h) (as_many e k) = more-members (omega arith)
precedes-transitive s t u (as_many e h) (more-members k) = more-members (omega arith)
precedes-transitive s t u (as_many e h) (as_many f k) = as_many (e ∙ f) (holds-lowest-transitive s t u h k)

-- the list order is a strict order
pub precedes-strict : StrictOrder Precedes
precedes-strict = record { irreflexive = precedes-irreflexive; transitive = precedes-transitive }

-- ---- the lowest element in which two sets differ, by the trailing zeros of the bitwise xor

-- the lowest element below n in which s and t differ, and n if there is none
abbrev pub lowest_difference : ℕ → ℕ → ℕ → ℕ
lowest_difference n s t = count_trailing_zeros n (bit_xor s t)

-- digits that do not differ are equal
not-differ : (a b : Bool) → not (beq a b) ≡ false → a ≡ b
not-differ true true e = refl
not-differ true false e = absurd (true≢false e)
not-differ false true e = absurd (true≢false e)
not-differ false false e = refl

-- of two digits that differ the one is set and the other is not
differ-false : (a b : Bool) → not (beq a b) ≡ true → a ≡ true → b ≡ false
differ-false true true e h = absurd (true≢false (sym e))
differ-false true false e h = refl
differ-false false b e h = absurd (true≢false (sym h))

-- of two digits that differ the one is not set and the other is
differ-true : (a b : Bool) → not (beq a b) ≡ true → a ≡ false → b ≡ true
differ-true false false e h = absurd (true≢false (sym e))
differ-true false true e h = refl
differ-true true b e h = absurd (true≢false h)

module _ (n s t : ℕ) where
  -- below it the two sets agree
  pub same-below-difference : (i : ℕ) → i < lowest_difference n s t → member s i ≡ member t i
  same-below-difference i h = not-differ (member s i) (member t i) (sym (member-xor s t i) ∙ trailing_below n (bit_xor s t) i h)

  -- in it the two sets differ, if it is below n
  differ-at-difference : lowest_difference n s t < n → not (beq (member s (lowest_difference n s t)) (member t (lowest_difference n s t))) ≡ true
  differ-at-difference h = sym (member-xor s t (lowest_difference n s t)) ∙ trailing-member n (bit_xor s t) h

  -- the set that holds it holds the lowest element in which the two differ
  pub difference-held : lowest_difference n s t < n → member s (lowest_difference n s t) ≡ true → HoldsLowest s t
  difference-held h e = record {
    lowest = lowest_difference n s t;
    held = e;
    not-held = differ-false _ _ (differ-at-difference h) e;
    same-below = same-below-difference;
  }

  -- if the one set does not hold it, the other does
  pub difference-not-held : lowest_difference n s t < n → member s (lowest_difference n s t) ≡ false → HoldsLowest t s
  difference-not-held h e = record {
    lowest = lowest_difference n s t;
    held = differ-true _ _ (differ-at-difference h) e;
    not-held = e;
    same-below = λ i l. sym (same-below-difference i l);
  }

  -- it is below n if the sets differ
  pub difference_below : s < 2 ^ n → t < 2 ^ n → s ≢ t → lowest_difference n s t < n
  difference_below h k different = elim (dec_lt (lowest_difference n s t) n) [
    | yes l ↦ l
    | no l ↦ absurd (different (same-members n s t h k (λ i m. same-below-difference i (omega arith))))
  ]

  -- it is the lowest element in which the two differ
  pub lowest-is-difference : s < 2 ^ n → (h : HoldsLowest s t) → lowest_difference n s t ≡ h.lowest
  lowest-is-difference k h =
      trailing-lowest n (bit_xor s t) h.lowest (member_below n s h.lowest k h.held)
      (member-xor s t h.lowest ∙ rw (h.held, h.not-held))
      (λ i l. member-xor s t i ∙ agree (member s i) (member t i) (h.same-below i l))
    where
      -- equal digits do not differ
      agree : (a b : Bool) → a ≡ b → not (beq a b) ≡ false
      agree true true e = refl
      agree true false e = absurd (true≢false e)
      agree false true e = absurd (true≢false (sym e))
      agree false false e = refl

  -- of two different sets one holds the lowest element in which they differ
  pub holds-lowest-below : s < 2 ^ n → t < 2 ^ n → s ≢ t → HoldsLowest s t ⊎ HoldsLowest t s
  holds-lowest-below h k different = either (member s (lowest_difference n s t)) refl (difference_below h k different)
    where
      either : (b : Bool) → member s (lowest_difference n s t) ≡ b → lowest_difference n s t < n → HoldsLowest s t ⊎ HoldsLowest t s
      either true e l = inl (difference-held l e)
      either false e l = inr (difference-not-held l e)

-- of two different sets one holds the lowest element in which they differ, whatever their width
pub holds-lowest-total : (s t : ℕ) → s ≢ t → HoldsLowest s t ⊎ HoldsLowest t s
holds-lowest-total s t different =
    let wide = wide_enough (s + t) in
    holds-lowest-below (s + t) s t (omega arith) (omega arith) different

-- of two different sets one stands before the other
pub precedes-total : (s t : ℕ) → s ≢ t → Precedes s t ⊎ Precedes t s
precedes-total s t different = elim (dec_lt (ones t) (ones s)) [
  | yes h ↦ inl (more-members h)
  | no h ↦ elim (dec_lt (ones s) (ones t)) [
    | yes k ↦ inr (more-members k)
    | no k ↦ elim (holds-lowest-total s t different) [
      | inl g ↦ inl (as_many (omega arith) g)
      | inr g ↦ inr (as_many (omega arith) g)
    ]
  ]
]

-- ---- the test that code makes

-- whether s stands before t, for sets of numbers below n: the counts are compared, then the lowest difference is looked up
unfoldable pub earlier : ℕ → ℕ → ℕ → Bool
earlier n s t =
    cond (ltb (ones t) (ones s)) true
    (cond (ltb (ones s) (ones t)) false
    (cond (ltb (lowest_difference n s t) n) (member s (lowest_difference n s t)) false))

-- what passes the test stands before
pub earlier-precedes : (n s t : ℕ) → earlier n s t ≡ true → Precedes s t
unfolding earlier
earlier-precedes n s t e = elim (dec_lt (ones t) (ones s)) [
  | yes h ↦ more-members h
  | no h ↦ elim (dec_lt (ones s) (ones t)) [
    | yes k ↦ absurd (true≢false (sym (rw (le-ltb (ones t) (ones s) (omega arith), lt-ltb (ones s) (ones t) k) at e)))
    | no k ↦ elim (dec_lt (lowest_difference n s t) n) [
      | yes l ↦ as_many (omega arith) (difference-held n s t l
          (rw (le-ltb (ones t) (ones s) (omega arith), le-ltb (ones s) (ones t) (omega arith), lt-ltb _ n l) at e))
      | no l ↦ absurd (true≢false (sym (rw (
        le-ltb (ones t) (ones s) (omega arith),
        le-ltb (ones s) (ones t) (omega arith),
        le-ltb (lowest_difference n s t) n (omega arith),
      ) at e)))
    ]
  ]
]

-- what stands before passes the test
pub precedes-earlier : (n s t : ℕ) → s < 2 ^ n → Precedes s t → earlier n s t ≡ true
unfolding earlier
precedes-earlier n s t h (more-members k) = rw (lt-ltb (ones t) (ones s) k)
precedes-earlier n s t h (as_many e k) =
    rw (
      le-ltb (ones t) (ones s) (omega arith),
      le-ltb (ones s) (ones t) (omega arith),
      lowest-is-difference n s t h k,
      lt-ltb k.lowest n (member_below n s k.lowest h k.held),
    )
    k.held

-- the test computes the order of sets of numbers below n
pub earlier-decides : (n : ℕ) → Decides Precedes (λ s. s < 2 ^ n) (earlier n)
earlier-decides n = record {
  passes = λ s t h k e. earlier-precedes n s t e;
  fails = λ s t h k e p. true≢false (sym (precedes-earlier n s t h p) ∙ e);
}

-- only one list of given sets is in list order
pub one_list : {l m : List ℕ} → Sorted Precedes l → Sorted Precedes m → ((s : ℕ) → Mem s l → Mem s m) → ((s : ℕ) → Mem s m → Mem s l) → l ≡ m
one_list = unique Precedes precedes-strict

-- different sets of numbers below n are brought into list order by insertion
pub sort-list-order : (n : ℕ) (l : List ℕ) → ((s : ℕ) → Mem s l → s < 2 ^ n) → Nodup l → Sorted Precedes (sort (earlier n) l)
sort-list-order n =
    sort_sorted Precedes (λ s. s < 2 ^ n) (earlier n) (earlier-decides n) precedes-strict (λ s t h k different. precedes-total s t different)

-- ---- the comparison of the ascending member lists

-- raising all numbers by one keeps the lexicographic order
raised-lexicographic : {l m : List ℕ} → Lexᴰ ◌<◌ l m → Lexᴰ ◌<◌ (map suc l) (map suc m)
raised-lexicographic Lexᴰ.nil = Lexᴰ.nil
raised-lexicographic (Lexᴰ.rel h) = Lexᴰ.rel (suc-le-suc h)
raised-lexicographic (Lexᴰ.cons e d) = Lexᴰ.cons (ap suc e) (raised-lexicographic d)

-- a list of larger numbers comes after a list that begins with 0
zero-first : (l m : List ℕ) → 0 < length m → Lexᴰ ◌<◌ (0 ∷ map suc l) (map suc m)
zero-first l [] h = absurd (omega arith)
zero-first l (y ∷ m) h = let less : 0 < suc y = omega arith in Lexᴰ.rel less

-- the same lowest member, or none, in front changes nothing
same-front : (b : Bool) {l m : List ℕ} → Lexᴰ ◌<◌ l m → Lexᴰ ◌<◌ (cond b (0 ∷ []) [] ++ map suc l) (cond b (0 ∷ []) [] ++ map suc m)
same-front true d = Lexᴰ.cons refl (raised-lexicographic d)
same-front false d = raised-lexicographic d

-- a set with no more members than another that holds the lowest difference has the lexicographically smaller list
lower-first : (n s t i : ℕ) → i < n → ones_in n s ≤ ones_in n t → member s i ≡ true → member t i ≡ false → ((j : ℕ) → j < i → member s j ≡ member t j)
    → Lexᴰ ◌<◌ (members n s) (members n t)
lower-first zero s t i h c held not-held same = absurd (omega arith)
lower-first (suc n) s t zero h c held not-held same =
    let few : ones_in (suc n) s ≡ 1 + ones_in n (s / 2) = ones_in-lowest n s ∙ rw held in
    let many : ones_in (suc n) t ≡ 0 + ones_in n (t / 2) = ones_in-lowest n t ∙ rw not-held in
    rw (members-lowest n s, members-lowest n t, held, not-held)
    (zero-first (members n (s / 2)) (members n (t / 2)) (omega (arith, members-length n (t / 2))))
lower-first (suc n) s t (suc i) h c held not-held same =
    let few : ones_in (suc n) s ≡ cond (member t 0) 1 0 + ones_in n (s / 2) = ones_in-lowest n s ∙ rw (same 0 (omega arith)) in
    let many = ones_in-lowest n t in
    rw (members-lowest n s, members-lowest n t, same 0 (omega arith))
    (same-front (member t 0)
    (lower-first n (s / 2) (t / 2) i (omega arith) (omega arith)
    (sym (member-suc s i) ∙ held)
    (sym (member-suc t i) ∙ not-held)
    (λ j k. sym (member-suc s j) ∙ same (suc j) (suc-le-suc k) ∙ member-suc t j)))

-- of two lists only one is less
lexicographic-asymmetric : (l m : List ℕ) → Lexᴰ ◌<◌ l m → Lexᴰ ◌<◌ m l → ⊥
lexicographic-asymmetric [] m d e = Lexᴰ.not-nil e
lexicographic-asymmetric (x ∷ l) [] d e = Lexᴰ.not-nil d
lexicographic-asymmetric (x ∷ l) (y ∷ m) d e = elim (Lexᴰ.cases_cons-cons d) [
  | inl h ↦ elim (Lexᴰ.cases_cons-cons e) [ inl k ↦ omega arith | inr k ↦ let q = k.0 in omega arith ]
  | inr h ↦ elim (Lexᴰ.cases_cons-cons e) [ inl k ↦ let q = h.0 in omega arith | inr k ↦ lexicographic-asymmetric l m h.1 k.1 ]
]

-- of two sets with equally many members, the one that holds the lowest difference has the smaller list
holds-lowest-smaller : (n s t : ℕ) → s < 2 ^ n → t < 2 ^ n → ones s ≡ ones t → HoldsLowest s t → Lexᴰ ◌<◌ (members n s) (members n t)
holds-lowest-smaller n s t h k e g =
    lower-first n s t g.lowest (member_below n s g.lowest h g.held) (omega (arith, ones_below n s h, ones_below n t k))
    g.held
    g.not-held
    g.same-below

-- of two sets with equally many members, the one with the smaller list holds the lowest difference
smaller-holds-lowest : (n s t : ℕ) → s < 2 ^ n → t < 2 ^ n → ones s ≡ ones t → Lexᴰ ◌<◌ (members n s) (members n t) → HoldsLowest s t
smaller-holds-lowest n s t h k e d = elim (ℕ_discrete s t) [
  | yes q ↦ absurd (Lexᴰ.irrefl lt_irrefl (members n t) (rw q at d))
  | no q ↦ elim (holds-lowest-total s t q) [
    | inl g ↦ g
    | inr g ↦ absurd (lexicographic-asymmetric (members n s) (members n t) d (holds-lowest-smaller n t s k h (sym e) g))
  ]
]

-- the Rust's comparison of two subgroups, which are sorted vectors there: the longer one first, then the lexicographically smaller one
abbrev pub LongerOrSmaller : List ℕ → List ℕ → Type 0
LongerOrSmaller l m = (length m < length l) ⊎ ((length l ≡ length m) × Lexᴰ ◌<◌ l m)

-- the list order is the Rust's comparison of the ascending lists of members
pub precedes-compare : (n s t : ℕ) → s < 2 ^ n → t < 2 ^ n → Precedes s t ↔ LongerOrSmaller (members n s) (members n t)
precedes-compare n s t h k = (onto-lists, from-lists)
  where
    onto-lists : Precedes s t → LongerOrSmaller (members n s) (members n t)
    onto-lists (more-members g) = inl (omega (arith, ones-members n s h, ones-members n t k))
    onto-lists (as_many e g) = inr (omega (arith, ones-members n s h, ones-members n t k), holds-lowest-smaller n s t h k e g)

    from-lists : LongerOrSmaller (members n s) (members n t) → Precedes s t
    from-lists (inl g) = more-members (omega (arith, ones-members n s h, ones-members n t k))
    from-lists (inr g) =
        let e : ones s ≡ ones t = ones-members n s h ∙ g.0 ∙ sym (ones-members n t k) in
        as_many e (smaller-holds-lowest n s t h k e g.1)
