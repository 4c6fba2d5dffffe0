-- What the entries of two lists that ascend by code are: each rotation that one list has alone, or that both have with other translations, once, in code order.
-- The idea: what the heads decide holds of both lists, since all that follows has higher codes.
use Rattle.std.specs.Prelude.{◌≡◌, ◌⊎◌, ◌↔◌, Bool, cond, ℕ, ◌+◌, ◌<◌, ◌≤◌}
use Rattle.std.proofs.Math.Path.{refl, ap, subst}
use Rattle.std.proofs.Common.{sym}
use Rattle.std.proofs.Math.Logic.{inl, inr}
use Rattle.std.proofs.Math.Bool.{true, false}
use mathlib.Core.List.Memᴰ.{append_cases}
use mathlib.Core.List.Memᴰ.{append_left as mem-left}
use mathlib.Core.List.Memᴰ.{append_right as mem-right}
use mathlib.Core.List.Memᴰ.{cases_cons as cases}
use mathlib.Core.List.Memᴰ.{head as here}
use mathlib.Core.List.Memᴰ.{map as mem-map}
use mathlib.Core.List.Memᴰ.{not-nil}
use mathlib.Core.List.Memᴰ.{of_map as mem-of-map}
use mathlib.Core.List.Memᴰ.{tail as there}
use mathlib.Core.List.{List, [], ◌∷◌, ◌++◌, Memᴰ as Mem}
use native.Mathlib.Omega.{arith}
use Rattle.std.proofs.Math.Dec.{ltb}
use borrow.Author.Tests.{ltb-true, ltb-false}
use Rattle.std.proofs.Math.ListN.{length, length-append, length-map}
use Rattle.laws.specs.Sorted.{Sorted, sorted-cons, head_first, tail-sorted, sorted-map, key-strict, unique}
use Rattle.operation.specs.declared.Translation.{Translation}
use Rattle.group_record.specs.declared.items.Item.{Item}
use Rattle.record_report.specs.Report.{Entry, first_only, second_only, in_both, of_pair, against, differences}

-- Items and entries ascend by code.
abbrev pub Lower : Item → Item → Type 0
Lower i j = i.code < j.code

abbrev pub Ascending : List Item → Type 0
Ascending l = Sorted Lower l

abbrev pub EntryLower : Entry → Entry → Type 0
EntryLower d e = d.code < e.code

-- The head of such a list has the lowest code.
at_least : {i : Item} {f : List Item} → Ascending (i ∷ f) → {k : Item} → Mem k (i ∷ f) → i.code ≤ k.code
at_least {i} F {k} m = elim (cases m) [ inl q ↦ rw q (omega arith) | inr n ↦ let h = head_first Lower F k n in omega arith ]

module _ (same : Translation → Translation → Bool) where
  -- What an entry says of two lists.
  pub data Found (f s : List Item) : Entry → Type 0 where
    first-only : (i : Item) → Mem i f → ((j : Item) → Mem j s → ¬ (i.code ≡ j.code)) → Found f s (first_only i)
    second-only : (j : Item) → Mem j s → ((i : Item) → Mem i f → ¬ (i.code ≡ j.code)) → Found f s (second_only j)
    in-both : (i j : Item) → Mem i f → Mem j s → i.code ≡ j.code → same i.translation j.translation ≡ false → Found f s (in_both i j)

  -- It has the code of an item of one of them.
  found-code : {f s : List Item} {e : Entry} → Found f s e → ((i : Item) × Mem i f × (i.code ≡ e.code)) ⊎ ((j : Item) × Mem j s × (j.code ≡ e.code))
  found-code (first-only i m apart) = inl (i, m, refl)
  found-code (second-only j m apart) = inr (j, m, refl)
  found-code (in-both i j m n q d) = inl (i, m, refl)

  -- It holds of longer lists too, if what they have more has other codes.
  widened : {f s f' s' : List Item} {e : Entry} → ((i : Item) → Mem i f → Mem i f') → ((j : Item) → Mem j s → Mem j s')
      → ((i j : Item) → Mem i f → Mem j s' → i.code ≡ j.code → Mem j s) → ((i j : Item) → Mem i f' → Mem j s → i.code ≡ j.code → Mem i f)
      → Found f s e → Found f' s' e
  widened into onto left right (first-only i m apart) = first-only i (into i m) (λ j n q. apart j (left i j m n q) q)
  widened into onto left right (second-only j m apart) = second-only j (onto j m) (λ i n q. apart i (right i j n m q) q)
  widened into onto left right (in-both i j m n q d) = in-both i j (into i m) (onto j n) q d

  -- The heads: the first's is lower,
  module _ (i j : Item) (f s : List Item) (F : Ascending (i ∷ f)) (S : Ascending (j ∷ s)) where
    first-wide : i.code < j.code → {e : Entry} → Found f (j ∷ s) e → Found (i ∷ f) (j ∷ s) e
    first-wide h = widened (λ k m. there m) (λ k m. m) (λ k l m n q. n) (λ k l m n q. elim (cases m) [
      | inl p ↦ let high = at_least S n in let same : k.code ≡ i.code = ap (λ (x : Item). x.code) p in absurd (omega arith)
      | inr o ↦ o
    ])

    -- or the second's,
    second-wide : j.code < i.code → {e : Entry} → Found (i ∷ f) s e → Found (i ∷ f) (j ∷ s) e
    second-wide h = widened (λ k m. m) (λ k m. there m) (λ k l m n q. elim (cases n) [
      | inl p ↦ let high = at_least F m in let same : l.code ≡ j.code = ap (λ (x : Item). x.code) p in absurd (omega arith)
      | inr o ↦ o
    ]) (λ k l m n q. m)

    -- or both are one rotation's.
    both-wide : i.code ≡ j.code → {e : Entry} → Found f s e → Found (i ∷ f) (j ∷ s) e
    both-wide h = widened (λ k m. there m) (λ k m. there m) (λ k l m n q. elim (cases n) [
      | inl p ↦ let high = head_first Lower F k m in let same : l.code ≡ j.code = ap (λ (x : Item). x.code) p in absurd (omega arith)
      | inr o ↦ o
    ]) (λ k l m n q. elim (cases m) [
      | inl p ↦ let high = head_first Lower S l n in let same : k.code ≡ i.code = ap (λ (x : Item). x.code) p in absurd (omega arith)
      | inr o ↦ o
    ])

  -- ---- what is listed is found
  listed-pair : (i j : Item) (e : Entry) (b : Bool) → same i.translation j.translation ≡ b → Mem e (cond b [] (in_both i j ∷ [])) → (e ≡ in_both i j)
      × (same i.translation j.translation ≡ false)
  listed-pair i j e true q m = absurd (not-nil m)
  listed-pair i j e false q m = elim (cases m) [ inl p ↦ (p, q) | inr n ↦ absurd (not-nil n) ]

  module _ (i : Item) (f : List Item) (F : Ascending (i ∷ f))
      (rest : (s : List Item) → Ascending s → (e : Entry) → Mem e (differences same f s) → Found f s e) where
    against-found : (s : List Item) → Ascending s → (e : Entry) → Mem e (against same i (differences same f) s) → Found (i ∷ f) s e
    unfolding against of_pair
    against-found [] S e m = elim (cases m) [
      | inl q ↦ subst (Found (i ∷ f) []) (sym q) (first-only i (here refl) (λ j n. absurd (not-nil n)))
      | inr n ↦ widened (λ k o. there o) (λ k o. o) (λ k l o n q. n) (λ k l o n q. absurd (not-nil n)) (rest [] S e n)
    ]
    against-found (j ∷ s) S e m = by (λ d n. against-found s (tail-sorted Lower S) d n) (ltb i.code j.code) (ltb j.code i.code) refl refl m
      where
        by : ((d : Entry) → Mem d (against same i (differences same f) s) → Found (i ∷ f) s d) → (t u : Bool) → ltb i.code j.code ≡ t
            → ltb j.code i.code ≡ u
            → Mem e (cond t (first_only i ∷ differences same f (j ∷ s))
            (cond u (second_only j ∷ against same i (differences same f) s) (of_pair same i j ++ differences same f s)))
            → Found (i ∷ f) (j ∷ s) e
        by below true u p q m =
            let lower = ltb-true i.code j.code p in
            elim (cases m) [
              | inl r ↦ subst (Found (i ∷ f) (j ∷ s)) (sym r) (first-only i (here refl) (λ k n z. let high = at_least S n in absurd (omega arith)))
              | inr n ↦ first-wide i j f s F S lower (rest (j ∷ s) S e n)
            ]
        by below false true p q m =
            let lower = ltb-true j.code i.code q in
            elim (cases m) [
              | inl r ↦ subst (Found (i ∷ f) (j ∷ s)) (sym r) (second-only j (here refl) (λ k n z. let high = at_least F n in absurd (omega arith)))
              | inr n ↦ second-wide i j f s F S lower (below e n)
            ]
        by below false false p q m =
            let low = ltb-false i.code j.code p in
            let high = ltb-false j.code i.code q in
            let one : i.code ≡ j.code = omega arith in
            elim (append_cases (of_pair same i j) m) [
              | inl n ↦
                  let (r, d) = listed-pair i j e (same i.translation j.translation) refl n in
                  subst (Found (i ∷ f) (j ∷ s)) (sym r) (in-both i j (here refl) (here refl) one d)
              | inr n ↦ both-wide i j f s F S one (rest s (tail-sorted Lower S) e n)
            ]

  pub listed_found : (f s : List Item) → Ascending f → Ascending s → (e : Entry) → Mem e (differences same f s) → Found f s e
  unfolding differences
  listed_found [] s F S e m = let (j, n, q) = mem-of-map second_only s m in subst (Found [] s) q (second-only j n (λ i o. absurd (not-nil o)))
  listed_found (i ∷ f) s F S e m = against-found i f F (λ t T d n. listed_found f t (tail-sorted Lower F) T d n) s S e m

  -- ---- what is found is listed
  pair-listed : (i j : Item) (b : Bool) → b ≡ false → Mem (in_both i j) (cond b [] (in_both i j ∷ []))
  pair-listed i j true q = let z : ◌≡◌ {A = ℕ} 0 1 = cc in absurd (omega arith)
  pair-listed i j false q = here refl

  module _ (i : Item) (f : List Item) (F : Ascending (i ∷ f))
      (rest : (s : List Item) → Ascending s → (e : Entry) → Found f s e → Mem e (differences same f s)) where
    found-against : (s : List Item) → Ascending s → (e : Entry) → Found (i ∷ f) s e → Mem e (against same i (differences same f) s)
    unfolding against of_pair
    found-against [] S e (first-only k m apart) = elim (cases m) [ inl q ↦ here (ap first_only q) | inr n ↦ there (rest [] S _ (first-only k n apart)) ]
    found-against [] S e (second-only l n apart) = absurd (not-nil n)
    found-against [] S e (in-both k l m n q d) = absurd (not-nil n)
    found-against (j ∷ s) S e found = by (λ d n. found-against s (tail-sorted Lower S) d n) (ltb i.code j.code) (ltb j.code i.code) refl refl e
        found
      where
        by : ((d : Entry) → Found (i ∷ f) s d → Mem d (against same i (differences same f) s)) → (t u : Bool) → ltb i.code j.code ≡ t
            → ltb j.code i.code ≡ u → (e : Entry) → Found (i ∷ f) (j ∷ s) e
            → Mem e (cond t (first_only i ∷ differences same f (j ∷ s))
            (cond u (second_only j ∷ against same i (differences same f) s) (of_pair same i j ++ differences same f s)))
        by below true u p q e (first-only k m apart) = elim (cases m)
            [ inl r ↦ here (ap first_only r) | inr n ↦ there (rest (j ∷ s) S _ (first-only k n apart)) ]
        by below true u p q e (second-only l n apart) = there (rest (j ∷ s) S _ (second-only l n (λ k m. apart k (there m))))
        by below true u p q e (in-both k l m n r d) = elim (cases m) [
          | inl z ↦
              let lower = ltb-true i.code j.code p in
              let high = at_least S n in
              let one : k.code ≡ i.code = ap (λ (x : Item). x.code) z in
              absurd (omega arith)
          | inr o ↦ there (rest (j ∷ s) S _ (in-both k l o n r d))
        ]
        by below false true p q e (first-only k m apart) = there (below _ (first-only k m (λ l n. apart l (there n))))
        by below false true p q e (second-only l n apart) = elim (cases n) [ inl r ↦ here (ap second_only r) | inr o ↦ there (below _ (second-only l o apart)) ]
        by below false true p q e (in-both k l m n r d) = elim (cases n) [
          | inl z ↦
              let lower = ltb-true j.code i.code q in
              let high = at_least F m in
              let one : l.code ≡ j.code = ap (λ (x : Item). x.code) z in
              absurd (omega arith)
          | inr o ↦ there (below _ (in-both k l m o r d))
        ]
        by below false false p q e (first-only k m apart) = elim (cases m) [
          | inl z ↦
              let low = ltb-false i.code j.code p in
              let high = ltb-false j.code i.code q in
              let one : k.code ≡ i.code = ap (λ (x : Item). x.code) z in
              absurd (apart j (here refl) (omega arith))
          | inr o ↦ mem-right (of_pair same i j) (rest s (tail-sorted Lower S) _ (first-only k o (λ l n. apart l (there n))))
        ]
        by below false false p q e (second-only l n apart) = elim (cases n) [
          | inl z ↦
              let low = ltb-false i.code j.code p in
              let high = ltb-false j.code i.code q in
              let one : l.code ≡ j.code = ap (λ (x : Item). x.code) z in
              absurd (apart i (here refl) (omega arith))
          | inr o ↦ mem-right (of_pair same i j) (rest s (tail-sorted Lower S) _ (second-only l o (λ k m. apart k (there m))))
        ]
        by below false false p q e (in-both k l m n r d) =
            let low = ltb-false i.code j.code p in
            let high = ltb-false j.code i.code q in
            elim (cases m) [
              | inl z ↦ elim (cases n) [
                | inl w ↦ mem-left {s = of_pair same i j} (differences same f s)
                    (rw (z, w) (pair-listed i j (same i.translation j.translation) (rw (z, w) at d)))
                | inr o ↦
                    let higher = head_first Lower S l o in
                    let one : k.code ≡ i.code = ap (λ (x : Item). x.code) z in
                    absurd (omega arith)
              ]
              | inr v ↦ elim (cases n) [
                | inl w ↦
                    let higher = head_first Lower F k v in
                    let one : l.code ≡ j.code = ap (λ (x : Item). x.code) w in
                    absurd (omega arith)
                | inr o ↦ mem-right (of_pair same i j) (rest s (tail-sorted Lower S) _ (in-both k l v o r d))
              ]
            ]

  pub found-listed : (f s : List Item) → Ascending f → Ascending s → (e : Entry) → Found f s e → Mem e (differences same f s)
  unfolding differences
  found-listed [] s F S e (first-only i m apart) = absurd (not-nil m)
  found-listed [] s F S e (second-only j m apart) = mem-map second_only m
  found-listed [] s F S e (in-both i j m n q d) = absurd (not-nil m)
  found-listed (i ∷ f) s F S e found = found-against i f F (λ t T d n. found-listed f t (tail-sorted Lower F) T d n) s S e found

  -- ---- their order
  -- An entry of lists all of whose codes are above a number is above it.
  above : (c : ℕ) {f s : List Item} {e : Entry} → ((i : Item) → Mem i f → c < i.code) → ((j : Item) → Mem j s → c < j.code) → Found f s e → c < e.code
  above c {f} {s} {e} left right found = elim (found-code found) [
    | inl (i, m, q) ↦ let h = left i m in omega arith
    | inr (j, m, q) ↦ let h = right j m in omega arith
  ]

  module _ (i : Item) (f : List Item) (F : Ascending (i ∷ f)) (rest : (s : List Item) → Ascending s → Sorted EntryLower (differences same f s)) where
    against-ascends : (s : List Item) → Ascending s → Sorted EntryLower (against same i (differences same f) s)
    unfolding against of_pair
    against-ascends [] S =
        sorted-cons (λ e m. above i.code (head_first Lower F) (λ j n. absurd (not-nil n)) (listed_found f [] (tail-sorted Lower F) S e m)) (rest [] S)
    against-ascends (j ∷ s) S = by (against-ascends s (tail-sorted Lower S)) (ltb i.code j.code) (ltb j.code i.code) refl refl
      where
        pair : (b : Bool) → i.code ≡ j.code → Sorted EntryLower (cond b [] (in_both i j ∷ []) ++ differences same f s)
        pair true q = rest s (tail-sorted Lower S)
        pair false q =
            sorted-cons (λ e m. above i.code (head_first Lower F) (λ l n. let h = head_first Lower S l n in omega arith)
            (listed_found f s (tail-sorted Lower F) (tail-sorted Lower S) e m))
            (rest s (tail-sorted Lower S))

        by : Sorted EntryLower (against same i (differences same f) s) → (t u : Bool) → ltb i.code j.code ≡ t → ltb j.code i.code ≡ u
            → Sorted EntryLower (cond t (first_only i ∷ differences same f (j ∷ s))
            (cond u (second_only j ∷ against same i (differences same f) s) (of_pair same i j ++ differences same f s)))
        by below true u p q =
            let lower = ltb-true i.code j.code p in
            sorted-cons (λ e m. above i.code (head_first Lower F) (λ l n. let h = at_least S n in omega arith)
            (listed_found f (j ∷ s) (tail-sorted Lower F) S e m)) (rest (j ∷ s) S)
        by below false true p q =
            let lower = ltb-true j.code i.code q in
            sorted-cons (λ e m. above j.code (λ k n. let h = at_least F n in omega arith) (head_first Lower S)
            (against-found i f F (λ t T d n. listed_found f t (tail-sorted Lower F) T d n) s (tail-sorted Lower S) e m)) below
        by below false false p q =
            let low = ltb-false i.code j.code p in
            let high = ltb-false j.code i.code q in
            pair (same i.translation j.translation) (omega arith)

  pub ascends : (f s : List Item) → Ascending f → Ascending s → Sorted EntryLower (differences same f s)
  unfolding differences
  ascends [] s F S = sorted-map Lower EntryLower second_only (λ i j h. h) S
  ascends (i ∷ f) s F S = against-ascends i f F (λ t T. ascends f t (tail-sorted Lower F) T) s S

  -- Only one list holds what is found, once each, in the order of codes.
  pub only-list : (f s : List Item) → Ascending f → Ascending s → (l : List Entry) → Sorted EntryLower l → ((e : Entry) → Mem e l ↔ Found f s e)
      → l ≡ differences same f s
  only-list f s F S l L exact =
      unique EntryLower (key-strict (λ (e : Entry). e.code)) L (ascends f s F S) (λ e m. found-listed f s F S e ((exact e).0 m))
      (λ e m. (exact e).1 (listed_found f s F S e m))

  -- ---- how many there are
  pair-most : (i j : Item) → length (of_pair same i j) ≤ 1
  unfolding of_pair
  pair-most i j = by (same i.translation j.translation)
    where
      by : (b : Bool) → length (cond b [] (in_both i j ∷ [])) ≤ 1
      by true = omega arith
      by false = omega arith

  against-most : (i : Item) (f : List Item) → ((s : List Item) → length (differences same f s) ≤ length f + length s) → (s : List Item)
      → length (against same i (differences same f) s) ≤ 1 + length f + length s
  unfolding against
  against-most i f rest [] = omega (arith, rest [])
  against-most i f rest (j ∷ s) = by (ltb i.code j.code) (ltb j.code i.code) (against-most i f rest s)
    where
      by : (t u : Bool) → length (against same i (differences same f) s) ≤ 1 + length f + length s
          → length (cond t (first_only i ∷ differences same f (j ∷ s))
          (cond u (second_only j ∷ against same i (differences same f) s) (of_pair same i j ++ differences same f s))) ≤ 1 + length f + length (j ∷ s)
      by true u h = omega (arith, rest (j ∷ s))
      by false true h = omega arith
      by false false h = omega (arith, length-append (of_pair same i j) (differences same f s), pair-most i j, rest s)

  pub differences-most : (f s : List Item) → length (differences same f s) ≤ length f + length s
  unfolding differences
  differences-most [] s = omega (arith, length-map s second_only)
  differences-most (i ∷ f) s = let h = against-most i f (λ t. differences-most f t) s in omega arith
