-- A table of hints for the search of a sign in a list: where a sign's spot is 0, no sign of the list has that spot; and a sign of the list has its place
-- where it stands, since the list has each once.
use Rattle.std.specs.Prelude.{◌≡◌, refl, Bool, true, false, cond, List, [], ◌∷◌, ◌++◌, ℕ, zero, suc, ◌%◌, ◌<◌, eqb, length, get_or, set}
use Rattle.std.proofs.Common.{sym, ◌∙◌, ap, arith, length-append, get_or-set_same, get_or-set_other, eq-eqb, ne_eqb}
use Rattle.std.proofs.Math.Decide.{dec_lt, ℕ_discrete}
use Rattle.std.proofs.Math.ListN.{get_or-append}
use Rattle.std.proofs.lemmas.List.{get_or_at}
use Rattle.laws.specs.Growth.{place}

pub record Hinted (signs hints : List ℕ) : Type 0 where
  pub once : (i : ℕ) → i < length signs → place eqb (get_or signs i 0) signs ≡ i
  pub marked : (i : ℕ) → i < length signs → 0 < get_or hints (get_or signs i 0 % 151) 0

-- ---- places
-- What stands nowhere in a list has its length as place.
place-absent : (x : ℕ) (l : List ℕ) → ((i : ℕ) → i < length l → get_or l i 0 ≡ x → ⊥) → place eqb x l ≡ length l
unfolding place
place-absent x [] h = refl
place-absent x (y ∷ l) h = rw (ne_eqb x y (λ e. h 0 (omega arith) (sym e)), place-absent x l (λ i k. h (suc i) (omega arith)))

-- What stands in a list keeps its place when the list grows;
place-front : (x : ℕ) (l r : List ℕ) → place eqb x l < length l → place eqb x (l ++ r) ≡ place eqb x l
unfolding place
place-front x [] r h = absurd (omega arith)
place-front x (y ∷ l) r h = by-test (eqb x y) h (place-front x l r)
  where
    by-test : (b : Bool) → cond b zero (suc (place eqb x l)) < suc (length l) → (place eqb x l < length l → place eqb x (l ++ r) ≡ place eqb x l)
        → cond b zero (suc (place eqb x (l ++ r))) ≡ cond b zero (suc (place eqb x l))
    by-test true k rest = refl
    by-test false k rest = ap suc (rest (omega arith))

-- what does not, and is put behind it, has the last.
place-behind : (x : ℕ) (l : List ℕ) → place eqb x l ≡ length l → place eqb x (l ++ x ∷ []) ≡ length l
unfolding place
place-behind x [] h = rw (eq-eqb x x refl)
place-behind x (y ∷ l) h = by-test (eqb x y) h (place-behind x l)
  where
    by-test : (b : Bool) → cond b zero (suc (place eqb x l)) ≡ suc (length l) → (place eqb x l ≡ length l → place eqb x (l ++ x ∷ []) ≡ length l)
        → cond b zero (suc (place eqb x (l ++ x ∷ []))) ≡ suc (length l)
    by-test true k rest = absurd (omega arith)
    by-test false k rest = ap suc (rest (omega arith))

-- ---- hints
module _ (signs hints : List ℕ) (H : Hinted signs hints) (x : ℕ) where
  -- No hint: the sign is not listed.
  pub hint-none : get_or hints (x % 151) 0 ≡ 0 → place eqb x signs ≡ length signs
  hint-none e = place-absent x signs (λ i h p. let m : 0 < get_or hints (x % 151) 0 = rw (← p) (H.marked i h) in omega arith)

  -- A hint that holds.
  pub hint_holds : (k : ℕ) → k < length signs → get_or signs k 0 ≡ x → place eqb x signs ≡ k
  hint_holds k h e = rw (← e) (H.once k h)

  -- One more sign, and its hint.
  pub hint-more : (v : ℕ) → length hints ≡ 151 → place eqb x signs ≡ length signs → 0 < v → Hinted (signs ++ x ∷ []) (set hints (x % 151) v)
  hint-more v long new h = record { once = once; marked = marked }
    where
      last : (i : ℕ) → i < length (signs ++ x ∷ []) → ¬ (i < length signs) → i ≡ length signs
      last i k n = omega (arith, length-append signs (x ∷ []))

      once : (i : ℕ) → i < length (signs ++ x ∷ []) → place eqb (get_or (signs ++ x ∷ []) i 0) (signs ++ x ∷ []) ≡ i
      once i k = elim (dec_lt i (length signs)) [
        | yes u ↦
            let there = H.once i u in
            rw (get_or-append signs (x ∷ []) 0 i u) (place-front (get_or signs i 0) signs (x ∷ []) (omega arith) ∙ there)
        | no n ↦ rw (get_or_at signs x [] 0 i (sym (last i k n))) (place-behind x signs new ∙ sym (last i k n))
      ]

      spot : (s : ℕ) → (s % 151 ≡ x % 151 → ⊥) → 0 < get_or hints (s % 151) 0 → 0 < get_or (set hints (x % 151) v) (s % 151) 0
      spot s apart m = rw (get_or-set_other hints (x % 151) (s % 151) v 0 apart) m

      here : (s : ℕ) → s % 151 ≡ x % 151 → 0 < get_or (set hints (x % 151) v) (s % 151) 0
      here s e = rw (e, get_or-set_same hints (x % 151) v 0 (omega arith)) h

      marked : (i : ℕ) → i < length (signs ++ x ∷ []) → 0 < get_or (set hints (x % 151) v) (get_or (signs ++ x ∷ []) i 0 % 151) 0
      marked i k = elim (dec_lt i (length signs)) [
        | yes u ↦ rw (get_or-append signs (x ∷ []) 0 i u) (elim (ℕ_discrete (get_or signs i 0 % 151) (x % 151)) [
          | yes e ↦ here (get_or signs i 0) e
          | no n ↦ spot (get_or signs i 0) n (H.marked i u)
        ])
        | no n ↦ rw (get_or_at signs x [] 0 i (sym (last i k n))) (here x refl)
      ]

-- The table for a list of one.
pub hint-start : (x : ℕ) → (hints : List ℕ) → length hints ≡ 151 → Hinted (x ∷ []) (set hints (x % 151) 1)
unfolding place
hint-start x hints long = hint-more [] hints (record { once = λ i h. absurd (omega arith); marked = λ i h. absurd (omega arith) }) x 1 long refl (omega arith)
