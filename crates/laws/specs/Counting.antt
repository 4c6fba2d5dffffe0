-- Counting: the numbers below n are as many as, for each value that a function has on them, the numbers that have it; and what stands in lists
-- that share nothing is as much as their lengths together.
use Rattle.std.specs.Prelude.{◌≡◌, Bool, true, false, cond, ℕ, zero, suc, ◌+◌, ◌*◌, ◌^◌, ◌<◌, length}
use Rattle.std.proofs.Math.Path.{refl}
use Rattle.std.proofs.Common.{sym, ap, ap₂, ◌∙◌, suc-mul, eq-eqb, ne_eqb}
use mathlib.Core.List.Memᴰ.{append_cases}
use mathlib.Core.List.Memᴰ.{append_left as mem-left}
use mathlib.Core.List.Memᴰ.{append_right as mem-right}
use mathlib.Core.List.Memᴰ.{cases_cons as cases}
use mathlib.Core.List.Memᴰ.{head as here}
use mathlib.Core.List.Memᴰ.{not-nil}
use mathlib.Core.List.Memᴰ.{tail as there}
use mathlib.Core.List.{List, [], ◌∷◌, Memᴰ as Mem, ◌++◌}
use Rattle.std.proofs.Math.Logic.{inl, inr}
use Rattle.std.proofs.Math.Decide.{ℕ_discrete}
use native.Mathlib.Omega.{arith}
use Rattle.std.specs.Int.Count.{ones}
use Rattle.std.proofs.Math.Dec.{eqb}
use Rattle.std.proofs.Math.ListN.{length-append}
use Rattle.laws.specs.Distinct.{Distinct, nil, cons, has→Mem, Mem→has, eqb-decides, eqb-equivalence, distinct_append, same_length}
use Rattle.laws.specs.Sets.{member-above, set_of, set_of-below, ones-add, ones_below, ones_in-empty}

-- the sum of a list's weights
unfoldable pub total : (ℕ → ℕ) → List ℕ → ℕ
total w [] = 0
total w (y ∷ l) = w y + total w l

-- the numbers below n of value y
unfoldable pub fibre : ℕ → (ℕ → ℕ) → ℕ → ℕ
fibre n f y = set_of n (λ i. eqb (f i) y)

-- one more number counts one if it has the value
fibre-suc : (n : ℕ) (f : ℕ → ℕ) (y : ℕ) → ones (fibre (suc n) f y) ≡ ones (fibre n f y) + cond (eqb (f n) y) 1 0
unfolding fibre set_of
fibre-suc n f y = by (eqb (f n) y)
  where
    s : ℕ
    s = set_of n (λ i. eqb (f i) y)

    small : s < 2 ^ suc n
    small = let h = set_of-below n (λ i. eqb (f i) y) in omega arith

    by : (b : Bool) → ones (set_of n (λ i. eqb (f i) y) + cond b (2 ^ n) 0) ≡ ones (set_of n (λ i. eqb (f i) y)) + cond b 1 0
    by true = ones-add (suc n) s n (omega arith) small (member-above n s n (set_of-below n (λ i. eqb (f i) y)) (omega arith)) ∙ omega arith
    by false = let same : s + 0 ≡ s = omega arith in ap ones same ∙ omega arith

-- weights that are sums
total-add : (v w u : ℕ → ℕ) (l : List ℕ) → ((y : ℕ) → u y ≡ v y + w y) → total u l ≡ total v l + total w l
unfolding total
total-add v w u [] f = refl
total-add v w u (y ∷ l) f = let h = total-add v w u l f in let e = f y in omega arith

-- what is not in the list weighs nothing
total-none : (x : ℕ) (l : List ℕ) → (Mem x l → ⊥) → total (λ y. cond (eqb x y) 1 0) l ≡ 0
unfolding total
total-none x [] f = refl
total-none x (y ∷ l) f =
    let h = total-none x l (λ m. f (there m)) in
    let e : ◌≡◌ {A = ℕ} (cond (eqb x y) 1 0) 0 = ap (λ (b : Bool). cond b 1 0) (ne_eqb x y (λ q. f (here q))) in
    omega arith

-- what is in a list without repeats weighs one
total-one : (x : ℕ) {l : List ℕ} → Distinct eqb l → Mem x l → total (λ y. cond (eqb x y) 1 0) l ≡ 1
unfolding total
total-one x nil m = absurd (not-nil m)
total-one x (cons {x = y} {l = l} new D) m = elim (ℕ_discrete x y) [
  | yes q ↦
      let e : ◌≡◌ {A = ℕ} (cond (eqb x y) 1 0) 1 = ap (λ (b : Bool). cond b 1 0) (eq-eqb x y q) in
      let h = total-none x l (λ k. new (rw (← q) (Mem→has eqb eqb-equivalence k))) in
      omega arith
  | no q ↦
      let e : ◌≡◌ {A = ℕ} (cond (eqb x y) 1 0) 0 = ap (λ (b : Bool). cond b 1 0) (ne_eqb x y q) in
      let h = total-one x D (elim (cases m) [ inl p ↦ absurd (q p) | inr k ↦ k ]) in
      omega arith
]

-- no number has any value
fibres-none : (f : ℕ → ℕ) (l : List ℕ) → total (λ y. ones (fibre 0 f y)) l ≡ 0
unfolding total fibre set_of
fibres-none f [] = refl
fibres-none f (y ∷ l) = let e = fibres-none f l in let z = ones_below 0 0 (omega arith) in let o = ones_in-empty 0 in omega arith

-- weights that are equal on the members
pub total-same : (v w : ℕ → ℕ) (l : List ℕ) → ((y : ℕ) → Mem y l → v y ≡ w y) → total v l ≡ total w l
unfolding total
total-same v w [] same = refl
total-same v w (y ∷ l) same = ap₂ ◌+◌ (same y (here refl)) (total-same v w l (λ z m. same z (there m)))

-- equal weights
total-equal : (w : ℕ → ℕ) (k : ℕ) (l : List ℕ) → ((y : ℕ) → Mem y l → w y ≡ k) → total w l ≡ length l * k
unfolding total
total-equal w k [] g = omega arith
total-equal w k (y ∷ l) g = let e = total-equal w k l (λ z m. g z (there m)) in let p = g y (here refl) in omega (arith, suc-mul (length l) k)

module _ (f : ℕ → ℕ) {l : List ℕ} (D : Distinct eqb l) where
  -- the numbers below n, value by value
  pub fibres-total : (n : ℕ) → ((i : ℕ) → i < n → Mem (f i) l) → total (λ y. ones (fibre n f y)) l ≡ n
  fibres-total zero h = fibres-none f l
  fibres-total (suc n) h =
      let before = fibres-total n (λ i k. h i (omega arith)) in
      let one = total-one (f n) D (h n (omega arith)) in
      let sum = total-add (λ y. ones (fibre n f y)) (λ y. cond (eqb (f n) y) 1 0) (λ y. ones (fibre (suc n) f y)) l (λ y. fibre-suc n f y) in
      omega arith

  -- values that are had equally often
  pub fibres-equal : (n k : ℕ) → ((i : ℕ) → i < n → Mem (f i) l) → ((y : ℕ) → Mem y l → ones (fibre n f y) ≡ k) → length l * k ≡ n
  fibres-equal n k h same = sym (total-equal (λ y. ones (fibre n f y)) k l same) ∙ fibres-total n h

-- ---- lists that share nothing

-- the members of the lists of all members, one list after the other
unfoldable pub gathered : (ℕ → List ℕ) → List ℕ → List ℕ
gathered f [] = []
gathered f (x ∷ l) = f x ++ gathered f l

module _ (f : ℕ → List ℕ) where
  -- the lengths add up
  gathered-length : (l : List ℕ) → length (gathered f l) ≡ total (λ x. length (f x)) l
  unfolding gathered total
  gathered-length [] = refl
  gathered-length (x ∷ l) = let h = gathered-length l in length-append (f x) (gathered f l) ∙ omega arith

  -- what is gathered stands in one of the lists
  gathered-source : (l : List ℕ) {z : ℕ} → Mem z (gathered f l) → (x : ℕ) × Mem x l × Mem z (f x)
  unfolding gathered
  gathered-source [] m = absurd (not-nil m)
  gathered-source (x ∷ l) m = elim (append_cases (f x) {t = gathered f l} m) [
    | inl h ↦ (x, here refl, h)
    | inr h ↦ let (y, k, j) = gathered-source l h in (y, there k, j)
  ]

  -- and what stands in one of them is gathered
  gathered-holds : (l : List ℕ) {x z : ℕ} → Mem x l → Mem z (f x) → Mem z (gathered f l)
  unfolding gathered
  gathered-holds [] m j = absurd (not-nil m)
  gathered-holds (y ∷ l) {z = z} m j = elim (cases m) [
    | inl q ↦ mem-left (gathered f l) (rw q at j)
    | inr k ↦ mem-right (f y) (gathered-holds l k j)
  ]

  -- lists without repeats that share nothing are gathered without repeats
  gathered-distinct : {l : List ℕ} → Distinct eqb l → ((x : ℕ) → Mem x l → Distinct eqb (f x))
      → ((x y z : ℕ) → Mem x l → Mem y l → Mem z (f x) → Mem z (f y) → x ≡ y) → Distinct eqb (gathered f l)
  unfolding gathered
  gathered-distinct nil each apart = nil
  gathered-distinct (cons {x} {l} new D) each apart =
      distinct_append eqb (each x (here refl)) (gathered-distinct D (λ y m. each y (there m)) (λ y z w m k. apart y z w (there m) (there k)))
      (λ z m t.
      let (y, k, j) = gathered-source l (has→Mem eqb eqb-decides t) in
      new (Mem→has eqb eqb-equivalence (rw (apart x y z (here refl) (there k) m j) k)))

  -- a list that is divided into such lists is as long as they are together
  pub divided-length : {l all : List ℕ} → Distinct eqb l → ((x : ℕ) → Mem x l → Distinct eqb (f x))
      → ((x y z : ℕ) → Mem x l → Mem y l → Mem z (f x) → Mem z (f y) → x ≡ y)
      → Distinct eqb all → ((x z : ℕ) → Mem x l → Mem z (f x) → Mem z all) → ((z : ℕ) → Mem z all → (x : ℕ) × Mem x l × Mem z (f x))
      → total (λ x. length (f x)) l ≡ length all
  divided-length {l} {all} D each apart whole inside covers = sym (gathered-length l)
      ∙ same_length eqb eqb-equivalence (gathered-distinct D each apart) whole
      (λ z m. let (x, k, j) = gathered-source l m in Mem→has eqb eqb-equivalence (inside x z k j))
      (λ z m. let (x, k, j) = covers z m in Mem→has eqb eqb-equivalence (gathered-holds l k j))
