-- The lattices a second time, by the reflections that a letter leaves: the planes h k l of which a whole number lies between a point and the origin.
-- A: k + l even; B: h + l even; C: h + k even; I: h + k + l even; F: all even or all odd; R, obverse: −h + k + l divisible by 3;
-- H: h − k divisible by 3.
-- So no letter's points can be another's, or reverse, or any others, in the list and the code at once.
use Rattle.std.specs.Prelude.{◌≡◌, refl, ◌↔◌, Bool, true, false, ◌&&◌, ℕ, zero, suc, ◌+◌, ◌*◌, ◌%◌, ◌<◌, ◌≤◌, T, eqb}
use Rattle.std.proofs.Common.{⊎_elim, arith, eq-or-lt_of_le, eqb→eq, eq-eqb}
use mathlib.Core.List.{List, [], ◌∷◌, Memᴰ as Mem}
use Rattle.laws.specs.Matrix.{Vector}
use Rattle.laws.specs.Residue.{Triple, Reduced, reduced, reduced-lt}
use Rattle.laws.specs.Distinct.{has, has→Mem, Mem→has, equality-equivalence}
use Rattle.laws.specs.Lattice.{InLattice, same_triple, triple-decides}
use Rattle.laws.specs.Truth.{all, all-member, member-all, and_left, and_right}
use Rattle.centering.specs.Letters.{point, letters, points_of}
use Rattle.centering.specs.Lattices.{listed}
use Rattle.centering.specs.declared.Centering.{Centering}
use Rattle.centering.specs.declared.Centering.TheVariants.{P, A, B, C, I, R, F, H}

-- Three planes h k l from which all that a letter leaves are added up; 11 stands for −1.
abbrev pub planes : Centering → List Triple
planes P = point 1 0 0 ∷ point 0 1 0 ∷ point 0 0 1 ∷ []
planes A = point 1 0 0 ∷ point 0 1 1 ∷ point 0 0 2 ∷ []
planes B = point 0 1 0 ∷ point 1 0 1 ∷ point 0 0 2 ∷ []
planes C = point 0 0 1 ∷ point 1 1 0 ∷ point 0 2 0 ∷ []
planes I = point 1 1 0 ∷ point 0 1 1 ∷ point 0 0 2 ∷ []
planes R = point 1 1 0 ∷ point 0 1 11 ∷ point 0 0 3 ∷ []
planes F = point 1 1 1 ∷ point 0 2 0 ∷ point 0 0 2 ∷ []
planes H = point 1 1 0 ∷ point 0 3 0 ∷ point 0 0 1 ∷ []

-- How far h k l of those planes are from whole cells, at a point in twelfths.
abbrev pub phase : Triple → Triple → ℕ
phase g t = (g.x * t.x + g.y * t.y + g.z * t.z) % 12

in_phase : Centering → Triple → Bool
in_phase c t = all (λ g. eqb (phase g t) 0) (planes c)

-- ---- every triple below 12, tried

each_below : ℕ → (ℕ → Bool) → Bool
each_below zero test = true
each_below (suc n) test = test n && each_below n test

each_below_lem : (n : ℕ) (test : ℕ → Bool) → T (each_below n test) → (k : ℕ) → k < n → T (test k)
unfolding each_below
each_below_lem zero test t k h = absurd (omega arith)
each_below_lem (suc n) test t k h =
    let most : k ≤ n = omega arith in
    ⊎_elim
    (λ (e : k ≡ n). rw e (and_left (test n) (each_below n test) t))
    (λ (l : k < n). each_below_lem n test (and_right (test n) (each_below n test) t) k l)
    (eq-or-lt_of_le most)

same : Bool → Bool → Bool
same true b = b
same false true = false
same false false = true

same_true : (a b : Bool) → T (same a b) → a ≡ b
unfolding same
same_true true true t = refl
same_true false false t = refl
same_true false true t = elim t [ ]
same_true true false t = elim t [ ]

same_at : Centering → ℕ → ℕ → ℕ → Bool
same_at c x y z = same (has same_triple (point x y z) (points_of c)) (in_phase c (point x y z))

same_test : T (all (λ c. each_below 12 (λ x. each_below 12 (λ y. each_below 12 (λ z. same_at c x y z)))) letters)
unfolding all each_below same_at same in_phase has same_triple
same_test = tt

-- The list and the planes say the same of every triple below 12.
agree : (c : Centering) (t : Triple) → Reduced t → has same_triple t (points_of c) ≡ in_phase c t
unfolding same_at
agree c t (hx, hy, hz) =
    let by-letter = all-member (λ c. each_below 12 (λ x. each_below 12 (λ y. each_below 12 (λ z. same_at c x y z)))) same_test (listed c) in
    let by-x = each_below_lem 12 (λ x. each_below 12 (λ y. each_below 12 (λ z. same_at c x y z))) by-letter t.x hx in
    let by-y = each_below_lem 12 (λ y. each_below 12 (λ z. same_at c t.x y z)) by-x t.y hy in
    same_true (has same_triple t (points_of c)) (in_phase c t) (each_below_lem 12 (λ z. same_at c t.x t.y z) by-y t.z hz)

-- A vector is in L exactly if it is in phase with all planes that the letter leaves.
pub planes-exactly : (c : Centering) (v : Vector) → InLattice (points_of c) v ↔ ((g : Triple) → Mem g (planes c) → phase g (reduced v) ≡ 0)
unfolding in_phase
planes-exactly c v = (
  (λ m g i.
      let point-there : T (has same_triple (reduced v) (points_of c)) = Mem→has same_triple (equality-equivalence same_triple triple-decides) m in
      let all_there : T (in_phase c (reduced v)) = rw (agree c (reduced v) (reduced-lt v)) at point-there in
      eqb→eq _ _ (all-member (λ g. eqb (phase g (reduced v)) 0) all_there i)),
  λ h.
      let all_there : T (in_phase c (reduced v)) = member-all (λ g. eqb (phase g (reduced v)) 0) (planes c) (λ g i. rw
      (eq-eqb (phase g (reduced v)) 0 (h g i)) tt) in
      let point-there : T (has same_triple (reduced v) (points_of c)) = rw (← agree c (reduced v) (reduced-lt v)) at all_there in
      has→Mem same_triple triple-decides point-there,
)
