-- The closure under an order that steps respect: it ascends, and of each class it holds the least reached element.
-- The idea: what waits is so far ahead that every step from it lies behind all that was found.
use Rattle.std.specs.Prelude.{◌≡◌, refl, ◌⊎◌, Bool, ℕ, T}
use Rattle.std.proofs.Common.{inl, inr}
use Rattle.std.proofs.Math.Option.{some}
use mathlib.Core.List.Memᴰ.{append_cases as mem-append-cases}
use mathlib.Core.List.Memᴰ.{append_left as mem-append_left}
use mathlib.Core.List.Memᴰ.{append_right as mem-append_right}
use mathlib.Core.List.Memᴰ.{eq_of_singleton as mem-singleton}
use mathlib.Core.List.Memᴰ.{head as here}
use mathlib.Core.List.Memᴰ.{map as mem-map}
use mathlib.Core.List.Memᴰ.{not-nil}
use mathlib.Core.List.Memᴰ.{of_map as mem-of-map}
use mathlib.Core.List.Memᴰ.{tail as there}
use mathlib.Core.List.{List, [], ◌∷◌, ◌++◌, map, append-nil, Memᴰ as Mem}
use Rattle.std.proofs.Math.Seq.{append_snoc}
use Rattle.laws.specs.Distinct.{Equivalence, has-member}
use Rattle.laws.specs.Closure.{Reached, start, step, Fresh, done, old, new, fresh-candidate, closure, regroup, Kept, closure-keeps, closure-first, closure-sound, Congruence}
use Rattle.laws.specs.Sorted.{Sorted, sorted-nil, sorted-cons, sorted-one, sorted-append, append-sorted-right, head_first, sorted-map}

module _ {A : Type 0} (◌≺◌ : A → A → Type 0) where
  infix 50 ◌≺◌
  -- x comes before y or is y
  abbrev pub AtMost : A → A → Type 0
  AtMost x y = (x ≡ y) ⊎ (x ≺ y)

module _ {A : Type 0} (same : A → A → Bool) (◌≺◌ : A → A → Type 0) where
  infix 50 ◌≺◌
  -- what is fresh of ascending candidates ascends
  fresh-sorted : {l candidates r : List A} → Fresh same l candidates r → Sorted ◌≺◌ candidates → Sorted ◌≺◌ r
  fresh-sorted done s = sorted-nil
  fresh-sorted (old t f) (sorted-cons first s) = fresh-sorted f s
  fresh-sorted (new h f) (sorted-cons first s) = sorted-cons (λ y m. first y (fresh-candidate same f m)) (fresh-sorted f s)

  -- where the list lies before the ascending candidates, each of them has an equivalent in the new list that is not after it
  fresh-least : Equivalence same → {l candidates r : List A} → Fresh same l candidates r → Sorted ◌≺◌ candidates
      → ((u x : A) → Mem u l → Mem x candidates → u ≺ x) → {x : A} → Mem x candidates → (y : A) × Mem y (l ++ r) × T (same x y) × AtMost ◌≺◌ y x
  fresh-least E (old {x = z} {l} {r = r} t f) (sorted-cons first s) before {x} (here p) =
      let (y, m, h) = has-member same z l t in
      (y, mem-append_left r m, rw p h, inr (before y x m (here p)))
  fresh-least E (old t f) (sorted-cons first s) before (there m) = fresh-least E f s (λ u x k n. before u x k (there n)) m
  fresh-least E (new {x = z} {l} {r = r} h f) (sorted-cons first s) before {x} (here p) =
      (x, mem-append_right l (here p), E.reflexive x, inl refl)
  fresh-least E (new {x = z} {l} {candidates} {r} h f) (sorted-cons first s) before (there m) =
      rw (append_snoc l z r) at (fresh-least E f s ahead m)
    where
      ahead : (u x : A) → Mem u (l ++ z ∷ []) → Mem x candidates → u ≺ x
      ahead u x k n = elim (mem-append-cases l k) [ inl o ↦ before u x o (there n) | inr o ↦ rw (mem-singleton o) (first x n) ]
  fresh-least E (done {l = l}) _ before {x = x} x19 = elim x19 [ ]

module _ {A G : Type 0} (◌·◌ : A → G → A) (◌≺◌ : A → A → Type 0) (◌⊏◌ : G → G → Type 0) where
  infixl 70 ◌·◌
  infix 50 ◌≺◌
  infix 50 ◌⊏◌
  -- a step leads forward, keeps what comes before, and goes by the order of the generators
  pub record StepOrder : Type 0 where
    pub transitive : (x y z : A) → x ≺ y → y ≺ z → x ≺ z
    pub forward : (x : A) (g : G) → x ≺ x · g
    pub keeps : (x y : A) (g h : G) → x ≺ y → x · g ≺ y · h
    pub by-generator : (x : A) (g h : G) → g ⊏ h → x · g ≺ x · h

  -- what is at most a step from y is at most that step from x, for y at most x
  at-most-step : StepOrder → (x y z : A) (g : G) → AtMost ◌≺◌ y x → AtMost ◌≺◌ z (y · g) → AtMost ◌≺◌ z (x · g)
  at-most-step O x y z g (inl e) h = rw e at h
  at-most-step O x y z g (inr b) (inl e) = inr (rw e (O.keeps y x g g b))
  at-most-step O x y z g (inr b) (inr a) = inr (O.transitive z (y · g) (x · g) a (O.keeps y x g g b))

  module _ (same : A → A → Bool) (unit : A) (gens : List G) where
    -- what the procedure keeps
    record OrderInvariant (taken waiting : List A) : Type 0 where
      sorted : Sorted ◌≺◌ (taken ++ waiting)
      ahead : (u w : A) (g : G) → Mem u (taken ++ waiting) → Mem w waiting → u ≺ w · g
      least : (x : A) (g : G) → Mem x taken → Mem g gens → (y : A) × Mem y (taken ++ waiting) × T (same (x · g) y) × AtMost ◌≺◌ y (x · g)

    module _ (O : StepOrder) (E : Equivalence same) (ascending : Sorted ◌⊏◌ gens) where
      -- the invariant holds at the start
      order-start : OrderInvariant [] (unit ∷ [])
      order-start = record {
        sorted = sorted-one ◌≺◌;
        ahead = λ u w g m k. rw (mem-singleton m, mem-singleton k) (O.forward unit g);
        least = λ x g m. absurd (not-nil m);
      }

      -- taking the steps of the first element that waits keeps the invariant
      order-kept : Kept same ◌·◌ unit gens OrderInvariant
      order-kept taken waiting r x f I = record {
        sorted = rw joined (sorted-append ◌≺◌ I.sorted (fresh-sorted same ◌≺◌ f steps) old-fresh);
        ahead = λ u w g m k. ahead u w g (rw joined at m) k;
        least = λ y g m k. rw joined (least y g m k);
      }
        where
          joined : (taken ++ x ∷ []) ++ (waiting ++ r) ≡ (taken ++ x ∷ waiting) ++ r
          joined = regroup taken waiting r x

          steps : Sorted ◌≺◌ (map (λ g. x · g) gens)
          steps = sorted-map ◌⊏◌ ◌≺◌ (λ g. x · g) (O.by-generator x) ascending

          is-step : (y : A) → Mem y r → (g : G) × Mem g gens × (x · g ≡ y)
          is-step y m = mem-of-map (λ g. x · g) gens (fresh-candidate same f m)

          old-step : (u y : A) → Mem u (taken ++ x ∷ waiting) → Mem y (map (λ g. x · g) gens) → u ≺ y
          old-step u y m k = let (g, h, p) = mem-of-map (λ g. x · g) gens k in rw p at (I.ahead u x g m (here refl))

          old-fresh : (u y : A) → Mem u (taken ++ x ∷ waiting) → Mem y r → u ≺ y
          old-fresh u y m k = old-step u y m (fresh-candidate same f k)

          head-before : (w : A) → Mem w (waiting ++ r) → x ≺ w
          head-before w k = elim (mem-append-cases waiting k) [
            | inl q ↦ head_first ◌≺◌ (append-sorted-right ◌≺◌ taken (x ∷ waiting) I.sorted) w q
            | inr q ↦ let (g, m, e) = is-step w q in rw e at (O.forward x g)
          ]

          ahead : (u w : A) (g : G) → Mem u ((taken ++ x ∷ waiting) ++ r) → Mem w (waiting ++ r) → u ≺ w · g
          ahead u w g m k = elim (mem-append-cases (taken ++ x ∷ waiting) m) [
            | inl o ↦ elim (mem-append-cases waiting k) [
              | inl q ↦ I.ahead u w g o (there q)
              | inr q ↦ O.transitive u w (w · g) (old-fresh u w o q) (O.forward w g)
            ]
            | inr o ↦ let (h, n, p) = is-step u o in rw (← p) (O.keeps x w h g (head-before w k))
          ]

          least : (y : A) (g : G) → Mem y (taken ++ x ∷ []) → Mem g gens
              → (z : A) × Mem z ((taken ++ x ∷ waiting) ++ r) × T (same (y · g) z) × AtMost ◌≺◌ z (y · g)
          least y g m k = elim (mem-append-cases taken m) [
            | inl o ↦ let (z, n, s, q) = I.least y g o k in (z, mem-append_left r n, s, q)
            | inr o ↦ rw (mem-singleton o) (fresh-least same ◌≺◌ E f steps old-step (mem-map (λ g. x · g) k))
          ]

      -- so the closure has it
      closure-order : (n : ℕ) (l : List A) → closure same ◌·◌ unit gens n ≡ some l → OrderInvariant l []
      closure-order = closure-keeps same ◌·◌ unit gens OrderInvariant order-kept order-start

      -- the closure ascends
      pub closure-sorted : (n : ℕ) (l : List A) → closure same ◌·◌ unit gens n ≡ some l → Sorted ◌≺◌ l
      closure-sorted n l p = rw append-nil at (closure-order n l p).sorted

      module _ (congruence : Congruence same ◌·◌ unit gens) (n : ℕ) (l : List A) (p : closure same ◌·◌ unit gens n ≡ some l) where
        -- what is reached has an equivalent in the closure that does not come after it
        pub closure-least : {x : A} → Reached ◌·◌ unit gens x → (y : A) × Mem y l × T (same x y) × AtMost ◌≺◌ y x
        closure-least start = let (rest, q) = closure-first same ◌·◌ unit gens E n l p in (unit, rw q (here refl), E.reflexive unit, inl refl)
        closure-least (step {x} {g} r m) =
            let (y, k, s, q) = closure-least r in
            let (z, o, t, h) = (closure-order n l p).least y g k m in
            let steps_alike = congruence x y g r (closure-sound same ◌·◌ unit gens E n l p y k) m s in
            (z, rw append-nil at o, E.transitive (x · g) (y · g) z steps_alike t, at-most-step O x y z g q h)
