-- The closure by a key: an element is dropped if an earlier one has its key. Its keys are the closure of the keys; and whether
-- one element to each key was enough is seen from the list, by its steps, or from what is reached, at the key of the unit.
-- The idea of the last: the keys of what is reached have inverses, since a multiplication of finitely many keys that cancels is onto.
use Rattle.std.specs.Prelude.{◌≡◌, ◌↔◌, Bool, T}
use Rattle.std.proofs.Math.Path.{refl, ap}
use Rattle.std.proofs.Common.{◌∙◌, ap₂}
use Rattle.std.proofs.Math.Bool.{true, false}
use Rattle.std.proofs.Math.Option
use mathlib.Core.List.Memᴰ.{head as here}
use mathlib.Core.List.Memᴰ.{of_map as mem-of-map}
use mathlib.Core.List.{List, [], ◌∷◌, ◌++◌, map, map-append, Memᴰ as Mem}
use Prim.Native.Nat.{ℕ, zero, suc}
use Rattle.laws.specs.Distinct.{has, Equivalence, has-member, distinct-equal, Injective, injection-onto}
use Rattle.laws.specs.Closure.{Reached, start, step, fresh, run, closure, Congruence, ListsReached, Monoid, reached-ok, reached-product}

-- ---- the keys of the closure are the closure of the keys

module _ {A B G K : Type 0} (sameA : A → A → Bool) (sameB : B → B → Bool) (key : A → B) (tag : G → K) (◌·◌ : A → G → A) (◌∗◌ : B → K → B) where
  infixl 70 ◌·◌
  infixl 70 ◌∗◌
  -- elements are told apart by their keys alone, and the key of a step is the step of the key
  pub record KeyMap : Type 0 where
    pub same_key : (x y : A) → sameA x y ≡ sameB (key x) (key y)
    pub step-key : (x : A) (g : G) → key (x · g) ≡ key x ∗ tag g

  module _ (M : KeyMap) where
    -- a list has x exactly if its keys have the key of x
    has_key : (x : A) (l : List A) → has sameA x l ≡ has sameB (key x) (map key l)
    unfolding has
    has_key x [] = refl
    has_key x (y ∷ l) = rw (M.same_key x y, has_key x l)

    -- the keys of what is fresh
    fresh-key : (l candidates : List A) → map key (fresh sameA l candidates) ≡ fresh sameB (map key l) (map key candidates)
    unfolding fresh
    fresh-key l [] = refl
    fresh-key l (x ∷ candidates) = rw (← (has_key x l), fresh) (elim (has sameA x l)
        as (λ b. map key (elim b [ true ↦ fresh sameA l candidates | false ↦ x ∷ fresh sameA (l ++ x ∷ []) candidates ])
        ≡ elim b [ true ↦ fresh sameB (map key l) (map key candidates) | false ↦ key x ∷ fresh sameB (map key l ++ key x ∷ []) (map key candidates) ]) [
          | true ↦ fresh-key l candidates
          | false ↦ ap (λ r. key x ∷ r) (rw map-append at (fresh-key (l ++ x ∷ []) candidates))
        ])

    -- the keys of the steps of one element
    steps-key : (x : A) (gens : List G) → map key (map (λ g. x · g) gens) ≡ map (λ k. key x ∗ k) (map tag gens)
    steps-key x [] = refl
    steps-key x (g ∷ gens) = ap₂ (λ a r. a ∷ r) (M.step-key x g) (steps-key x gens)

    module _ (unit : A) (gens : List G) where
      -- a run on the keys of two lists
      run-key : (n : ℕ) (taken waiting : List A) → Option.map (map key) (run sameA ◌·◌ unit gens n taken waiting)
          ≡ run sameB ◌∗◌ (key unit) (map tag gens) n (map key taken) (map key waiting)
      unfolding run
      run-key zero taken [] = refl
      run-key zero taken (x ∷ waiting) = refl
      run-key (suc n) taken [] = refl
      run-key (suc n) taken (x ∷ waiting) =
          run-key n (taken ++ x ∷ []) (waiting ++ fresh sameA (taken ++ x ∷ waiting) (map (λ g. x · g) gens)) ∙ simp (map-append, fresh-key, steps-key)

      -- the keys of the closure are the closure of the keys
      pub closure-key : (n : ℕ) → Option.map (map key) (closure sameA ◌·◌ unit gens n) ≡ closure sameB ◌∗◌ (key unit) (map tag gens) n
      unfolding closure
      closure-key n = run-key n [] (unit ∷ [])

-- ---- one element to each key

module _ {A : Type 0} (◌≈◌ : A → A → Type 0) (◌·◌ : A → A → A) (gens : List A) where
  infix 50 ◌≈◌
  infixl 70 ◌·◌
  -- every step from the list comes back to the list, up to ≈: what a program tests
  abbrev pub Steady : List A → Type 0
  Steady l = (x g : A) → Mem x l → Mem g gens → (y : A) × Mem y l × (x · g ≈ y)

module _ {A : Type 0} (same : A → A → Bool) (◌≈◌ : A → A → Type 0) (Ok : A → Type 0) (◌·◌ : A → A → A) (unit : A) where
  infix 50 ◌≈◌
  infixl 70 ◌·◌
  -- a monoid on what is Ok, whose elements have keys that multiply and cancel (two have one key if `same` holds of them),
  -- and in which being alike, x ≈ y, says at least that the keys are one, and is kept by products
  pub record KeyedMonoid : Type 0 where
    pub monoid : Monoid Ok ◌·◌ unit
    pub key-equivalence : Equivalence same
    pub key_left : (g x y : A) → Ok g → Ok x → Ok y → T (same x y) → T (same (g · x) (g · y))
    pub key_right : (x y g : A) → Ok x → Ok y → Ok g → T (same x y) → T (same (x · g) (y · g))
    pub key-cancel : (x y g : A) → Ok x → Ok y → Ok g → T (same (x · g) (y · g)) → T (same x y)
    pub alike-reflexive : (x : A) → x ≈ x
    pub alike-symmetric : (x y : A) → x ≈ y → y ≈ x
    pub alike-transitive : (x y z : A) → x ≈ y → y ≈ z → x ≈ z
    pub alike-key : (x y : A) → x ≈ y → T (same x y)
    pub alike-left : (g x y : A) → Ok g → Ok x → Ok y → x ≈ y → g · x ≈ g · y
    pub alike_right : (x y g : A) → Ok x → Ok y → Ok g → x ≈ y → x · g ≈ y · g

  module _ (M : KeyedMonoid) (gens : List A) (ok-gens : (g : A) → Mem g gens → Ok g) where
    -- two reached elements of one key are alike
    abbrev OneToEachKey : Type 0
    OneToEachKey = (x y : A) → Reached ◌·◌ unit gens x → Reached ◌·◌ unit gens y → T (same x y) → x ≈ y

    -- a reached element with the key of the unit is alike to the unit
    abbrev OneToUnitKey : Type 0
    OneToUnitKey = (x : A) → Reached ◌·◌ unit gens x → T (same x unit) → x ≈ unit

    -- what is reached is Ok
    is_ok : {x : A} → Reached ◌·◌ unit gens x → Ok x
    is_ok = reached-ok Ok ◌·◌ unit M.monoid gens ok-gens

    -- products of what is reached are reached
    reached-times : {x y : A} → Reached ◌·◌ unit gens x → Reached ◌·◌ unit gens y → Reached ◌·◌ unit gens (x · y)
    reached-times = reached-product Ok ◌·◌ unit M.monoid gens ok-gens

    -- steps keep the key: what the laws of the closure ask for
    pub key-congruence : Congruence same ◌·◌ unit gens
    key-congruence x y g r t m s = M.key_right x y g (is_ok r) (is_ok t) (ok-gens g m) s

    -- an inverse on the left, up to the key, is one on the right
    pub key-inverse-right : (y w : A) → Reached ◌·◌ unit gens y → Reached ◌·◌ unit gens w → T (same (w · y) unit) → T (same (y · w) unit)
    key-inverse-right y w r q s = M.key-cancel (y · w) unit y (is_ok (reached-times r q)) M.monoid.ok-unit (is_ok r) (rw
        (regroup, M.monoid.left-unit y (is_ok r)) around)
      where
        regroup : y · w · y ≡ y · (w · y)
        regroup = M.monoid.associative y w y (is_ok r) (is_ok q) (is_ok r)

        around : T (same (y · (w · y)) y)
        around = rw (M.monoid.right-unit y (is_ok r)) at (M.key_left y (w · y) unit (is_ok r) (is_ok (reached-times q r)) M.monoid.ok-unit s)

    -- a right factor with the key of the unit changes nothing
    unit-behind : OneToUnitKey → (x a : A) → Reached ◌·◌ unit gens x → Reached ◌·◌ unit gens a → T (same a unit) → x ≈ x · a
    unit-behind one x a r t s =
        let alike = M.alike-left x a unit (is_ok r) (is_ok t) M.monoid.ok-unit (one a t s) in
        M.alike-symmetric (x · a) x (rw (M.monoid.right-unit x (is_ok r)) at alike)

    -- nor does a left factor
    unit-before : OneToUnitKey → (a y : A) → Reached ◌·◌ unit gens a → Reached ◌·◌ unit gens y → T (same a unit) → a · y ≈ y
    unit-before one a y r t s =
        let alike = M.alike_right a unit y (is_ok r) M.monoid.ok-unit (is_ok t) (one a r s) in
        rw (M.monoid.left-unit y (is_ok t)) at alike

    module _ {l : List A} (L : ListsReached same ◌·◌ unit gens l) where
      -- where every step comes back, every reached element is alike to a listed one
      reached-alike : Steady ◌≈◌ ◌·◌ gens l → {x : A} → Reached ◌·◌ unit gens x → (y : A) × Mem y l × (x ≈ y)
      reached-alike steady start = (unit, rw L.first (here refl), M.alike-reflexive unit)
      reached-alike steady (step {x} {g} r m) =
          let (y, k, p) = reached-alike steady r in
          let (z, n, q) = steady y g k m in
          (z, n, M.alike-transitive (x · g) (y · g) z (M.alike_right x y g (is_ok r) (is_ok (L.sound y k)) (ok-gens g m) p) q)

      -- where every step comes back, two reached elements of one key are alike
      steady→one : Steady ◌≈◌ ◌·◌ gens l → OneToEachKey
      steady→one steady x y r t s =
          let E = M.key-equivalence in
          let (a, m, p) = reached-alike steady r in
          let (b, k, q) = reached-alike steady t in
          let ax = E.symmetric x a (M.alike-key x a p) in
          let xb = E.transitive x y b s (M.alike-key y b q) in
          let h = distinct-equal same E L.distinct m k (E.transitive a x b ax xb) in
          M.alike-transitive x a y p (rw h (M.alike-symmetric y b q))

      -- and the other way round
      one→steady : OneToEachKey → Steady ◌≈◌ ◌·◌ gens l
      one→steady one x g m k =
          let (y, n, s) = has-member same (x · g) l (L.complete (x · g) (step (L.sound x m) k)) in
          (y, n, one (x · g) y (step (L.sound x m) k) (L.sound y n) s)

      -- every step comes back to the list exactly if two reached elements of one key are alike
      pub steady-each-key : Steady ◌≈◌ ◌·◌ gens l
          ↔ ((x y : A) → Reached ◌·◌ unit gens x → Reached ◌·◌ unit gens y → T (same x y) → x ≈ y)
      steady-each-key = (steady→one, one→steady)

      -- each reached y has a reached w such that w · y has the key of the unit
      pub key-inverse-left : (y : A) → Reached ◌·◌ unit gens y → (w : A) × Reached ◌·◌ unit gens w × T (same (w · y) unit)
      key-inverse-left y r =
          let (z, m, s) = has-member same unit (map (λ a. a · y) l) onto in
          let (w, k, p) = mem-of-map (λ a. a · y) l m in
          (w, L.sound w k, M.key-equivalence.symmetric unit (w · y) (rw p s))
        where
          injective : Injective same (λ a. a · y) l
          injective a b m k s = M.key-cancel a b y (is_ok (L.sound a m)) (is_ok (L.sound b k)) (is_ok r) s

          into : (a : A) → Mem a l → T (has same (a · y) l)
          into a m = L.complete (a · y) (reached-times (L.sound a m) r)

          onto : T (has same unit (map (λ a. a · y) l))
          onto = injection-onto same M.key-equivalence (λ a. a · y) l injective L.distinct into unit (L.complete unit start)

      -- what holds at the key of the unit holds at every key: x ≈ x · (w · y) ≡ (x · w) · y ≈ y, for w with the inverse key of y
      unit→each : OneToUnitKey → OneToEachKey
      unit→each one x y r t s =
          let (w, q, wy) = key-inverse-left y t in
          let xw = M.key-equivalence.transitive (x · w) (y · w) unit (M.key_right x y w (is_ok r) (is_ok t) (is_ok q) s) (key-inverse-right y w t q wy) in
          let second = rw (M.monoid.associative x w y (is_ok r) (is_ok q) (is_ok t)) at (unit-before one (x · w) y (reached-times r q) t xw) in
          M.alike-transitive x (x · (w · y)) y (unit-behind one x (w · y) r (reached-times q t) wy) second

      -- every step comes back to the list exactly if every reached element with the key of the unit is alike to the unit
      pub steady-unit-key : Steady ◌≈◌ ◌·◌ gens l ↔ ((x : A) → Reached ◌·◌ unit gens x → T (same x unit) → x ≈ unit)
      steady-unit-key = ((λ steady x r s. steady→one steady x unit r start s), λ one. one→steady (unit→each one))
