-- The closure as a program grows it: product by product, each noted by the index of its class, until nothing waits, or until a
-- product is not allowed or the list would pass the limit. The same growth on an image of the elements is the image of the growth.
use Rattle.std.proofs.Math.Path.{◌≡◌, refl}
use Rattle.std.proofs.Math.Logic.{inl, inr}
use Rattle.std.specs.Prelude.{Bool, ◌&&◌, ltb}
use Rattle.std.proofs.Math.Bool.{true, false, cond}
use Rattle.std.proofs.Math.Option
use Rattle.std.proofs.Math.Option.{Option, some, none, bind, bind-eq-some_iff}
use mathlib.Core.List.Memᴰ.{append_cases as mem-append-cases}
use mathlib.Core.List.Memᴰ.{eq_of_singleton as mem-singleton}
use mathlib.Core.List.Memᴰ.{head as here}
use mathlib.Core.List.Memᴰ.{tail as there}
use mathlib.Core.List.{List, [], ◌∷◌, ◌++◌, map, map-append, Memᴰ as Mem}
use Prim.Native.Nat.{ℕ, zero, suc, ◌≤◌}
use native.Mathlib.Omega.{arith}
use Rattle.std.proofs.Math.ListN.{length, get_or, length-map, get_or-map}

-- what was found, the index of each product that was made, in order, and whether each was alike to the one found at its index
pub record Growth (A : Type 0) : Type 0 where
  pub found : List A
  pub steps : List ℕ
  pub steady : Bool

module _ {A : Type 0} (same : A → A → Bool) where
  -- the index of the first element equivalent to x; the length where there is none
  unfoldable pub place : A → List A → ℕ
  place x [] = zero
  place x (y ∷ l) = let later = suc (place x l) in cond (same x y) zero later

  -- it is never past the end
  pub place-le : (x : A) (l : List A) → place x l ≤ length l
  unfolding place
  place-le x [] = omega arith
  place-le x (y ∷ l) = by-test (same x y) (place-le x l)
    where
      by-test : (b : Bool) → place x l ≤ length l → cond b zero (suc (place x l)) ≤ suc (length l)
      by-test true h = omega arith
      by-test false h = omega arith

module _ {A : Type 0} (same alike : A → A → Bool) where
  -- p was found before
  abbrev pub recurring : A → Growth A → Growth A
  recurring p s = record {
    found = s.found;
    steps = s.steps ++ place same p s.found ∷ [];
    steady = s.steady && alike p (get_or s.found (place same p s.found) p);
  }

  -- p is put behind the list
  abbrev pub lengthened : A → Growth A → Growth A
  lengthened p s = record { found = s.found ++ p ∷ []; steps = s.steps ++ place same p s.found ∷ []; steady = s.steady }

  -- p is taken up, if the limit allows
  unfoldable pub taken_up : ℕ → A → Growth A → Option (Growth A)
  taken_up limit p s = cond (ltb (place same p s.found) (length s.found))
      (some (recurring p s)) (cond (ltb (length s.found) limit) (some (lengthened p s)) none)

module _ {A G : Type 0} (same alike : A → A → Bool) (◌·◌ : A → G → Option A) (limit : ℕ) where
  infixl 70 ◌·◌
  -- x times each generator in turn
  unfoldable pub turns : A → List G → Growth A → Option (Growth A)
  turns x [] s = some s
  turns x (g ∷ gens) s = bind (x · g) (λ p. bind (taken_up same alike limit p s) (turns x gens))

  module _ (unit : A) (gens : List G) where
    -- the steps of the elements from index i on; the number says how many are left to the limit
    unfoldable pub grow : ℕ → ℕ → Growth A → Option (Growth A)
    grow zero i s = some s
    grow (suc n) i s = let more = bind (turns (get_or s.found i unit) gens s) (grow n (suc i)) in cond (ltb i (length s.found)) more (some s)

    -- the whole growth, from the unit
    unfoldable pub grown : Option (Growth A)
    grown = grow limit 0 (record { found = unit ∷ []; steps = []; steady = true })

-- ---- growth of an image

-- the image of a growth
abbrev pub image_growth : {A B : Type 0} → (A → B) → Growth A → Growth B
image_growth f s = record { found = map f s.found; steps = s.steps; steady = s.steady }

-- what holds of each element of a list, and of the other in its place, holds of what is read there
at-member : {A : Type 0} (P : A → Type 0) (l : List A) (i : ℕ) (d : A) → ((x : A) → Mem x l → P x) → P d → P (get_or l i d)
at-member P [] i d h k = k
at-member P (x ∷ l) zero d h k = h x (here refl)
at-member P (x ∷ l) (suc i) d h k = at-member P l i d (λ y m. h y (there m)) k

-- an answer taken further, and its image
bind-image : {A B C D : Type 0} (f : A → B) (F : C → D) (o : Option A) {o' : Option B} (u : A → Option C) (v : B → Option D)
    → o' ≡ Option.map f o → ((a : A) → o ≡ some a → v (f a) ≡ Option.map F (u a)) → bind o' v ≡ Option.map F (bind o u)
unfolding bind
bind-image f F none u v e h = rw e
bind-image f F (some a) u v e h = rw e (h a refl)

module _ {A B G H : Type 0} (sameA alikeA : A → A → Bool) (sameB alikeB : B → B → Bool)
    (◌·◌ : A → G → Option A) (◌∗◌ : B → H → Option B) (f : A → B) (tag : H → G) (Fine : A → Type 0) where
  infixl 70 ◌·◌
  infixl 70 ◌∗◌
  -- on what is fine, tests and products go over to the image, and allowed products are fine
  pub record Image : Type 0 where
    pub same-image : (x y : A) → Fine x → Fine y → sameA x y ≡ sameB (f x) (f y)
    pub alike-image : (x y : A) → Fine x → Fine y → alikeA x y ≡ alikeB (f x) (f y)
    pub product-image : (x : A) (h : H) → Fine x → f x ∗ h ≡ Option.map f (x · tag h)
    pub product-fine : (x p : A) (g : G) → Fine x → x · g ≡ some p → Fine p

  module _ (I : Image) (limit : ℕ) where
    -- all that was found is fine
    abbrev AllFine : Growth A → Type 0
    AllFine s = (x : A) → Mem x s.found → Fine x

    -- the index is the same in the image
    place-image : (x : A) (l : List A) → Fine x → ((y : A) → Mem y l → Fine y) → place sameB (f x) (map f l) ≡ place sameA x l
    unfolding place
    place-image x [] k h = refl
    place-image x (y ∷ l) k h = rw (← (I.same-image x y k (h y (here refl))), place-image x l k (λ z m. h z (there m)))

    -- an image of a choice is the choice of images
    choice-image : (a b : Bool) (s t : Growth A) → cond a (some (image_growth f s)) (cond b (some (image_growth f t)) none)
        ≡ Option.map (image_growth f) (cond a (some s) (cond b (some t) none))
    choice-image true b s t = refl
    choice-image false true s t = refl
    choice-image false false s t = refl

    -- taking up an element
    taken-image : (p : A) (s : Growth A) → Fine p → AllFine s
        → taken_up sameB alikeB limit (f p) (image_growth f s) ≡ Option.map (image_growth f) (taken_up sameA alikeA limit p s)
    unfolding taken_up
    taken-image p s k h =
        rw (
          place-image p s.found k h,
          length-map s.found f,
          get_or-map f s.found (place sameA p s.found) p,
          ← (I.alike-image p (get_or s.found (place sameA p s.found) p) k (at-member Fine s.found (place sameA p s.found) p h k)),
          ← (map-append f s.found (p ∷ [])),
        )
        (choice-image (ltb (place sameA p s.found) (length s.found)) (ltb (length s.found) limit)
        (recurring sameA alikeA p s) (lengthened sameA alikeA p s))

    -- what is taken up is fine
    taken_fine : (p : A) (s t : Growth A) → Fine p → AllFine s → taken_up sameA alikeA limit p s ≡ some t → AllFine t
    unfolding taken_up
    taken_fine p s t k h e = chosen (ltb (place sameA p s.found) (length s.found)) (ltb (length s.found) limit) e
      where
        chosen : (a b : Bool) → cond a (some (recurring sameA alikeA p s)) (cond b (some (lengthened sameA alikeA p s)) none) ≡ some t → AllFine t
        chosen true b q = let z : recurring sameA alikeA p s ≡ t = cc in rw (← z) h
        chosen false true q =
            let z : lengthened sameA alikeA p s ≡ t = cc in
            rw (← z) (λ x m. elim (mem-append-cases s.found m) [ inl o ↦ h x o | inr o ↦ rw (mem-singleton o) k ])
        chosen false false q = let z : ◌≡◌ {A = ℕ} 0 1 = cc in absurd (omega arith)

    -- one element's steps stay fine
    turns-fine : (x : A) (gens : List H) (s t : Growth A) → Fine x → AllFine s → turns sameA alikeA ◌·◌ limit x (map tag gens) s ≡ some t → AllFine t
    unfolding turns
    turns-fine x [] s t k h e = let z : s ≡ t = cc in rw (← z) h
    turns-fine x (g ∷ gens) s t k h e =
        let (p, q, rest) = (bind-eq-some_iff (x · tag g) (λ p. bind (taken_up sameA alikeA limit p s) (turns sameA alikeA ◌·◌ limit x (map tag gens)))).0 e in
        let (u, taken, later) = (bind-eq-some_iff (taken_up sameA alikeA limit p s) (turns sameA alikeA ◌·◌ limit x (map tag gens))).0 rest in
        turns-fine x gens u t k (taken_fine p s u (I.product-fine x p (tag g) k q) h taken) later

    -- and go over to the image
    turns-image : (x : A) (gens : List H) (s : Growth A) → Fine x → AllFine s
        → turns sameB alikeB ◌∗◌ limit (f x) gens (image_growth f s) ≡ Option.map (image_growth f) (turns sameA alikeA ◌·◌ limit x (map tag gens) s)
    unfolding turns
    turns-image x [] s k h = refl
    turns-image x (g ∷ gens) s k h = bind-image f (image_growth f) (x · tag g)
        (λ p. bind (taken_up sameA alikeA limit p s) (turns sameA alikeA ◌·◌ limit x (map tag gens)))
        (λ p. bind (taken_up sameB alikeB limit p (image_growth f s)) (turns sameB alikeB ◌∗◌ limit (f x) gens))
        (I.product-image x g k)
        (λ p e. let fine = I.product-fine x p (tag g) k e in
        bind-image (image_growth f) (image_growth f) (taken_up sameA alikeA limit p s)
        (turns sameA alikeA ◌·◌ limit x (map tag gens)) (turns sameB alikeB ◌∗◌ limit (f x) gens)
        (taken-image p s fine h)
        (λ t q. turns-image x gens t k (taken_fine p s t fine h q)))

    module _ (unit : A) (gens : List H) (fine-unit : Fine unit) where
      -- the growth from an index on
      grow-image : (n i : ℕ) (s : Growth A) → AllFine s → grow sameB alikeB ◌∗◌ limit (f unit) gens n i (image_growth f s)
          ≡ Option.map (image_growth f) (grow sameA alikeA ◌·◌ limit unit (map tag gens) n i s)
      unfolding grow
      grow-image zero i s h = refl
      grow-image (suc n) i s h =
          let x = get_or s.found i unit in
          let fine = at-member Fine s.found i unit h fine-unit in
          let more = bind-image (image_growth f) (image_growth f) (turns sameA alikeA ◌·◌ limit x (map tag gens) s)
          (grow sameA alikeA ◌·◌ limit unit (map tag gens) n (suc i)) (grow sameB alikeB ◌∗◌ limit (f unit) gens n (suc i))
          (turns-image x gens s fine h)
          (λ t q. grow-image n (suc i) t (turns-fine x gens s t fine h q)) in
          rw (length-map s.found f, get_or-map f s.found i unit, more)
          (more-or-done (ltb i (length s.found)) (bind (turns sameA alikeA ◌·◌ limit x (map tag gens) s)
          (grow sameA alikeA ◌·◌ limit unit (map tag gens) n (suc i))) s)
        where
          more-or-done : (b : Bool) (o : Option (Growth A)) (s : Growth A)
              → cond b (Option.map (image_growth f) o) (some (image_growth f s)) ≡ Option.map (image_growth f) (cond b o (some s))
          more-or-done true o s = refl
          more-or-done false o s = refl

      -- the growth of the image is the image of the growth
      pub grown-image : grown sameB alikeB ◌∗◌ limit (f unit) gens ≡ Option.map (image_growth f) (grown sameA alikeA ◌·◌ limit unit (map tag gens))
      unfolding grown
      grown-image = grow-image limit 0 (record { found = unit ∷ []; steps = []; steady = true }) (λ x m. rw (mem-singleton m) fine-unit)
