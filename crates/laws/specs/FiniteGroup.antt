-- A finite group as a list without repeats: cancellation, the one inverse, and why a nonempty set that products stay in holds
-- the unit and the inverses. The idea of the last: the powers of an element repeat, and a repeat gives the inverse.
use Rattle.std.specs.Prelude.{◌≡◌, ◌⊎◌, Bool, T, length}
use Rattle.std.proofs.Math.Path.{refl, ap}
use Rattle.std.proofs.Common.{sym, ◌∙◌}
use Rattle.std.proofs.Math.Logic.{inl, inr}
use mathlib.Core.List.Memᴰ.{cast as mem-cast}
use mathlib.Core.List.Memᴰ.{head as here}
use mathlib.Core.List.Memᴰ.{tail as there}
use mathlib.Core.List.{List, [], ◌∷◌, Memᴰ as Mem}
use Prim.Native.Nat.{ℕ, zero, suc, ◌<◌}
use native.Mathlib.Omega.{arith}
use Rattle.laws.specs.Distinct.{has, Distinct, nil, cons, DecidesEquality, has-member, Mem→has, pigeonhole, equality-equivalence}
use Rattle.laws.specs.Truth.{decided}

-- ---- groups and their laws

module _ {A : Type 0} (same : A → A → Bool) (◌·◌ : A → A → A) (unit : A) where
  infixl 70 ◌·◌
  -- the members of the list are a group, each listed once
  pub record Group (elements : List A) : Type 0 where
    pub distinct : Distinct same elements
    pub holds-unit : Mem unit elements
    pub product : (x y : A) → Mem x elements → Mem y elements → Mem (x · y) elements
    pub associative : (x y z : A) → Mem x elements → Mem y elements → Mem z elements → x · y · z ≡ x · (y · z)
    pub left-unit : (x : A) → Mem x elements → unit · x ≡ x
    pub right-unit : (x : A) → Mem x elements → x · unit ≡ x
    pub inverse : (x : A) → Mem x elements → (y : A) × Mem y elements × (y · x ≡ unit) × (x · y ≡ unit)

  module _ {elements : List A} (G : Group elements) where
    -- a right factor cancels
    pub cancel_right : (x a b : A) → Mem x elements → Mem a elements → Mem b elements → a · x ≡ b · x → a ≡ b
    cancel_right x a b m k h p =
        let (y, n, yx, xy) = G.inverse x m in
        sym (G.right-unit a k) ∙ ap (λ w. a · w) (sym xy) ∙ sym (G.associative a x y k m n)
        ∙ ap (λ w. w · y) p ∙ G.associative b x y h m n ∙ ap (λ w. b · w) xy ∙ G.right-unit b h

    -- a left factor cancels
    pub cancel_left : (x a b : A) → Mem x elements → Mem a elements → Mem b elements → x · a ≡ x · b → a ≡ b
    cancel_left x a b m k h p =
        let (y, n, yx, xy) = G.inverse x m in
        sym (G.left-unit a k) ∙ ap (λ w. w · a) (sym yx) ∙ G.associative y x a n m k
        ∙ ap (λ w. y · w) p ∙ sym (G.associative y x b n m h) ∙ ap (λ w. w · b) yx ∙ G.left-unit b h

    -- an element has one inverse
    pub inverse-unique : (x y z : A) → Mem x elements → Mem y elements → Mem z elements → y · x ≡ unit → z · x ≡ unit → y ≡ z
    inverse-unique x y z m k h p q = cancel_right x y z m k h (p ∙ sym q)

    -- only the unit leaves a right factor as it is
    pub unit-unique : (x y : A) → Mem x elements → Mem y elements → x · y ≡ y → x ≡ unit
    unit-unique x y m k p = cancel_right y x unit k m G.holds-unit (p ∙ sym (G.left-unit y k))

    -- the inverse of a product is the product of the inverses in the other order
    pub inverse-product : (x y v w : A) → Mem x elements → Mem y elements → Mem v elements → Mem w elements
        → v · x ≡ unit → w · y ≡ unit → w · v · (x · y) ≡ unit
    inverse-product x y v w m k n o p q =
        G.associative w v (x · y) o n (G.product x y m k)
        ∙ ap (λ a. w · a) (sym (G.associative v x y n m k) ∙ ap (λ a. a · y) p ∙ G.left-unit y k) ∙ q

-- ---- powers

module _ {A : Type 0} (◌·◌ : A → A → A) where
  infixl 70 ◌·◌
  -- x to the exponent n + 1
  unfoldable pub power : A → ℕ → A
  power x zero = x
  power x (suc n) = power x n · x

  -- the first n powers, the last one first
  unfoldable powers : A → ℕ → List A
  powers x zero = []
  powers x (suc n) = power x n ∷ powers x n

  -- there are n of them
  powers-length : (x : A) (n : ℕ) → length (powers x n) ≡ n
  unfolding powers
  powers-length x zero = refl
  powers-length x (suc n) = ap suc (powers-length x n)

  -- a listed power has an exponent in range
  powers-member : (x : A) (n : ℕ) {y : A} → Mem y (powers x n) → (k : ℕ) × (k < n) × (y ≡ power x k)
  unfolding powers
  powers-member x (suc n) (here p) = (n, omega arith, p)
  powers-member x (suc n) (there m) = let (k, h, p) = powers-member x n m in (k, omega arith, p)
  powers-member x zero {y = y} x'' = elim x'' [ ]

module _ {A : Type 0} (same : A → A → Bool) (◌·◌ : A → A → A) (unit : A) {elements : List A} (G : Group same ◌·◌ unit elements) where
  infixl 70 ◌·◌
  -- the powers of an element are elements
  pub power-member : {x : A} → Mem x elements → (n : ℕ) → Mem (power ◌·◌ x n) elements
  unfolding power
  power-member m zero = m
  power-member {x} m (suc n) = G.product (power ◌·◌ x n) x (power-member m n) m

  -- two equal powers differ by a power that is the unit
  power-cancel : (x : A) → Mem x elements → (k n : ℕ) → k < n → power ◌·◌ x n ≡ power ◌·◌ x k → (d : ℕ) × (power ◌·◌ x d ≡ unit)
  unfolding power
  power-cancel x m zero (suc n) h p = (n, unit-unique same ◌·◌ unit G (power ◌·◌ x n) x (power-member m n) m p)
  power-cancel x m (suc k) (suc n) h p =
      power-cancel x m k n (omega arith) (cancel_right same ◌·◌ unit G x (power ◌·◌ x n) (power ◌·◌ x k) m (power-member m n) (power-member m k) p)
  power-cancel x m zero zero h p = elim h [ ]
  power-cancel x m (suc k) zero h p = elim h [ ]

  module _ (D : DecidesEquality same) where
    -- the first n powers are without repeats, or some power is the unit
    powers-distinct : (x : A) → Mem x elements → (n : ℕ) → Distinct same (powers ◌·◌ x n) ⊎ ((d : ℕ) × (power ◌·◌ x d ≡ unit))
    unfolding powers
    powers-distinct x m zero = inl nil
    powers-distinct x m (suc n) = elim (powers-distinct x m n) [
      | inr found ↦ inr found
      | inl d ↦ elim (decided (has same (power ◌·◌ x n) (powers ◌·◌ x n))) [
        | inr new ↦ inl (cons new d)
        | inl t ↦
            let (y, k, s) = has-member same (power ◌·◌ x n) (powers ◌·◌ x n) t in
            let (j, h, p) = powers-member ◌·◌ x n k in
            inr (power-cancel x m j n h (D.exact (power ◌·◌ x n) y s ∙ p))
      ]
    ]

    -- some power of each element is the unit: one power more than there are elements cannot all differ
    pub power-unit : (x : A) → Mem x elements → (d : ℕ) × (power ◌·◌ x d ≡ unit)
    power-unit x m = elim (powers-distinct x m (suc (length elements))) [
      | inr found ↦ found
      | inl d ↦ absurd (omega (arith, powers-length ◌·◌ x (suc (length elements)), pigeonhole same (equality-equivalence same D) d elements inside))
    ]
      where
        inside : (y : A) → Mem y (powers ◌·◌ x (suc (length elements))) → T (has same y elements)
        inside y k =
            let (j, h, p) = powers-member ◌·◌ x (suc (length elements)) k in
            Mem→has same (equality-equivalence same D) (mem-cast p (power-member m j))

-- ---- subgroups

module _ {A : Type 0} (◌·◌ : A → A → A) (unit : A) where
  infixl 70 ◌·◌
  -- what lies inside, of the listed elements, is a group again
  pub record Subgroup (elements : List A) (Inside : A → Type 0) : Type 0 where
    pub unit-inside : Inside unit
    pub product_inside : (x y : A) → Mem x elements → Mem y elements → Inside x → Inside y → Inside (x · y)
    pub inverse-inside : (x y : A) → Mem x elements → Mem y elements → y · x ≡ unit → Inside x → Inside y

module _ {A : Type 0} (same : A → A → Bool) (D : DecidesEquality same) (◌·◌ : A → A → A) (unit : A) {elements : List A} (G : Group same ◌·◌ unit elements)
    (Inside : A → Type 0) (closed : (x y : A) → Mem x elements → Mem y elements → Inside x → Inside y → Inside (x · y)) where
  infixl 70 ◌·◌
  -- a set that products stay in holds the powers of its elements
  closed-power : (x : A) → Mem x elements → Inside x → (n : ℕ) → Inside (power ◌·◌ x n)
  unfolding power
  closed-power x m i zero = i
  closed-power x m i (suc n) = closed (power ◌·◌ x n) x (power-member same ◌·◌ unit G m n) m (closed-power x m i n) i

  -- a nonempty set that products stay in holds the unit
  pub closed-unit : (x : A) → Mem x elements → Inside x → Inside unit
  closed-unit x m i = let (d, p) = power-unit same ◌·◌ unit G D x m in rw p at (closed-power x m i d)

  -- where a power of x is the unit, the power before it is the inverse of x
  inverse-power : (x y : A) → Mem x elements → Mem y elements → y · x ≡ unit → Inside x → (d : ℕ) → power ◌·◌ x d ≡ unit → Inside y
  unfolding power
  inverse-power x y m k yx i zero p = rw (inverse-unique same ◌·◌ unit G x y x m k m yx (ap (λ w. w · x) p ∙ G.left-unit x m ∙ p)) i
  inverse-power x y m k yx i (suc d) p =
      rw (inverse-unique same ◌·◌ unit G x y (power ◌·◌ x d) m k (power-member same ◌·◌ unit G m d) yx p) (closed-power x m i d)

  -- a set that products stay in holds the inverses of its elements
  pub closed-inverse : (x y : A) → Mem x elements → Mem y elements → y · x ≡ unit → Inside x → Inside y
  closed-inverse x y m k yx i = let (d, p) = power-unit same ◌·◌ unit G D x m in inverse-power x y m k yx i d p

  -- a nonempty set that products stay in is a subgroup
  pub closed-subgroup : (x : A) → Mem x elements → Inside x → Subgroup ◌·◌ unit elements Inside
  closed-subgroup x m i = record { unit-inside = closed-unit x m i; product_inside = closed; inverse-inside = closed-inverse }
