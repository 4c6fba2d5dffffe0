-- What a group on the numbers below n is, for any product of numbers, and the tests that tell whether a product makes one.
use Rattle.std.specs.Prelude.{◌≡◌, Bool, ◌&&◌, ℕ, ◌<◌, eqb, ltb}
use Rattle.subgroup_laws.specs.Bounded.{every, first}

module _ (n : ℕ) (◌·◌ : ℕ → ℕ → ℕ) (e : ℕ) where
  infixl 70 ◌·◌
  -- the numbers below n are a group under the product, with identity e
  pub record Group : Type 0 where
    pub product-below : (x y : ℕ) → x < n → y < n → x · y < n
    pub identity-below : e < n
    pub left_identity : (x : ℕ) → x < n → e · x ≡ x
    pub right_identity : (x : ℕ) → x < n → x · e ≡ x
    pub inverse : (x : ℕ) → x < n → (y : ℕ) × (y < n) × (x · y ≡ e) × (y · x ≡ e)
    pub associative : (x y z : ℕ) → x < n → y < n → z < n → x · y · z ≡ x · (y · z)

  -- whether e is a two-sided identity
  unfoldable pub is_identity : Bool
  is_identity = every (λ x. eqb (e · x) x && eqb (x · e) x) n

module _ (◌·◌ : ℕ → ℕ → ℕ) where
  infixl 70 ◌·◌
  -- whether y is a two-sided inverse of x, where e is the identity
  unfoldable pub is_inverse : ℕ → ℕ → ℕ → Bool
  is_inverse e x y = eqb (x · y) e && eqb (y · x) e

  -- whether (i j) k is i (j k)
  unfoldable pub associates_at : ℕ → ℕ → ℕ → Bool
  associates_at i j k = eqb (i · j · k) (i · (j · k))

module _ (n : ℕ) (◌·◌ : ℕ → ℕ → ℕ) where
  -- the first two-sided identity, and n if there is none
  unfoldable pub identity_of : ℕ
  identity_of = first (λ e. is_identity n ◌·◌ e) n

  -- the first two-sided inverse of x, and n if there is none
  unfoldable pub inverse_of : ℕ → ℕ → ℕ
  inverse_of e x = first (λ y. is_inverse ◌·◌ e x y) n

  -- whether each element has a two-sided inverse
  unfoldable pub has_inverses : ℕ → Bool
  has_inverses e = every (λ x. ltb (inverse_of e x) n) n

  -- whether the product is associative
  unfoldable pub associates : Bool
  associates = every (λ i. every (λ j. every (λ k. associates_at ◌·◌ i j k) n) n) n
