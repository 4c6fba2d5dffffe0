-- Sets of elements as numbers (R7): subgroups, images, conjugates and normalizers, for any product of the numbers below n.
use Rattle.std.specs.Prelude.{◌≡◌, Bool, true, cond, ◌&&◌, ℕ, ◌^◌, ◌<◌, eqb, ltb}
use Rattle.laws.specs.Sets.{member, set_of}
use Rattle.subgroup_laws.specs.Bounded.{every, some}
use Rattle.subgroup_laws.specs.Groups.{inverse_of}

module _ (n : ℕ) (◌·◌ : ℕ → ℕ → ℕ) (e : ℕ) where
  infixl 70 ◌·◌
  -- s is a set of elements that holds the identity, products and inverses
  pub record Subgroup (s : ℕ) : Type 0 where
    pub small : s < 2 ^ n
    pub holds-identity : member s e ≡ true
    pub holds-products : (x y : ℕ) → member s x ≡ true → member s y ≡ true → member s (x · y) ≡ true
    pub holds-inverses : (x y : ℕ) → y < n → y · x ≡ e → member s x ≡ true → member s y ≡ true

module _ (n : ℕ) (◌·◌ : ℕ → ℕ → ℕ) where
  infixl 70 ◌·◌
  -- whether s holds the product of x and each of its members
  unfoldable pub holds_row : ℕ → ℕ → Bool
  holds_row s x = every (λ y. cond (member s y) (member s (x · y)) true) n

  -- whether s is a set of elements that holds the identity and products; inverses follow, as `subgroup-test` shows
  unfoldable pub is_subgroup : ℕ → ℕ → Bool
  is_subgroup e s = ltb s (2 ^ n) && (member s e && every (λ x. cond (member s x) (holds_row s x) true) n)

-- the set of the values that f has on s
unfoldable pub image_of : ℕ → (ℕ → ℕ) → ℕ → ℕ
image_of n f s = set_of n (λ y. some (λ x. member s x && eqb (f x) y) n)

module _ (n : ℕ) (◌·◌ : ℕ → ℕ → ℕ) (e : ℕ) where
  infixl 70 ◌·◌
  -- g⁻¹ x g
  unfoldable pub conjugate_element : ℕ → ℕ → ℕ
  conjugate_element x g = inverse_of n ◌·◌ e g · x · g

  -- g⁻¹ s g
  unfoldable pub conjugate_of : ℕ → ℕ → ℕ
  conjugate_of s g = image_of n (λ x. conjugate_element x g) s

  -- the elements that conjugate s to itself
  unfoldable pub normalizer_of : ℕ → ℕ
  normalizer_of s = set_of n (λ g. eqb (conjugate_of s g) s)
