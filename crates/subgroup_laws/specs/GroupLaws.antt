-- What the tests of a product say: which element is the identity, which elements have inverses, when the numbers below n are a group.
use Rattle.std.specs.Prelude.{◌≡◌, true, ℕ, ◌<◌, eqb}
use Rattle.std.proofs.Common.{sym, ◌∙◌}
use borrow.Author.Tests.{eq-eqb, lt-ltb, ltb-true, eqb-true}
use Rattle.subgroup_laws.specs.Bounded.{passes-every, every-passes, first-least, first-passing}
use Rattle.laws.specs.Truth.{and_both, both-and}
use Rattle.subgroup_laws.specs.Groups.{Group, is_identity, identity_of, is_inverse, inverse_of, has_inverses, associates_at, associates}

module _ (n : ℕ) (◌·◌ : ℕ → ℕ → ℕ) where
  infixl 70 ◌·◌
  -- e is a two-sided identity
  pub record TwoSidedIdentity (e : ℕ) : Type 0 where
    pub below : e < n
    pub left : (x : ℕ) → x < n → e · x ≡ x
    pub right : (x : ℕ) → x < n → x · e ≡ x

  -- y is a two-sided inverse of x
  pub record TwoSidedInverse (e x y : ℕ) : Type 0 where
    pub below : y < n
    pub right : x · y ≡ e
    pub left : y · x ≡ e

  -- the test of a two-sided identity
  pub passes-identity : (e : ℕ) → TwoSidedIdentity e → is_identity n ◌·◌ e ≡ true
  unfolding is_identity
  passes-identity e I = passes-every _ n (λ x h. both-and _ _ (eq-eqb _ _ (I.left x h)) (eq-eqb _ _ (I.right x h)))

  -- what passes it is one
  pub identity-passes : (e : ℕ) → e < n → is_identity n ◌·◌ e ≡ true → TwoSidedIdentity e
  unfolding is_identity
  identity-passes e h t = record {
    below = h;
    left = λ x l. eqb-true _ _ (and_both (eqb (e · x) x) (eqb (x · e) x) (every-passes _ n t x l)).0;
    right = λ x l. eqb-true _ _ (and_both (eqb (e · x) x) (eqb (x · e) x) (every-passes _ n t x l)).1;
  }

  -- there is at most one
  pub one-identity : (e f : ℕ) → TwoSidedIdentity e → TwoSidedIdentity f → e ≡ f
  one-identity e f I J = sym (J.right e I.below) ∙ I.left f J.below

  -- the first two-sided identity is the one that there is
  pub identity-found : (e : ℕ) → TwoSidedIdentity e → identity_of n ◌·◌ ≡ e
  unfolding identity_of
  identity-found e I =
      let f = first-least (λ e. is_identity n ◌·◌ e) n e I.below (passes-identity e I) in
      one-identity _ e (identity-passes _ f.below f.passes) I

  -- what is found below n is one
  pub found-identity : identity_of n ◌·◌ < n → TwoSidedIdentity (identity_of n ◌·◌)
  unfolding identity_of
  found-identity h = identity-passes _ h (first-passing (λ e. is_identity n ◌·◌ e) n h).passes

  -- the test of a two-sided inverse
  pub passes-inverse : (e x y : ℕ) → TwoSidedInverse e x y → is_inverse ◌·◌ e x y ≡ true
  unfolding is_inverse
  passes-inverse e x y I = both-and _ _ (eq-eqb _ _ I.right) (eq-eqb _ _ I.left)

  -- what passes it is one
  pub inverse-passes : (e x y : ℕ) → y < n → is_inverse ◌·◌ e x y ≡ true → TwoSidedInverse e x y
  unfolding is_inverse
  inverse-passes e x y h t =
      let (right, left) = and_both (eqb (x · y) e) (eqb (y · x) e) t in
      record { below = h; right = eqb-true _ _ right; left = eqb-true _ _ left }

  -- what is found below n is an inverse
  pub found-inverse : (e x : ℕ) → inverse_of n ◌·◌ e x < n → TwoSidedInverse e x (inverse_of n ◌·◌ e x)
  unfolding inverse_of
  found-inverse e x h = inverse-passes e x _ h (first-passing (λ y. is_inverse ◌·◌ e x y) n h).passes

  -- an element with an inverse has one that is found
  pub inverse-found : (e x y : ℕ) → TwoSidedInverse e x y → inverse_of n ◌·◌ e x < n
  unfolding inverse_of
  inverse-found e x y I = (first-least (λ y. is_inverse ◌·◌ e x y) n y I.below (passes-inverse e x y I)).below

  -- associativity
  pub passes-associative : ((x y z : ℕ) → x < n → y < n → z < n → x · y · z ≡ x · (y · z)) → associates n ◌·◌ ≡ true
  unfolding associates associates_at
  passes-associative f = passes-every _ n (λ x h. passes-every _ n (λ y k. passes-every _ n (λ z l. eq-eqb _ _ (f x y z h k l))))

  -- a product that passes the test is associative
  pub associative-passes : associates n ◌·◌ ≡ true → (x y z : ℕ) → x < n → y < n → z < n → x · y · z ≡ x · (y · z)
  unfolding associates associates_at
  associative-passes t x y z h k l = eqb-true _ _ (every-passes _ n (every-passes _ n (every-passes _ n t x h) y k) z l)

  -- an identity, inverses and associativity make a group
  pub group-made : ((x y : ℕ) → x < n → y < n → x · y < n) → (e : ℕ) → TwoSidedIdentity e → has_inverses n ◌·◌ e ≡ true → associates n ◌·◌ ≡ true
      → Group n ◌·◌ e
  unfolding has_inverses
  group-made closed e I inverses assoc = record {
    product-below = closed;
    identity-below = I.below;
    left_identity = I.left;
    right_identity = I.right;
    inverse = λ x h. let J = found-inverse e x (ltb-true _ _ (every-passes _ n inverses x h)) in (inverse_of n ◌·◌ e x, J.below, J.right, J.left);
    associative = associative-passes assoc;
  }

  module _ (e : ℕ) (G : Group n ◌·◌ e) where
    -- a group's identity is two-sided
    pub group-identity : TwoSidedIdentity e
    group-identity = record { below = G.identity-below; left = G.left_identity; right = G.right_identity }

    -- each element of a group has an inverse that is found
    pub group-inverse : (x : ℕ) → x < n → TwoSidedInverse e x (inverse_of n ◌·◌ e x)
    group-inverse x h =
        let (y, k, right, left) = G.inverse x h in
        found-inverse e x (inverse-found e x y (record { below = k; right = right; left = left }))

    -- so all do
    pub group-inverses : has_inverses n ◌·◌ e ≡ true
    unfolding has_inverses
    group-inverses = passes-every _ n (λ x h. lt-ltb _ _ (group-inverse x h).below)
