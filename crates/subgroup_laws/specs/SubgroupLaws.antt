-- A set of elements that holds the identity and products is a subgroup: inverses follow. The test of a subgroup says exactly that.
use Rattle.std.specs.Prelude.{◌≡◌, true, ℕ, zero, suc, ◌^◌, ◌<◌, eqb, ltb}
use mathlib.Core.List.Memᴰ.{head as here}
use mathlib.Core.List.Memᴰ.{tail as there}
use mathlib.Core.List.{List, [], ◌∷◌, Memᴰ as Mem}
use Rattle.std.proofs.Math.Decide.{ℕ_discrete}
use Rattle.std.proofs.Common.{arith, eqb→eq}
use borrow.Author.Tests.{lt-ltb, ltb-true}
use Rattle.laws.specs.Distinct.{Distinct, nil, cons, eqb-decides, has-member}
use Rattle.laws.specs.FiniteGroup.{Group as ListedGroup, closed-inverse}
use Rattle.laws.specs.Sets.{member, member_below}
use Rattle.laws.specs.Truth.{and_both, both-and, asked-passes, passes-asked}
use Rattle.subgroup_laws.specs.Bounded.{every-passes, passes-every}
use Rattle.subgroup_laws.specs.Groups.{Group}
use Rattle.subgroup_laws.specs.Subsets.{Subgroup, holds_row, is_subgroup}

-- ---- the elements as a list

-- the numbers below n
unfoldable pub below : ℕ → List ℕ
below zero = []
below (suc n) = n ∷ below n

-- the list has the numbers below n
pub below-member : (n x : ℕ) → x < n → Mem x (below n)
unfolding below
below-member zero x h = absurd (omega arith)
below-member (suc n) x h = elim (ℕ_discrete x n) [ yes p ↦ here p | no q ↦ there (below-member n x (omega arith)) ]

-- and no others
pub member-below-list : (n x : ℕ) → Mem x (below n) → x < n
unfolding below
member-below-list (suc n) x (here p) = omega arith
member-below-list (suc n) x (there m) = let h = member-below-list n x m in omega arith
member-below-list zero x x3 = elim x3 [ ]

-- each once
pub below-distinct : (n : ℕ) → Distinct eqb (below n)
unfolding below
below-distinct zero = nil
below-distinct (suc n) = cons
    (λ t. let (y, m, s) = has-member eqb n (below n) t in let h = member-below-list n y m in let e = eqb→eq n y s in omega arith)
    (below-distinct n)

module _ (n : ℕ) (◌·◌ : ℕ → ℕ → ℕ) (e : ℕ) (G : Group n ◌·◌ e) where
  infixl 70 ◌·◌
  -- the group as a list of its elements
  pub listed-group : ListedGroup eqb ◌·◌ e (below n)
  listed-group = record {
    distinct = below-distinct n;
    holds-unit = below-member n e G.identity-below;
    product = λ x y m k. below-member n _ (G.product-below x y (member-below-list n x m) (member-below-list n y k));
    associative = λ x y z m k l. G.associative x y z (member-below-list n x m) (member-below-list n y k) (member-below-list n z l);
    left-unit = λ x m. G.left_identity x (member-below-list n x m);
    right-unit = λ x m. G.right_identity x (member-below-list n x m);
    inverse = λ x m. let (y, h, right, left) = G.inverse x (member-below-list n x m) in (y, below-member n y h, left, right);
  }

  -- a set that holds the identity and products holds inverses
  pub closed-set : (s : ℕ) → s < 2 ^ n → member s e ≡ true
      → ((x y : ℕ) → member s x ≡ true → member s y ≡ true → member s (x · y) ≡ true) → Subgroup n ◌·◌ e s
  closed-set s small unit closed = record {
    small = small;
    holds-identity = unit;
    holds-products = closed;
    holds-inverses = λ x y h p i.
        closed-inverse eqb eqb-decides ◌·◌ e listed-group (λ x. member s x ≡ true) (λ x y m k. closed x y) x y
        (below-member n x (member_below n s x small i))
        (below-member n y h) p i;
  }

  -- what passes the test is a subgroup
  pub test-subgroup : (s : ℕ) → is_subgroup n ◌·◌ e s ≡ true → Subgroup n ◌·◌ e s
  unfolding is_subgroup holds_row
  test-subgroup s t =
      let (small, rest) = and_both (ltb s (2 ^ n)) _ t in
      let (unit, rows) = and_both (member s e) _ rest in
      let l : s < 2 ^ n = ltb-true _ _ small in
      closed-set s l unit
      (λ x y i j. asked-passes j (every-passes _ n (asked-passes i (every-passes _ n rows x (member_below n s x l i))) y (member_below n s y l j)))

  -- a subgroup passes it
  pub subgroup-test : (s : ℕ) → Subgroup n ◌·◌ e s → is_subgroup n ◌·◌ e s ≡ true
  unfolding is_subgroup holds_row
  subgroup-test s S = both-and _ _ (lt-ltb _ _ S.small) (both-and _ _ S.holds-identity
      (passes-every _ n (λ x h. passes-asked (member s x) (λ i. passes-every _ n (λ y k. passes-asked (member s y) (λ j. S.holds-products x y i j))))))
