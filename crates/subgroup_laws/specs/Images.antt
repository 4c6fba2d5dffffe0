-- The image of a set under a map: its members, that it is the only set with them, and that it has no more members than the set.
use Rattle.std.specs.Prelude.{◌≡◌, refl, true, ℕ, ◌^◌, ◌<◌, ◌≤◌, T, eqb}
use Rattle.std.proofs.Common.{sym, ◌∙◌, subst, arith, eqb→eq}
use mathlib.Core.List.Memᴰ.{cast as mem-cast}
use mathlib.Core.List.Memᴰ.{map as mem-map}
use mathlib.Core.List.{List, map, Memᴰ as Mem}
use Rattle.std.specs.Int.Count.{ones}
use Rattle.std.proofs.lemmas.List.{length-map}
use borrow.Author.Tests.{eq-eqb, eqb-true}
use Rattle.laws.specs.Distinct.{has, Distinct, nil, cons, eqb-equivalence, has-member, Mem→has, pigeonhole}
use Rattle.laws.specs.Sets.{member, member_below, set_of-below, member-set_of, members, member-listed, listed-member, members-sorted, ones-members, subset-antisymmetric}
use Rattle.laws.specs.Sorted.{Sorted, sorted-nil, sorted-cons, StrictOrder, key-strict}
use Rattle.laws.specs.Truth.{both-and, and_both}
use Rattle.subgroup_laws.specs.Bounded.{passes-some, some-passes}
use Rattle.subgroup_laws.specs.Subsets.{image_of}

-- a strictly sorted list of numbers is without repeats
pub sorted-distinct : (Before : ℕ → ℕ → Type 0) → StrictOrder Before → {l : List ℕ} → Sorted Before l → Distinct eqb l
sorted-distinct Before order sorted-nil = nil
sorted-distinct Before order (sorted-cons {x} {l} f s) = cons
    (λ t. let (y, m, p) = has-member eqb x l t in order.irreflexive x (subst (λ z. Before x z) (sym (eqb→eq x y p)) (f y m)))
    (sorted-distinct Before order s)

module _ (n : ℕ) (f : ℕ → ℕ) (s : ℕ) where
  -- the image is a set of numbers below n
  pub image-below : image_of n f s < 2 ^ n
  unfolding image_of
  image-below = set_of-below n _

  -- it holds the values
  pub image_holds : (x : ℕ) → x < n → f x < n → member s x ≡ true → member (image_of n f s) (f x) ≡ true
  unfolding image_of
  image_holds x h k i = member-set_of n _ (f x) k ∙ passes-some _ n x h (both-and _ _ i (eq-eqb (f x) (f x) refl))

  -- and nothing else
  pub image-source : (y : ℕ) → member (image_of n f s) y ≡ true → (x : ℕ) × (x < n) × (member s x ≡ true) × (f x ≡ y)
  unfolding image_of
  image-source y i =
      let h = member_below n _ y (set_of-below n _) i in
      let (x, k, t) = some-passes _ n (sym (member-set_of n _ y h) ∙ i) in
      let (j, p) = and_both (member s x) (eqb (f x) y) t in
      (x, k, j, eqb-true _ _ p)

  -- it is the only such set
  pub image-unique : (c : ℕ) → c < 2 ^ n → s < 2 ^ n → ((x : ℕ) → member s x ≡ true → member c (f x) ≡ true)
      → ((y : ℕ) → member c y ≡ true → (x : ℕ) × (member s x ≡ true) × (f x ≡ y)) → c ≡ image_of n f s
  image-unique c small inside into from = subset-antisymmetric c (image_of n f s)
      (λ y i. let (x, j, p) = from y i in
      rw (← p) (image_holds x (member_below n s x inside j) (member_below n c (f x) small (into x j)) j))
      (λ y i. let (x, k, j, p) = image-source y i in rw (← p) (into x j))

  -- an image has no more members
  pub image-ones : s < 2 ^ n → ones (image_of n f s) ≤ ones s
  image-ones h =
      omega (
        arith,
        ones-members n (image_of n f s) image-below,
        ones-members n s h,
        length-map (members n s) f,
        pigeonhole eqb eqb-equivalence (sorted-distinct ◌<◌ (key-strict (λ (i : ℕ). i)) (members-sorted n (image_of n f s))) (map f (members n s)) inside,
      )
    where
      inside : (y : ℕ) → Mem y (members n (image_of n f s)) → T (has eqb y (map f (members n s)))
      inside y m =
          let (x, k, j, p) = image-source y (listed-member n (image_of n f s) y m).1 in
          Mem→has eqb eqb-equivalence (mem-cast (sym p) (mem-map f (member-listed n s x k j)))
