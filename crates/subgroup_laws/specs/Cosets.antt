-- The right cosets s p of a subgroup, as the code makes them. All elements of one coset conjugate the subgroup to the same set.
use Rattle.std.specs.Prelude.{◌≡◌, true, ℕ, ◌^◌, ◌<◌}
use Rattle.std.proofs.Common.{sym, ap, ◌∙◌, arith}
use Rattle.std.proofs.Math.Decide.{ℕ_discrete}
use Rattle.laws.specs.Sets.{member, member_below, Subset, ones-proper}
use Rattle.subgroup_laws.specs.Conjugation.{conjugate-source, conjugate-set-twice, conjugate-ones, inverse-below, inverse_left}
use Rattle.subgroup_laws.specs.Groups.{Group, inverse_of}
use Rattle.subgroup_laws.specs.Images.{image-below, image_holds, image-source}
use Rattle.subgroup_laws.specs.Subsets.{Subgroup, image_of, conjugate_element, conjugate_of}

-- the right coset s p
abbrev pub coset_of : ℕ → (ℕ → ℕ → ℕ) → ℕ → ℕ → ℕ → ℕ
coset_of n times e s p = image_of n (λ x. times (times e x) p) s

module _ (n : ℕ) (◌·◌ : ℕ → ℕ → ℕ) (e : ℕ) (G : Group n ◌·◌ e) (s : ℕ) (S : Subgroup n ◌·◌ e s) where
  infixl 70 ◌·◌
  -- it is a set of elements
  pub coset-below : (p : ℕ) → coset_of n ◌·◌ e s p < 2 ^ n
  coset-below p = image-below n (λ x. e · x · p) s

  module _ (p : ℕ) (l : p < n) where
    -- its members are those of s times p
    pub coset-source : (y : ℕ) → member (coset_of n ◌·◌ e s p) y ≡ true → (b : ℕ) × (b < n) × (member s b ≡ true) × (y ≡ b · p)
    coset-source y i =
        let (b, k, j, q) = image-source n (λ x. e · x · p) s y i in
        (b, k, j, sym q ∙ ap (λ w. w · p) (G.left_identity b k))

    -- and each member of s times p is one
    pub coset-holds : (b : ℕ) → member s b ≡ true → member (coset_of n ◌·◌ e s p) (b · p) ≡ true
    coset-holds b i =
        let k = member_below n s b S.small i in
        let m : e · b · p ≡ b · p = ap (λ w. w · p) (G.left_identity b k) in
        rw m at (image_holds n (λ x. e · x · p) s b k (rw m (G.product-below b p k l)) i)

    -- p itself is one
    pub coset-new : member (coset_of n ◌·◌ e s p) p ≡ true
    coset-new = rw (G.left_identity p l) at (coset-holds e S.holds-identity)

  -- a member conjugates the subgroup to itself
  pub conjugate-by-member : (b : ℕ) → member s b ≡ true → conjugate_of n ◌·◌ e s b ≡ s
  unfolding conjugate_element
  conjugate-by-member b i =
      let l = member_below n s b S.small i in
      let inverse = S.holds-inverses b (inverse_of n ◌·◌ e b) (inverse-below n ◌·◌ e G b l) (inverse_left n ◌·◌ e G b l) i in
      let inside : Subset (conjugate_of n ◌·◌ e s b) s = λ y j.
      let (x, k, m, q) = conjugate-source n ◌·◌ e G s b y j in
      rw (← q) (S.holds-products _ b (S.holds-products _ x inverse m) i) in
      elim (ℕ_discrete (conjugate_of n ◌·◌ e s b) s) [
        | yes q ↦ q
        | no q ↦ absurd (omega (arith, ones-proper _ s inside q, conjugate-ones n ◌·◌ e G s b S.small l))
      ]

  -- so the elements of a coset conjugate it to the same set
  pub conjugate-by-coset : (p y : ℕ) → p < n → member (coset_of n ◌·◌ e s p) y ≡ true → conjugate_of n ◌·◌ e s y ≡ conjugate_of n ◌·◌ e s p
  conjugate-by-coset p y l i =
      let (b, k, j, q) = coset-source p l y i in
      ap (conjugate_of n ◌·◌ e s) q ∙ sym (conjugate-set-twice n ◌·◌ e G s b p S.small k l)
      ∙ ap (λ (z : ℕ). conjugate_of n ◌·◌ e z p) (conjugate-by-member b j)
