-- The right coset as the loop makes it, without the identity in front, is the right coset.
use Rattle.std.specs.Prelude.{◌≡◌, ℕ, ◌^◌, ◌<◌}
use Rattle.std.proofs.Common.{ap, ◌∙◌}
use Rattle.laws.specs.Sets.{member_below}
use Rattle.subgroup_laws.specs.Cosets.{coset_of}
use Rattle.subgroup_laws.specs.Groups.{Group}
use Rattle.subgroup_laws.specs.Images.{image-below, image_holds, image-source, image-unique}
use Rattle.subgroup_laws.specs.Subsets.{image_of}

module _ (n : ℕ) (◌·◌ : ℕ → ℕ → ℕ) (e : ℕ) (G : Group n ◌·◌ e) (s p : ℕ) where
  infixl 70 ◌·◌
  -- e x p is x p
  pub coset-plain : s < 2 ^ n → p < n → image_of n (λ (x : ℕ). x · p) s ≡ coset_of n ◌·◌ e s p
  coset-plain small l =
      image-unique n (λ (x : ℕ). e · x · p) s (image_of n (λ (x : ℕ). x · p) s) (image-below n (λ (x : ℕ). x · p) s) small
      (λ x i.
      let k = member_below n s x small i in
      rw (G.left_identity x k) (image_holds n (λ (x : ℕ). x · p) s x k (G.product-below x p k l) i))
      (λ y i.
      let (x, k, j, q) = image-source n (λ (x : ℕ). x · p) s y i in
      (x, j, ap (λ (w : ℕ). w · p) (G.left_identity x k) ∙ q))
