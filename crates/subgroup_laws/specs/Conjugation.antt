-- Conjugation: g⁻¹ x g is the one z with g z = x g. So conjugation by g and then by h is conjugation by g h, by the identity it changes
-- nothing, and conjugates of subgroups are subgroups.
use Rattle.std.specs.Prelude.{◌≡◌, true, ℕ, ◌^◌, ◌<◌, eqb}
use Rattle.std.proofs.Math.Path.{sym, ap}
use Rattle.std.proofs.Common.{◌∙◌}
use native.Mathlib.Omega.{arith}
use Rattle.std.specs.Int.Count.{ones}
use Rattle.laws.specs.FiniteGroup.{cancel_left, inverse-product, inverse-unique}
use Rattle.laws.specs.Sets.{member, member_below, Subset, subset-antisymmetric}
use Rattle.subgroup_laws.specs.GroupLaws.{group-inverse}
use Rattle.subgroup_laws.specs.Groups.{Group, inverse_of}
use Rattle.subgroup_laws.specs.Images.{image-below, image_holds, image-source, image-ones}
use Rattle.subgroup_laws.specs.SubgroupLaws.{below-member, listed-group, closed-set}
use Rattle.subgroup_laws.specs.Subsets.{Subgroup, conjugate_element, conjugate_of}

module _ (n : ℕ) (◌·◌ : ℕ → ℕ → ℕ) (e : ℕ) (G : Group n ◌·◌ e) where
  infixl 70 ◌·◌
  -- ---- elements

  -- the inverse
  abbrev inv : ℕ → ℕ
  inv g = inverse_of n ◌·◌ e g

  -- the conjugate of an element
  abbrev conj : ℕ → ℕ → ℕ
  conj x g = conjugate_element n ◌·◌ e x g

  -- an inverse is an element
  pub inverse-below : (g : ℕ) → g < n → inv g < n
  inverse-below g h = (group-inverse n ◌·◌ e G g h).below

  -- it is an inverse from the left
  pub inverse_left : (g : ℕ) → g < n → inv g · g ≡ e
  inverse_left g h = (group-inverse n ◌·◌ e G g h).left

  -- and from the right
  pub inverse-right : (g : ℕ) → g < n → g · inv g ≡ e
  inverse-right g h = (group-inverse n ◌·◌ e G g h).right

  -- the inverse of a product is the product of the inverses, the factors the other way round
  pub inverse-of-product : (a b : ℕ) → a < n → b < n → inv (a · b) ≡ inv b · inv a
  inverse-of-product a b h k =
      let L = listed-group n ◌·◌ e G in
      let i = inverse-below a h in
      let j = inverse-below b k in
      let p = G.product-below a b h k in
      inverse-unique eqb ◌·◌ e L (a · b) _ _ (below-member n _ p) (below-member n _ (inverse-below (a · b) p)) (below-member n _ (G.product-below _ _ j i))
      (inverse_left (a · b) p)
      (inverse-product eqb ◌·◌ e L a b (inv a) (inv b) (below-member n a h) (below-member n b k) (below-member n _ i) (below-member n _ j)
      (inverse_left a h) (inverse_left b k))

  -- factors cancel
  pub left-cancel : (x a b : ℕ) → x < n → a < n → b < n → x · a ≡ x · b → a ≡ b
  left-cancel x a b h k l p = cancel_left eqb ◌·◌ e (listed-group n ◌·◌ e G) x a b (below-member n x h) (below-member n a k) (below-member n b l) p

  -- a conjugate of an element is an element
  pub conjugate-element-below : (x g : ℕ) → x < n → g < n → conj x g < n
  unfolding conjugate_element
  conjugate-element-below x g h k = G.product-below _ g (G.product-below _ x (inverse-below g k) h) k

  -- g (g⁻¹ x g) = x g
  pub conjugate-rule : (x g : ℕ) → x < n → g < n → g · conj x g ≡ x · g
  unfolding conjugate_element
  conjugate-rule x g h k =
      let i = inverse-below g k in
      sym (G.associative g (inv g · x) g k (G.product-below _ x i h) k)
      ∙ ap (λ w. w · g) (sym (G.associative g (inv g) x k i h) ∙ ap (λ w. w · x) (inverse-right g k) ∙ G.left_identity x h)

  -- the conjugate is the one element of which this holds
  pub conjugate-unique : (x g z : ℕ) → x < n → g < n → z < n → g · z ≡ x · g → conj x g ≡ z
  conjugate-unique x g z h k l p = left-cancel g (conj x g) z k (conjugate-element-below x g h k) l (conjugate-rule x g h k ∙ sym p)

  -- the identity conjugates each element to itself
  pub conjugate-by-identity : (x : ℕ) → x < n → conj x e ≡ x
  conjugate-by-identity x h =
      conjugate-unique x e x h G.identity-below h (G.left_identity x h ∙ sym (G.right_identity x h))

  -- each element conjugates the identity to itself
  pub conjugate-of-identity : (g : ℕ) → g < n → conj e g ≡ e
  conjugate-of-identity g h =
      conjugate-unique e g e G.identity-below h G.identity-below (G.right_identity g h ∙ sym (G.left_identity g h))

  -- the conjugate of a product is the product of the conjugates
  pub conjugate-product : (x y g : ℕ) → x < n → y < n → g < n → conj (x · y) g ≡ conj x g · conj y g
  conjugate-product x y g h k l =
      let a = conjugate-element-below x g h l in
      let b = conjugate-element-below y g k l in
      conjugate-unique (x · y) g _ (G.product-below x y h k) l (G.product-below _ _ a b)
      (sym (G.associative g _ _ l a b) ∙ ap (λ w. w · conj y g) (conjugate-rule x g h l) ∙ G.associative x g _ h l b
      ∙ ap (λ w. x · w) (conjugate-rule y g k l) ∙ sym (G.associative x y g h k l))

  -- conjugation by g and then by f is conjugation by g f
  pub conjugate-twice : (x g f : ℕ) → x < n → g < n → f < n → conj (conj x g) f ≡ conj x (g · f)
  conjugate-twice x g f h k l =
      let a = conjugate-element-below x g h k in
      let b = conjugate-element-below _ f a l in
      sym (conjugate-unique x (g · f) _ h (G.product-below g f k l) b
      (G.associative g f _ k l b ∙ ap (λ w. g · w) (conjugate-rule (conj x g) f a l) ∙ sym (G.associative g _ f k a l)
      ∙ ap (λ w. w · f) (conjugate-rule x g h k) ∙ G.associative x g f h k l))

  -- g⁻¹ and then g, or g and then g⁻¹, change nothing
  pub conjugate-back : (x g : ℕ) → x < n → g < n → conj (conj x g) (inv g) ≡ x
  conjugate-back x g h k = conjugate-twice x g (inv g) h k (inverse-below g k) ∙ ap (conj x) (inverse-right g k) ∙ conjugate-by-identity x h

  -- the other way round
  pub conjugate-forth : (x g : ℕ) → x < n → g < n → conj (conj x (inv g)) g ≡ x
  conjugate-forth x g h k = conjugate-twice x (inv g) g h (inverse-below g k) k ∙ ap (conj x) (inverse_left g k) ∙ conjugate-by-identity x h

  -- ---- sets

  -- the conjugate of a set
  abbrev set_conj : ℕ → ℕ → ℕ
  set_conj s g = conjugate_of n ◌·◌ e s g

  -- it is a set of elements
  pub conjugate-below : (s g : ℕ) → set_conj s g < 2 ^ n
  unfolding conjugate_of
  conjugate-below s g = image-below n (λ x. conj x g) s

  -- it holds the conjugates of the members
  pub conjugate-holds : (s g x : ℕ) → s < 2 ^ n → g < n → member s x ≡ true → member (set_conj s g) (conj x g) ≡ true
  unfolding conjugate_of
  conjugate-holds s g x small h i =
      let k = member_below n s x small i in
      image_holds n (λ x. conj x g) s x k (conjugate-element-below x g k h) i

  -- and no others
  pub conjugate-source : (s g y : ℕ) → member (set_conj s g) y ≡ true → (x : ℕ) × (x < n) × (member s x ≡ true) × (conj x g ≡ y)
  unfolding conjugate_of
  conjugate-source s g y i = image-source n (λ x. conj x g) s y i

  -- conjugation keeps inclusions
  pub conjugate-subset : (s t g : ℕ) → t < 2 ^ n → g < n → Subset s t → Subset (set_conj s g) (set_conj t g)
  conjugate-subset s t g small h f y i =
      let (x, k, j, p) = conjugate-source s g y i in
      rw (← p) (conjugate-holds t g x small h (f x j))

  -- conjugation of sets by g and then by f is conjugation by g f
  pub conjugate-set-twice : (s g f : ℕ) → s < 2 ^ n → g < n → f < n → set_conj (set_conj s g) f ≡ set_conj s (g · f)
  conjugate-set-twice s g f small h k = subset-antisymmetric _ _
      (λ z i.
      let (y, a, j, p) = conjugate-source (set_conj s g) f z i in
      let (x, b, l, q) = conjugate-source s g y j in
      rw (← p, ← q, conjugate-twice x g f b h k) (conjugate-holds s (g · f) x small (G.product-below g f h k) l))
      (λ z i.
      let (x, b, l, q) = conjugate-source s (g · f) z i in
      rw (← q, ← conjugate-twice x g f b h k) (conjugate-holds (set_conj s g) f _ (conjugate-below s g) k (conjugate-holds s g x small h l)))

  -- the identity conjugates each set to itself
  pub conjugate-set-by-identity : (s : ℕ) → s < 2 ^ n → set_conj s e ≡ s
  conjugate-set-by-identity s small = subset-antisymmetric _ _
      (λ z i. let (x, b, l, q) = conjugate-source s e z i in rw (← q, conjugate-by-identity x b) l)
      (λ z i. rw (conjugate-by-identity z (member_below n s z small i)) at (conjugate-holds s e z small G.identity-below i))

  -- conjugation by g and then by its inverse changes no set
  pub conjugate-set-back : (s g : ℕ) → s < 2 ^ n → g < n → set_conj (set_conj s g) (inv g) ≡ s
  conjugate-set-back s g small h =
      conjugate-set-twice s g (inv g) small h (inverse-below g h) ∙ ap (set_conj s) (inverse-right g h) ∙ conjugate-set-by-identity s small

  -- nor does it the other way round
  pub conjugate-set-forth : (s g : ℕ) → s < 2 ^ n → g < n → set_conj (set_conj s (inv g)) g ≡ s
  conjugate-set-forth s g small h =
      conjugate-set-twice s (inv g) g small (inverse-below g h) h ∙ ap (set_conj s) (inverse_left g h) ∙ conjugate-set-by-identity s small

  -- a conjugate has as many members
  pub conjugate-ones : (s g : ℕ) → s < 2 ^ n → g < n → ones (set_conj s g) ≡ ones s
  unfolding conjugate_of
  conjugate-ones s g small h =
      let a = image-ones n (λ x. conj x g) s small in
      let b = image-ones n (λ x. conj x (inv g)) (set_conj s g) (conjugate-below s g) in
      let c = ap ones (conjugate-set-back s g small h) in
      omega arith

  -- a conjugate of a subgroup is a subgroup
  pub conjugate-subgroup : (s g : ℕ) → g < n → Subgroup n ◌·◌ e s → Subgroup n ◌·◌ e (set_conj s g)
  conjugate-subgroup s g h S = closed-set n ◌·◌ e G (set_conj s g) (conjugate-below s g)
      (rw (conjugate-of-identity g h) at (conjugate-holds s g e S.small h S.holds-identity))
      (λ x y i j.
      let (a, k, p, q) = conjugate-source s g x i in
      let (b, l, u, v) = conjugate-source s g y j in
      rw (← q, ← v, ← conjugate-product a b g k l h) (conjugate-holds s g (a · b) S.small h (S.holds-products a b p u)))
