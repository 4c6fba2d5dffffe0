-- Motions of space modulo a lattice: those whose rotation maps the lattice onto itself are a monoid with the rotation as key, in
-- which motions with one rotation and translations in one class are alike. So the laws of Keyed hold of them.
use Rattle.std.specs.Prelude.{◌≡◌, refl, ◌⊎◌, ◌↔◌, List, ℤ, neg_ℤ, ◌*ℤ◌}
use Rattle.std.proofs.Common.{sym, ◌∙◌, inl, inr}
use Rattle.std.proofs.Math.Path.{ap}
use Rattle.std.proofs.Math.IntN.{one}
use Rattle.laws.specs.Integer.{ring, ◌⊖◌, nought}
use Rattle.laws.specs.Matrix.{Matrix, Vector, times, act, plus, opposite, unit, origin, determinant, Unimodular, inverse, times-assoc, times-unit, times-inverse, act-times, act-unit, act-plus, act-opposite, plus_comm, plus-origin, plus-opposite, determinant-times}
use Rattle.laws.specs.Motion.{SpaceMotion, product, compose, identity, compose-assoc, identity-compose, compose-identity}
use Rattle.laws.specs.Residue.{Triple}
use Rattle.laws.specs.Lattice.{Points, InLattice, Congruent, congruent-reflexive, congruent-symmetric, congruent-transitive}
use Rattle.laws.specs.LatticeMaps.{MapsOnto, into-onto, onto-unimodular}
use Rattle.laws.specs.Closure.{Monoid}
use Rattle.laws.specs.Keyed.{KeyedMonoid}
use Rattle.laws.specs.SameMatrix.{same_rotation, same-rotation, rotation-same, rotation-equivalence}

-- the rotation of a product
pub compose-rotation : (f g : SpaceMotion) → (compose f g).rotation ≡ times f.rotation g.rotation
unfolding product
compose-rotation f g = refl

-- ---- determinants

-- the determinant of the unit
unit-unimodular : Unimodular unit
unfolding determinant unit ◌⊖◌ one nought
unit-unimodular = inl refl

-- products of 1 and −1
signs : (a b : ℤ) → (a ≡ one) ⊎ (a ≡ neg_ℤ one) → (b ≡ one) ⊎ (b ≡ neg_ℤ one) → (a *ℤ b ≡ one) ⊎ (a *ℤ b ≡ neg_ℤ one)
signs a b (inl p) (inl q) = inl (rw (p, q) (simp ring))
signs a b (inl p) (inr q) = inr (rw (p, q) (simp ring))
signs a b (inr p) (inl q) = inr (rw (p, q) (simp ring))
signs a b (inr p) (inr q) = inl (rw (p, q) (simp ring))

-- a product of matrices of determinant 1 or −1 is one
product-unimodular : (A B : Matrix) → Unimodular A → Unimodular B → Unimodular (times A B)
product-unimodular A B h k = rw (determinant-times A B) (signs (determinant A) (determinant B) h k)

-- such a matrix cancels as a right factor
cancel-times : (A B C : Matrix) → Unimodular C → times A C ≡ times B C → A ≡ B
cancel-times A B C h p = sym (undone A) ∙ ap (λ M. times M (inverse C)) p ∙ undone B
  where
    undone : (M : Matrix) → times (times M C) (inverse C) ≡ M
    undone M = times-assoc M C (inverse C) ∙ ap (times M) (times-inverse C h) ∙ times-unit M

-- ---- differences of vectors

-- a difference of two sums with a summand in common, regrouped
regrouped : (a v w : Vector) → plus (plus a v) (opposite (plus a w)) ≡ plus (plus v (opposite w)) (plus a (opposite a))
unfolding plus opposite
regrouped a v w = simp ring

-- a summand that two vectors share drops out of their difference
common-left : (a v w : Vector) → plus (plus a v) (opposite (plus a w)) ≡ plus v (opposite w)
common-left a v w = regrouped a v w ∙ ap (plus (plus v (opposite w))) (plus-opposite a) ∙ plus-origin (plus v (opposite w))

-- the same of a summand behind
common-right : (v w a : Vector) → plus (plus v a) (opposite (plus w a)) ≡ plus v (opposite w)
common-right v w a = rw (plus_comm v a, plus_comm w a) (common-left a v w)

-- a difference from the origin
pub less-origin : (v : Vector) → plus v (opposite origin) ≡ v
unfolding plus opposite origin
less-origin v = simp ring

-- a difference of images is the image of the difference
image-difference : (A : Matrix) (v w : Vector) → plus (act A v) (opposite (act A w)) ≡ act A (plus v (opposite w))
image-difference A v w = rw (← (act-opposite A w)) (sym (act-plus A v (opposite w)))

-- ---- motions modulo a lattice

-- one rotation, and translations in one class
abbrev pub Alike : List Triple → SpaceMotion → SpaceMotion → Type 0
Alike l f g = (f.rotation ≡ g.rotation) × Congruent l f.translation g.translation

-- the rotation maps the lattice onto itself
abbrev pub Keeps : List Triple → SpaceMotion → Type 0
Keeps l f = MapsOnto l f.rotation

module _ (l : List Triple) (L : Points l) where
  -- the unit maps the lattice onto itself
  unit-onto : MapsOnto l unit
  unit-onto = into-onto l L unit unit-unimodular (λ v m. rw (act-unit v) m)

  -- so does a product of matrices that do
  product-onto : (A B : Matrix) → MapsOnto l A → MapsOnto l B → MapsOnto l (times A B)
  product-onto A B h k = into-onto l L (times A B)
      (product-unimodular A B (onto-unimodular l L A h) (onto-unimodular l L B k))
      (λ v m. rw (act-times A B v) (h.0 (act B v) (k.0 v m)))

  -- motions that keep the lattice are a monoid
  pub motions-monoid : Monoid (Keeps l) compose identity
  motions-monoid = record {
    ok-unit = unit-onto;
    ok-product = λ f g h k. rw (compose-rotation f g) (product-onto f.rotation g.rotation h k);
    associative = λ f g h _ _ _. compose-assoc f g h;
    left-unit = λ f _. identity-compose f;
    right-unit = λ f _. compose-identity f;
  }

  -- products of one motion with two alike ones
  alike-left : (g x y : SpaceMotion) → Keeps l g → Alike l x y → Alike l (compose g x) (compose g y)
  unfolding product
  alike-left g x y k (p, c) = (
    ap (times g.rotation) p,
    rw (
      common-right (act g.rotation x.translation) (act g.rotation y.translation) g.translation,
      image-difference g.rotation x.translation y.translation,
    ) (k.0 (plus x.translation (opposite y.translation)) c),
  )

  -- products of two alike motions with one
  alike_right : (x y g : SpaceMotion) → Alike l x y → Alike l (compose x g) (compose y g)
  unfolding product
  alike_right x y g (p, c) = (
    ap (λ A. times A g.rotation) p,
    rw (p, common-left (act y.rotation g.translation) x.translation y.translation) c,
  )

  -- the rotation is a key that multiplies and cancels, and to be alike is kept by products
  pub motions-keyed : KeyedMonoid same_rotation (Alike l) (Keeps l) compose identity
  unfolding product
  motions-keyed = record {
    monoid = motions-monoid;
    key-equivalence = rotation-equivalence;
    key_left = λ g x y _ _ _ t. rotation-same (compose g x) (compose g y) (ap (times g.rotation) (same-rotation x y t));
    key_right = λ x y g _ _ _ t. rotation-same (compose x g) (compose y g) (ap (λ A. times A g.rotation) (same-rotation x y t));
    key-cancel = λ x y g _ _ k t. rotation-same x y
        (cancel-times x.rotation y.rotation g.rotation (onto-unimodular l L g.rotation k) (same-rotation (compose x g) (compose y g) t));
    alike-reflexive = λ x. (refl, congruent-reflexive l L x.translation);
    alike-symmetric = λ x y (p, c). (sym p, congruent-symmetric l L x.translation y.translation c);
    alike-transitive = λ x y z (p, c) (q, d). (p ∙ q, congruent-transitive l L x.translation y.translation z.translation c d);
    alike-key = λ x y (p, c). rotation-same x y p;
    alike-left = λ g x y k _ _ h. alike-left g x y k h;
    alike_right = λ x y g _ _ _ h. alike_right x y g h;
  }

  -- a motion is alike to the identity exactly if it is a translation by a vector of the lattice
  pub alike-identity : (f : SpaceMotion) → Alike l f identity ↔ ((f.rotation ≡ unit) × InLattice l f.translation)
  alike-identity f = (
    (λ (p, c). (p, rw (less-origin f.translation) at c)),
    λ (p, m). (p, rw (less-origin f.translation) m),
  )
