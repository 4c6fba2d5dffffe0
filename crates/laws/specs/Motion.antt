-- Motions (R, t) with the product (R,t)(S,u) = (RS, Ru + t), for any monoid that acts on any monoid, and the motions of space:
-- R a 3×3 integer matrix, t an integer vector.
use Rattle.std.specs.Prelude.{◌≡◌}
use Rattle.std.proofs.Math.IntN.{one}
use Rattle.laws.specs.Integer.{ring, nought}
use Rattle.laws.specs.Matrix.{Matrix, Vector, times, act, plus, unit, origin, times-assoc, unit-times, times-unit, act-times, act-unit, act-plus, act-origin, plus_assoc, origin-plus, plus-origin}

pub record Motion (R W : Type 0) : Type 0 where
  pub rotation : R
  pub translation : W

module _ {R W : Type 0} (◌·◌ : R → R → R) (◌⊕◌ : W → W → W) (◌▹◌ : R → W → W) where
  infixl 70 ◌·◌
  infixl 60 ◌⊕◌
  infixr 80 ◌▹◌
  -- Rotations with unit e are a monoid, translations with zero o are one, and rotations act on translations and keep their sums.
  pub record Acts (e : R) (o : W) : Type 0 where
    pub mul_assoc : (a b c : R) → a · b · c ≡ a · (b · c)
    pub mul-idl : (a : R) → e · a ≡ a
    pub mul-idr : (a : R) → a · e ≡ a
    pub add_assoc : (u v w : W) → u ⊕ v ⊕ w ≡ u ⊕ (v ⊕ w)
    pub add-idl : (v : W) → o ⊕ v ≡ v
    pub add-idr : (v : W) → v ⊕ o ≡ v
    pub act-mul : (a b : R) (v : W) → (a · b) ▹ v ≡ a ▹ b ▹ v
    pub act-one : (v : W) → e ▹ v ≡ v
    pub act-add : (a : R) (v w : W) → a ▹ (v ⊕ w) ≡ a ▹ v ⊕ a ▹ w
    pub act-zero : (a : R) → a ▹ o ≡ o

  unfoldable pub product : Motion R W → Motion R W → Motion R W
  product f g = record { rotation = f.rotation · g.rotation; translation = f.rotation ▹ g.translation ⊕ f.translation }

  -- Motions are a monoid.
  module _ (e : R) (o : W) (A : Acts e o) where
    pub product-assoc : (f g h : Motion R W) → product (product f g) h ≡ product f (product g h)
    unfolding product
    product-assoc f g h = simp (A.mul_assoc, A.act-mul, A.act-add, A.add_assoc)

    pub product-idl : (f : Motion R W) → product (record { rotation = e; translation = o }) f ≡ f
    unfolding product
    product-idl f = simp (A.mul-idl, A.act-one, A.add-idr)

    pub product-idr : (f : Motion R W) → product f (record { rotation = e; translation = o }) ≡ f
    unfolding product
    product-idr f = simp (A.mul-idr, A.act-zero, A.add-idl)

-- ---- the motions of space
abbrev pub SpaceMotion : Type 0
SpaceMotion = Motion Matrix Vector

pub matrices-act : Acts times plus act unit origin
matrices-act =
    record {
      mul_assoc = times-assoc;
      mul-idl = unit-times;
      mul-idr = times-unit;
      add_assoc = plus_assoc;
      add-idl = origin-plus;
      add-idr = plus-origin;
      act-mul = act-times;
      act-one = act-unit;
      act-add = act-plus;
      act-zero = act-origin;
    }

-- (R,t)(S,u) = (RS, Ru + t)
abbrev pub compose : SpaceMotion → SpaceMotion → SpaceMotion
compose = product times plus act

abbrev pub identity : SpaceMotion
identity = record { rotation = unit; translation = origin }

pub compose-assoc : (f g h : SpaceMotion) → compose (compose f g) h ≡ compose f (compose g h)
compose-assoc = product-assoc times plus act unit origin matrices-act

pub identity-compose : (f : SpaceMotion) → compose identity f ≡ f
identity-compose = product-idl times plus act unit origin matrices-act

pub compose-identity : (f : SpaceMotion) → compose f identity ≡ f
compose-identity = product-idr times plus act unit origin matrices-act

-- The translation by a vector.
abbrev pub translation_by : Vector → SpaceMotion
translation_by v = record { rotation = unit; translation = v }

-- ---- what a motion does to a point
-- Rv + t: the point is turned, then moved by the translation.
unfoldable pub image : SpaceMotion → Vector → Vector
image f v = plus (act f.rotation v) f.translation

-- The right factor moves first: (fg)(v) = f(g(v)). The opposite product does not.
pub image-compose : (f g : SpaceMotion) (v : Vector) → image (compose f g) v ≡ image f (image g v)
unfolding image product
image-compose f g v = simp (act-times, act-plus, plus_assoc)

pub image-identity : (v : Vector) → image identity v ≡ v
unfolding image
image-identity v = simp (act-unit, plus-origin)

-- The origin goes to the translation, and the ends of the three axes go to the columns of the matrix, moved by it.
pub image-origin : (f : SpaceMotion) → image f origin ≡ f.translation
unfolding image
image-origin f = simp (act-origin, origin-plus)

pub image-x : (f : SpaceMotion) → image f (record { x = one; y = nought; z = nought })
    ≡ plus (record { x = f.rotation.xx; y = f.rotation.yx; z = f.rotation.zx }) f.translation
unfolding image act plus
image-x f = simp ring

pub image-y : (f : SpaceMotion) → image f (record { x = nought; y = one; z = nought })
    ≡ plus (record { x = f.rotation.xy; y = f.rotation.yy; z = f.rotation.zy }) f.translation
unfolding image act plus
image-y f = simp ring

pub image-z : (f : SpaceMotion) → image f (record { x = nought; y = nought; z = one })
    ≡ plus (record { x = f.rotation.xz; y = f.rotation.yz; z = f.rotation.zz }) f.translation
unfolding image act plus
image-z f = simp ring
