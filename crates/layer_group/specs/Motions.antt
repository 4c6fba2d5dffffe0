-- The layer rules of motions: the test of digits decides them, they do not depend on the motion chosen modulo the lattice of P or C, and they say that planes
-- z = const go to such planes, lines along z to such lines, and no motion that keeps the sense of z moves along it but by whole cells.
use Rattle.std.specs.Prelude.{◌≡◌, ◌↔◌, Bool, ◌||◌, not, ℕ, ◌+◌, ◌%◌, ◌-◌, ◌<◌, ◌≤◌, eqb, ℤ, pos, neg_ℤ, ◌+ℤ◌, ◌*ℤ◌}
use Rattle.std.proofs.Math.Path.{refl, sym, ap, ap₂}
use Rattle.std.proofs.Common.{◌∙◌, inl, inr}
use Rattle.std.proofs.Math.Bool.{true, false}
use mathlib.Core.List.Memᴰ.{head as here}
use mathlib.Core.List.Memᴰ.{tail as there}
use mathlib.Core.List.{Memᴰ as Mem}
use native.Mathlib.Omega.{arith}
use Rattle.std.proofs.Math.IntN.{one, +ℤ_assoc, +ℤ_idr, +ℤ_invr}
use borrow.Author.Tests.{eqb-true, eqb-false, eq-eqb}
use Rattle.laws.specs.Integer.{nought, ring, one-*ℤ}
use Rattle.laws.specs.Matrix.{Vector, act, plus, opposite}
use Rattle.laws.specs.Motion.{SpaceMotion}
use Rattle.laws.specs.Residue.{residue, residue-add, residue-neg, residue-lt, Triple}
use Rattle.laws.specs.MotionsModulo.{Alike}
use Rattle.laws.specs.Truth.{and_both, clash}
use Rattle.operation.specs.Meaning.{entry_of, digit_of, digit_above, matrix_of, vector_of, motion_of, Digits}
use Rattle.operation.specs.Entries.{digit-again}
use Rattle.operation.specs.declared.Operation.{Operation}
use Rattle.centering.specs.Letters.{points_of}
use Rattle.centering.specs.declared.Centering.{Centering}
use Rattle.centering.specs.declared.Centering.TheVariants.{P, C}
use Rattle.layer_group.specs.Layers.{LayerMotion, is_layer}
use Rattle.layer_group.specs.Spelling.{OfLayer}

-- ---- digits
digit-nought : (d : ℕ) → d ≤ 2 → entry_of d ≡ nought → d ≡ 1
unfolding digit_of digit_above nought one
digit-nought d h e = sym (digit-again d (omega arith)) ∙ ap digit_of e

digit-one : (d : ℕ) → d ≤ 2 → entry_of d ≡ one → d ≡ 2
unfolding digit_of digit_above one
digit-one d h e = sym (digit-again d (omega arith)) ∙ ap digit_of e

nought-digit : (d : ℕ) → d ≡ 1 → entry_of d ≡ nought
unfolding entry_of one nought
nought-digit d e = rw e refl

-- The test of an operation of a group is the rule for its motion.
module _ (o : Operation) (digits : Digits o.rotation) (below : o.translation.z < 12) where
  last-test : (x y : Bool) → eqb o.rotation.zz 2 ≡ x → eqb o.translation.z 0 ≡ y → not x || y ≡ true → entry_of o.rotation.zz ≡ one
      → residue (pos o.translation.z) ≡ 0
  unfolding residue
  last-test true true p q e h = let z = eqb-true o.translation.z 0 q in omega arith
  last-test true false p q e h = absurd (clash false e refl)
  last-test false y p q e h = absurd (eqb-false o.rotation.zz 2 p (digit-one o.rotation.zz digits.zz h))

  last-rule : (x : Bool) → eqb o.rotation.zz 2 ≡ x → (entry_of o.rotation.zz ≡ one → residue (pos o.translation.z) ≡ 0) → not x || eqb o.translation.z 0 ≡ true
  unfolding residue entry_of one
  last-rule true p h = let e = h (rw (eqb-true o.rotation.zz 2 p) refl) in eq-eqb o.translation.z 0 (omega arith)
  last-rule false p h = refl

  pub test-exactly : (is_layer o ≡ true) ↔ LayerMotion (motion_of o)
  unfolding is_layer motion_of matrix_of vector_of
  test-exactly = (
    (λ t.
        let (a, t1) = and_both (eqb o.rotation.xz 1) _ t in
        let (b, t2) = and_both (eqb o.rotation.yz 1) _ t1 in
        let (c, t3) = and_both (eqb o.rotation.zx 1) _ t2 in
        let (d, t4) = and_both (eqb o.rotation.zy 1) _ t3 in
        record {
          xz = nought-digit o.rotation.xz (eqb-true o.rotation.xz 1 a);
          yz = nought-digit o.rotation.yz (eqb-true o.rotation.yz 1 b);
          zx = nought-digit o.rotation.zx (eqb-true o.rotation.zx 1 c);
          zy = nought-digit o.rotation.zy (eqb-true o.rotation.zy 1 d);
          z = last-test (eqb o.rotation.zz 2) (eqb o.translation.z 0) refl refl t4;
        }),
    λ L. rw (
      eq-eqb o.rotation.xz 1 (digit-nought o.rotation.xz digits.xz L.xz),
      eq-eqb o.rotation.yz 1 (digit-nought o.rotation.yz digits.yz L.yz),
      eq-eqb o.rotation.zx 1 (digit-nought o.rotation.zx digits.zx L.zx),
      eq-eqb o.rotation.zy 1 (digit-nought o.rotation.zy digits.zy L.zy),
    ) (last-rule (eqb o.rotation.zz 2) refl L.z),
  )

-- ---- modulo the lattice
-- The points of P and C have no z but whole cells.
level-points : (c : Centering) → OfLayer c → (t : Triple) → Mem t (points_of c) → t.z ≡ 0
level-points c (inl e) t m = in_p (rw e at m)
  where
    in_p : Mem t (points_of P) → t.z ≡ 0
    in_p (here p) = ap (λ (t : Triple). t.z) p
    in_p (there x6) = elim x6 [ ]
level-points c (inr e) t m = in_c (rw e at m)
  where
    in_c : Mem t (points_of C) → t.z ≡ 0
    in_c (here p) = ap (λ (t : Triple). t.z) p
    in_c (there (here p)) = ap (λ (t : Triple). t.z) p
    in_c (there (there x10)) = elim x10 [ ]

same-level : (a b : ℤ) → residue (a +ℤ neg_ℤ b) ≡ 0 → residue a ≡ residue b
same-level a b e =
    let sum : (residue a + (12 - residue b) % 12) % 12 ≡ 0 = sym (residue-add a (neg_ℤ b) ∙ ap (λ (k : ℕ). (residue a + k) % 12) (residue-neg b)) ∙ e in
    omega (arith, residue-lt a, residue-lt b)

pub alike-layer : (c : Centering) → OfLayer c → (f g : SpaceMotion) → Alike (points_of c) f g → LayerMotion g → LayerMotion f
unfolding plus opposite
alike-layer c l f g (turn, class) L =
    let level : residue f.translation.z ≡ residue g.translation.z = same-level f.translation.z g.translation.z (level-points c l _ class) in
    record {
      xz = ap (λ R. R.xz) turn ∙ L.xz;
      yz = ap (λ R. R.yz) turn ∙ L.yz;
      zx = ap (λ R. R.zx) turn ∙ L.zx;
      zy = ap (λ R. R.zy) turn ∙ L.zy;
      z = λ e. level ∙ L.z (sym (ap (λ R. R.zz) turn) ∙ e);
    }

-- ---- what the rules say of points
-- The motion at a vector.
abbrev pub moved : SpaceMotion → Vector → Vector
moved f v = plus (act f.rotation v) f.translation

-- Vectors with one z go to vectors with one z; vectors with one x and one y go to such vectors; and a motion that keeps the sense of z keeps z up to whole cells.
pub record KeepsLayer (f : SpaceMotion) : Type 0 where
  pub planes : (v w : Vector) → v.z ≡ w.z → (moved f v).z ≡ (moved f w).z
  pub lines : (v w : Vector) → v.x ≡ w.x → v.y ≡ w.y → ((moved f v).x ≡ (moved f w).x) × ((moved f v).y ≡ (moved f w).y)
  pub level : f.rotation.zz ≡ one → (v : Vector) → residue (moved f v).z ≡ residue v.z

abbrev vector : ℤ → ℤ → ℤ → Vector
vector a b c = record { x = a; y = b; z = c }

-- A summand that changes nothing is 0.
no_change : (a b : ℤ) → a +ℤ b ≡ b → a ≡ nought
unfolding nought
no_change a b e =
    let back : (a +ℤ b) +ℤ neg_ℤ b ≡ a = +ℤ_assoc a b (neg_ℤ b) ∙ ap (λ s. a +ℤ s) (+ℤ_invr b) ∙ +ℤ_idr a in
    sym back ∙ ap (λ s. s +ℤ neg_ℤ b) e ∙ +ℤ_invr b

no-residue : residue nought ≡ 0
unfolding residue nought
no-residue = refl

module _ (f : SpaceMotion) where
  -- One coordinate of the images of the origin and of a unit vector.
  along-x : (p q r t : ℤ) → (p *ℤ one +ℤ q *ℤ nought +ℤ r *ℤ nought) +ℤ t ≡ (p *ℤ nought +ℤ q *ℤ nought +ℤ r *ℤ nought) +ℤ t → p ≡ nought
  along-x p q r t e = no_change p t (sym (simp ring) ∙ e ∙ simp ring)

  along-y : (p q r t : ℤ) → (p *ℤ nought +ℤ q *ℤ one +ℤ r *ℤ nought) +ℤ t ≡ (p *ℤ nought +ℤ q *ℤ nought +ℤ r *ℤ nought) +ℤ t → q ≡ nought
  along-y p q r t e = no_change q t (sym (simp ring) ∙ e ∙ simp ring)

  along-z : (p q r t : ℤ) → (p *ℤ nought +ℤ q *ℤ nought +ℤ r *ℤ one) +ℤ t ≡ (p *ℤ nought +ℤ q *ℤ nought +ℤ r *ℤ nought) +ℤ t → r ≡ nought
  along-z p q r t e = no_change r t (sym (simp ring) ∙ e ∙ simp ring)

  -- What is left of a coordinate where two of the entries are 0.
  only-z : (p q r x y z : ℤ) → p ≡ nought → q ≡ nought → p *ℤ x +ℤ q *ℤ y +ℤ r *ℤ z ≡ r *ℤ z
  only-z p q r x y z h k = rw (h, k) (simp ring)

  without-z : (p q r x y z : ℤ) → r ≡ nought → p *ℤ x +ℤ q *ℤ y +ℤ r *ℤ z ≡ p *ℤ x +ℤ q *ℤ y
  without-z p q r x y z h = rw h (simp ring)

  layer-keeps : LayerMotion f → KeepsLayer f
  unfolding plus act
  layer-keeps L =
      let R = f.rotation in
      let t = f.translation in
      record {
        planes = λ v w e.
            ap (λ s. s +ℤ t.z) (only-z R.zx R.zy R.zz v.x v.y v.z L.zx L.zy ∙ ap (λ z. R.zz *ℤ z) e ∙ sym (only-z R.zx R.zy R.zz w.x w.y w.z L.zx L.zy));
        lines = λ v w e h. (
          ap (λ s. s +ℤ t.x) (without-z R.xx R.xy R.xz v.x v.y v.z L.xz ∙ ap₂ (λ x y. R.xx *ℤ x +ℤ R.xy *ℤ y) e h
              ∙ sym (without-z R.xx R.xy R.xz w.x w.y w.z L.xz)),
          ap (λ s. s +ℤ t.y) (without-z R.yx R.yy R.yz v.x v.y v.z L.yz ∙ ap₂ (λ x y. R.yx *ℤ x +ℤ R.yy *ℤ y) e h
              ∙ sym (without-z R.yx R.yy R.yz w.x w.y w.z L.yz)),
        );
        level = λ e v.
            ap residue (ap (λ s. s +ℤ t.z) (only-z R.zx R.zy R.zz v.x v.y v.z L.zx L.zy ∙ ap (λ k. k *ℤ v.z) e ∙ one-*ℤ v.z))
            ∙ residue-add v.z t.z ∙ ap (λ (k : ℕ). (residue v.z + k) % 12) (L.z e) ∙ omega (arith, residue-lt v.z);
      }

  keeps-layer : KeepsLayer f → LayerMotion f
  unfolding plus act
  keeps-layer K =
      let R = f.rotation in
      let t = f.translation in
      let o = vector nought nought nought in
      record {
        xz = along-z R.xx R.xy R.xz t.x (K.lines (vector nought nought one) o refl refl).0;
        yz = along-z R.yx R.yy R.yz t.y (K.lines (vector nought nought one) o refl refl).1;
        zx = along-x R.zx R.zy R.zz t.z (K.planes (vector one nought nought) o refl);
        zy = along-y R.zx R.zy R.zz t.z (K.planes (vector nought one nought) o refl);
        z = λ e. ap residue (sym (at-origin R.zx R.zy R.zz t.z)) ∙ K.level e o ∙ none;
      }
    where
      at-origin : (p q r t : ℤ) → (p *ℤ nought +ℤ q *ℤ nought +ℤ r *ℤ nought) +ℤ t ≡ t
      at-origin p q r t = simp ring

      none : residue nought ≡ 0
      none = no-residue

  -- A motion is one of a layer exactly if it does so.
  pub layer-planes : LayerMotion f ↔ KeepsLayer f
  layer-planes = (layer-keeps, keeps-layer)
