-- What 35 means: good items, 1 to 96 of them, are allowed exactly if their flagged motions, with L added, are a group whose translations without the flag
-- are L. What has no flag is then a group of motions with L, and what has it is empty or one coset of that.
-- The idea: the half without the flag is a plain group, and the square of a motion with the flag lies in it.
use Rattle.std.specs.Prelude.{◌≡◌, refl, ◌↔◌, Bool, true, false, ◌≤◌, length}
use Rattle.std.proofs.Math.Path.{sym, ap}
use Rattle.std.proofs.Common.{◌∙◌, ap₂, subst}
use mathlib.Core.List.Memᴰ.{cast as mem-cast}
use mathlib.Core.List.Memᴰ.{map as mem-map}
use mathlib.Core.List.{List, map, Memᴰ as Mem}
use Rattle.std.proofs.lemmas.List.{length-map}
use Rattle.laws.specs.Matrix.{Matrix, Vector, act, act-times, act-unit}
use Rattle.laws.specs.Motion.{SpaceMotion, compose, identity, product, compose-assoc, identity-compose, compose-identity, translation_by}
use Rattle.laws.specs.Lattice.{InLattice}
use Rattle.laws.specs.LatticeMaps.{MapsInto, MapsOnto, onto-unimodular}
use Rattle.group_growth.specs.Flagged.{xor, flagged≡, flagged_by, held}
use Rattle.operation.specs.Composed.{identity-motion}
use Rattle.operation.specs.Meaning.{motion_of}
use Rattle.centering.specs.Letters.{points_of}
use Rattle.centering.specs.Lattices.{points}
use Rattle.centering.specs.declared.Centering.{Centering}
use Rattle.group_record.specs.Groups.{InSet}
use Rattle.group_record.specs.ListedForm.{alike-reflexive, alike-transitive, form-listing}
use Rattle.group_record.specs.GroupLaws.{compose-alike, SpaceGroup, Closed, closed-group}
use Rattle.group_record.specs.Converse.{conjugated, identity-in-form}
use Rattle.magnetic_record.specs.SecondEdition.{MagneticItem}
use Rattle.magnetic_record.specs.Groups.{FlaggedMotion, compose_flagged, InMagneticSet, MagneticAllowed, flagged_motion, motions_of}
use Rattle.magnetic_record.specs.Halves.{flag_number, GoodMagnetic, operations_of, half-form, motion-half, half-motion}

-- A set of flagged motions that is a group, with the translations of L and no other among those without the flag.
pub record MagneticGroup (c : Centering) (Inside : FlaggedMotion → Type 0) : Type 0 where
  pub holds-identity : Inside (held identity)
  pub product : (f g : FlaggedMotion) → Inside f → Inside g → Inside (compose_flagged f g)
  pub inverse : (f : FlaggedMotion) → Inside f → (g : FlaggedMotion) × Inside g × (compose_flagged f g ≡ held identity) × (compose_flagged g f ≡ held identity)
  pub translations : (v : Vector) → Inside (held (translation_by v)) ↔ InLattice (points_of c) v

-- A flag is combined with 0 to itself.
xor-left : (b : Bool) → xor false b ≡ b
xor-left true = refl
xor-left false = refl

-- Where x x has the inverse w, x has the inverse x w.
square-inverse : (x w : SpaceMotion) → compose (compose x x) w ≡ identity → compose w (compose x x) ≡ identity
    → (compose x (compose x w) ≡ identity) × (compose (compose x w) x ≡ identity)
square-inverse x w p q = (right, ap (λ (f : SpaceMotion). compose f x) same ∙ left)
  where
    right : compose x (compose x w) ≡ identity
    right = sym (compose-assoc x x w) ∙ p

    left : compose (compose w x) x ≡ identity
    left = compose-assoc w x x ∙ q

    same : compose x w ≡ compose w x
    same =
        sym (identity-compose (compose x w)) ∙ ap (λ (f : SpaceMotion). compose f (compose x w)) (sym left) ∙ compose-assoc (compose w x) x (compose x w)
        ∙ ap (compose (compose w x)) right ∙ compose-identity (compose w x)

-- ---- allowed motions are a group
module _ (c : Centering) (items : List MagneticItem) (g : GoodMagnetic c items) where
  abbrev Inside : FlaggedMotion → Type 0
  Inside = InMagneticSet c (motions_of items)

  -- A flagged motion is in the set exactly if its motion is in that of the half of its flag.
  pub half-set : (b : Bool) (m : SpaceMotion) → Inside (flagged_by b m) ↔ InSet c (map motion_of (operations_of (flag_number b) items)) m
  half-set b m = (
    (λ (f, n, (flag, near)).
        let there = motion-half items g.flag f.flag f.element n in
        (f.element, subst (λ (d : Bool). Mem f.element (map motion_of (operations_of (flag_number d) items))) (sym flag) there, near)),
    λ (f, n, near). (flagged_by b f, half-motion items g.flag b f n, (refl, near)),
  )

  itself : (f : FlaggedMotion) → Mem f (motions_of items) → Inside f
  itself f m = (f, m, (refl, alike-reflexive c f.element))

  module _ (A : MagneticAllowed c (motions_of items)) where
    -- The half without the flag is closed.
    half-closed : Closed c (map motion_of (operations_of 0 items))
    half-closed =
        record {
          determinant = λ f m. A.determinant (held f) (half-motion items g.flag false f m);
          keeps = λ f m. A.keeps (held f) (half-motion items g.flag false f m);
          holds-identity = motion-half items g.flag false identity A.holds-identity;
          product = λ f h m k.
              let there = A.product (held f) (held h) (half-motion items g.flag false f m) (half-motion items g.flag false h k) in
              (half-set false (compose f h)).0 there;
        }

    plain : SpaceGroup c (InSet c (map motion_of (operations_of 0 items)))
    plain = closed-group c (form-listing c (half-form c items g 0)) half-closed

    products : (f h : FlaggedMotion) → Inside f → Inside h → Inside (compose_flagged f h)
    products f h (a, m, (p, near)) (b, n, (q, far)) =
        let (k, o, (r, beside)) = A.product a b m n in
        let maps : MapsInto (points_of c) f.element.rotation = rw near.0 (A.keeps a m).0 in
        let alike = compose-alike c f.element a.element h.element b.element maps near far in
        (k, o, (ap₂ xor p q ∙ r, alike-transitive c _ (compose a.element b.element) k.element alike beside))

    inverses : (b : Bool) (x : SpaceMotion) → Inside (flagged_by b x)
        → (h : FlaggedMotion) × Inside h × (compose_flagged (flagged_by b x) h ≡ held identity) × (compose_flagged h (flagged_by b x) ≡ held identity)
    inverses false x m =
        let (y, n, p, q) = plain.inverse x ((half-set false x).0 m) in
        (held y, (half-set false y).1 n, flagged≡ _ _ p refl, flagged≡ _ _ q refl)
    inverses true x m =
        let square = products (flagged_by true x) (flagged_by true x) m m in
        let (w, n, p, q) = plain.inverse (compose x x) ((half-set false (compose x x)).0 square) in
        let (right, left) = square-inverse x w p q in (
          flagged_by true (compose x w),
          products (flagged_by true x) (held w) m ((half-set false w).1 n),
          flagged≡ _ _ right refl,
          flagged≡ _ _ left refl,
        )

    pub allowed-magnetic-group : MagneticGroup c Inside
    allowed-magnetic-group =
        record {
          holds-identity = itself (held identity) A.holds-identity;
          product = products;
          inverse = λ f m. inverses f.flag f.element m;
          translations = λ v. (
            (λ m. (plain.translations v).0 ((half-set false (translation_by v)).0 m)),
            λ h. (half-set false (translation_by v)).1 ((plain.translations v).1 h),
          );
        }

-- ---- a group is allowed
module _ (c : Centering) (Inside : FlaggedMotion → Type 0) (G : MagneticGroup c Inside) where
  -- Between a motion and its inverse a translation of L is one again, whatever the flag,
  into : (f g : FlaggedMotion) → Inside f → Inside g → compose_flagged f g ≡ held identity → MapsInto (points_of c) f.element.rotation
  into f g m k e v h =
      let between = G.product f (compose_flagged (held (translation_by v)) g) m (G.product (held (translation_by v)) g ((G.translations v).1 h) k) in
      let moved : compose_flagged f (compose_flagged (held (translation_by v)) g) ≡ held (translation_by (act f.element.rotation v)) =
      flagged≡ _ _ (conjugated f.element g.element v (ap (λ (d : FlaggedMotion). d.element) e))
      (ap (xor f.flag) (xor-left g.flag) ∙ ap (λ (d : FlaggedMotion). d.flag) e) in
      (G.translations (act f.element.rotation v)).0 (subst Inside moved between)

  -- so each rotation maps L onto L.
  onto : (f : FlaggedMotion) → Inside f → MapsOnto (points_of c) f.element.rotation
  unfolding product
  onto f m =
      let (g, k, e, d) = G.inverse f m in (
        into f g m k e,
        λ w h. (
          act g.element.rotation w,
          into g f k m d w h,
          sym (act-times f.element.rotation g.element.rotation w)
              ∙ ap (λ (A : Matrix). act A w) (ap (λ (n : FlaggedMotion). n.element.rotation) e) ∙ act-unit w,
        ),
      )

  -- What has no flag is a group of motions with L.
  pub unflagged-group : SpaceGroup c (λ m. Inside (held m))
  unflagged-group =
      record {
        holds-identity = G.holds-identity;
        product = λ f g m k. G.product (held f) (held g) m k;
        inverse = λ f m.
            let (g, k, e, d) = G.inverse (held f) m in
            let none : g.flag ≡ false = sym (xor-left g.flag) ∙ ap (λ (n : FlaggedMotion). n.flag) e in
            let there = subst (λ (b : Bool). Inside (flagged_by b g.element)) none k in
            (g.element, there, ap (λ (n : FlaggedMotion). n.element) e, ap (λ (n : FlaggedMotion). n.element) d);
        translations = G.translations;
      }

  -- What has it is empty, or one coset of that: with x there are all x u, u without the flag, and no other.
  pub flagged-coset : (x : SpaceMotion) → Inside (flagged_by true x) → (y : SpaceMotion)
      → Inside (flagged_by true y) ↔ ((u : SpaceMotion) × Inside (held u) × (y ≡ compose x u))
  flagged-coset x m y = (
    (λ n.
        let (g, k, e, d) = G.inverse (flagged_by true x) m in
        let both = G.product g (flagged_by true y) k n in
        let none : xor g.flag true ≡ false = ap (λ (f : FlaggedMotion). f.flag) d in
        let back : compose x (compose g.element y) ≡ y =
        sym (compose-assoc x g.element y) ∙ ap (λ (f : SpaceMotion). compose f y) (ap (λ (f : FlaggedMotion). f.element) e) ∙ identity-compose y in
        (compose g.element y, subst (λ (b : Bool). Inside (flagged_by b (compose g.element y))) none both, sym back)),
    λ (u, k, e). subst (λ (f : SpaceMotion). Inside (flagged_by true f)) (sym e) (G.product (flagged_by true x) (held u) m k),
  )

-- Good items, 1 to 96 of them, whose flagged motions are a group with L, are allowed.
pub magnetic-group-allowed : (c : Centering) (items : List MagneticItem) → GoodMagnetic c items → 1 ≤ length items → length items ≤ 96
    → MagneticGroup c (InMagneticSet c (motions_of items)) → MagneticAllowed c (motions_of items)
magnetic-group-allowed c items g some few G =
    record {
      count = rw (length-map items flagged_motion) (some, few);
      determinant = λ f m. onto-unimodular (points_of c) (points c) f.element.rotation (kept f m);
      keeps = kept;
      holds-identity = half-motion items g.flag false identity listed;
      product = λ f h m k. G.product f h (itself c items g f m) (itself c items g h k);
    }
  where
    kept : (f : FlaggedMotion) → Mem f (motions_of items) → MapsOnto (points_of c) f.element.rotation
    kept f m = onto c (InMagneticSet c (motions_of items)) G f (itself c items g f m)

    listed : Mem identity (map motion_of (operations_of 0 items))
    listed =
        let unflagged = (half-set c items g false identity).0 G.holds-identity in
        mem-cast (sym identity-motion) (mem-map motion_of (identity-in-form c (operations_of 0 items) (half-form c items g 0) unflagged))

-- Allowed exactly if a group: no clause hides in what is allowed.
pub magnetic-allowed-exactly : (c : Centering) (items : List MagneticItem) → GoodMagnetic c items → 1 ≤ length items → length items ≤ 96
    → MagneticAllowed c (motions_of items) ↔ MagneticGroup c (InMagneticSet c (motions_of items))
magnetic-allowed-exactly c items g some few = (allowed-magnetic-group c items g, magnetic-group-allowed c items g some few)
