-- What is allowed is a group, and no more is asked: operations in the listed form, 1 to 48 of them, are allowed exactly if they are a group of motions with L.
-- The idea: a motion of the group between a translation of L and the motion's inverse
-- is a translation again, so each rotation maps L into L, and its inverse too.
use Rattle.std.specs.Prelude.{◌≡◌, ◌↔◌, ◌≤◌, length}
use Rattle.std.proofs.Math.Path.{sym, ap}
use Rattle.std.proofs.Common.{◌∙◌, subst}
use mathlib.Core.List.Memᴰ.{cast as mem-cast}
use mathlib.Core.List.Memᴰ.{map as mem-map}
use mathlib.Core.List.Memᴰ.{of_map as mem-of-map}
use mathlib.Core.List.{List, map, Memᴰ as Mem}
use Rattle.std.proofs.lemmas.List.{length-map}
use Rattle.laws.specs.Integer.{ring}
use Rattle.laws.specs.Matrix.{Matrix, Vector, times, act, plus, unit, origin, unit-times, act-unit, act-plus, act-times, plus-origin}
use Rattle.laws.specs.Motion.{SpaceMotion, compose, identity, product, translation_by}
use Rattle.laws.specs.LatticeMaps.{MapsInto, MapsOnto, onto-unimodular}
use Rattle.operation.specs.Composed.{identity-motion}
use Rattle.operation.specs.Meaning.{motion_of}
use Rattle.operation.specs.Product.{identity_operation}
use Rattle.operation.specs.declared.Operation.{Operation}
use Rattle.operation.specs.declared.Translation.{Translation}
use Rattle.centering.specs.Letters.{points_of}
use Rattle.centering.specs.Lattices.{points}
use Rattle.centering.specs.declared.Centering.{Centering}
use Rattle.group_record.specs.Record.{smallest_operation}
use Rattle.group_record.specs.Groups.{Alike, InSet, Allowed, Form}
use Rattle.group_record.specs.ListedForm.{alike-reflexive, alike-smallest, form-smallest, form-listing}
use Rattle.group_record.specs.GroupLaws.{SpaceGroup, allowed-group}
use Rattle.group_record.specs.ReadingTests.{origin-smallest, identity-entries}

moved : (u v t : Vector) → plus (plus u v) t ≡ plus v (plus u t)
unfolding plus
moved u v t = simp ring

-- A translation between a motion and its inverse.
pub conjugated : (f g : SpaceMotion) (v : Vector) → compose f g ≡ identity → compose f (compose (translation_by v) g) ≡ translation_by (act f.rotation v)
unfolding product
conjugated f g v e =
    let turn : times f.rotation (times unit g.rotation) ≡ unit =
    ap (times f.rotation) (unit-times g.rotation) ∙ ap (λ (h : SpaceMotion). h.rotation) e in
    let still : plus (act f.rotation g.translation) f.translation ≡ origin = ap (λ (h : SpaceMotion). h.translation) e in
    let shift : plus (act f.rotation (plus (act unit g.translation) v)) f.translation ≡ act f.rotation v =
    ap (λ (w : Vector). plus (act f.rotation (plus w v)) f.translation) (act-unit g.translation)
    ∙ ap (λ (w : Vector). plus w f.translation) (act-plus f.rotation g.translation v)
    ∙ moved (act f.rotation g.translation) (act f.rotation v) f.translation
    ∙ ap (plus (act f.rotation v)) still ∙ plus-origin (act f.rotation v) in
    λ i. record { rotation = turn i; translation = shift i }

module _ (c : Centering) (Inside : SpaceMotion → Type 0) (G : SpaceGroup c Inside) where
  -- Each rotation of a group with the translations L maps L into L,
  into : (f g : SpaceMotion) → Inside f → Inside g → compose f g ≡ identity → MapsInto (points_of c) f.rotation
  into f g m k e v h =
      let between = G.product f (compose (translation_by v) g) m (G.product (translation_by v) g ((G.translations v).1 h) k) in
      (G.translations (act f.rotation v)).0 (subst Inside (conjugated f g v e) between)

  -- and, since its inverse does so too, onto L.
  onto : (f : SpaceMotion) → Inside f → MapsOnto (points_of c) f.rotation
  unfolding product
  onto f m =
      let (g, k, e, d) = G.inverse f m in (
        into f g m k e,
        λ w h. (
          act g.rotation w,
          into g f k m d w h,
          sym (act-times f.rotation g.rotation w) ∙ ap (λ (A : Matrix). act A w) (ap (λ (n : SpaceMotion). n.rotation) e) ∙ act-unit w,
        ),
      )

-- In the form the identity has (0,0,0).
pub identity-in-form : (c : Centering) (l : List Operation) → Form c l → InSet c (map motion_of l) identity → Mem identity_operation l
unfolding smallest_operation
identity-in-form c l F (f, m, near) =
    let unchanged : smallest_operation c identity_operation ≡ identity_operation =
    ap (λ (t : Translation). record { rotation = identity_operation.rotation; translation = t }) (origin-smallest c) in
    let (g, k, e) = mem-of-map motion_of l m in
    let alike : Alike c (motion_of identity_operation) (motion_of g) =
    subst (λ (a : SpaceMotion). Alike c a (motion_of g)) (sym identity-motion) (subst (Alike c identity) (sym e) near) in
    mem-cast (sym unchanged ∙ alike-smallest c identity_operation g identity-entries (F.entries g k) alike ∙ form-smallest c F g k) k

-- A group of motions with L, listed in the form and 1 to 48 of them, is allowed.
pub group-allowed : (c : Centering) (l : List Operation) → Form c l → 1 ≤ length l → length l ≤ 48 → SpaceGroup c (InSet c (map motion_of l))
    → Allowed c (map motion_of l)
group-allowed c l F some few G =
    record {
      count = rw (length-map l motion_of) (some, few);
      determinant = λ f m. onto-unimodular (points_of c) (points c) f.rotation (kept f m);
      keeps = kept;
      holds-identity = mem-cast (sym identity-motion) (mem-map motion_of (identity-in-form c l F G.holds-identity));
      product = λ f g m k. G.product f g (f, m, alike-reflexive c f) (g, k, alike-reflexive c g);
    }
  where
    kept : (f : SpaceMotion) → Mem f (map motion_of l) → MapsOnto (points_of c) f.rotation
    kept f m = onto c (InSet c (map motion_of l)) G f (f, m, alike-reflexive c f)

-- Allowed exactly if a group: no clause hides in what is allowed.
pub allowed-exactly : (c : Centering) (l : List Operation) → Form c l → 1 ≤ length l → length l ≤ 48
    → Allowed c (map motion_of l) ↔ SpaceGroup c (InSet c (map motion_of l))
allowed-exactly c l F some few = ((λ A. allowed-group c (form-listing c F) A), group-allowed c l F some few)
