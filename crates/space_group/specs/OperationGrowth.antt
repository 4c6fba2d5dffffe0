-- The growth of operations is the digit image of the growth of motions: a rotation with entries in −1..1 and its digits determine one another, and
-- translations modulo 12 go with products.
use Rattle.std.specs.Prelude.{◌≡◌, Bool, true, false, cond, ◌↔◌, List, T, None, Some}
use Rattle.std.proofs.Math.Path.{refl}
use Rattle.std.proofs.Common.{sym, ◌∙◌, ap, arith, eqb→eq}
use Rattle.std.proofs.Math.Option.{some, none, map}
use Rattle.std.proofs.Math.Dec.{eqb_refl}
use Rattle.std.proofs.Math.IntN.{one}
use Rattle.laws.specs.Integer.{nought}
use Rattle.laws.specs.Matrix.{Vector, times, act, plus, opposite, unit, origin}
use Rattle.laws.specs.Motion.{SpaceMotion, product, compose, identity}
use Rattle.laws.specs.Residue.{residue, reduced, reduced-plus, reduced-opposite, reduced-again, ◌⊕◌}
use Rattle.laws.specs.Distinct.{has, has↔Mem}
use Rattle.laws.specs.Lattice.{same_triple, triple-decides, Congruent, congruent-reflexive}
use Rattle.laws.specs.Closure.{Congruence}
use Rattle.laws.specs.SameMatrix.{same_rotation, same-rotation, rotation-same}
use Rattle.laws.specs.MotionsModulo.{Alike, Keeps, motions-keyed}
use Rattle.laws.specs.GrowthClosure.{allowed}
use Rattle.laws.specs.Truth.{same_test, T_true, true-T}
use Rattle.group_growth.specs.Verdicts.{image_verdict, on_growth}
use Rattle.group_growth.specs.Growing.{Growing, verdict}
use Rattle.group_growth.specs.Forms.{Forms, growth-verdict}
use Rattle.operation.specs.Meaning.{matrix_of, vector_of, motion_of, digits_of, Digits, digit_of, digit_above, inside, row_inside, all_inside}
use Rattle.operation.specs.Entries.{Entries, all-entries, digits-entries, digits-stand}
use Rattle.operation.specs.Product.{identity_operation, operation_of, product_of}
use Rattle.operation.specs.Code.{code_of, code-injective}
use Rattle.operation.specs.declared.Operation.{Operation}
use Rattle.centering.specs.Letters.{points_of}
use Rattle.centering.specs.Lattices.{points, congruent_of}
use Rattle.centering.specs.declared.Centering.{Centering}
use Rattle.space_group.specs.Generated.{motions, is_small, same_vector_class}
use Rattle.space_group.specs.Traversal.{turn_of, same_turn, same_class, inside_of, product_inside, growth}

-- The rotation of a motion has its entries in −1..1.
abbrev pub Small : SpaceMotion → Type 0
Small f = Entries f.rotation

-- Its operation has the same rotation.
pub operation-rotation : (f : SpaceMotion) → Small f → matrix_of (operation_of f).rotation ≡ f.rotation
unfolding operation_of
operation-rotation f e = digits-stand f.rotation e

-- And the same translation modulo 12.
pub operation-translation : (f : SpaceMotion) → reduced (vector_of (operation_of f).translation) ≡ reduced f.translation
unfolding operation_of vector_of
operation-translation f = reduced-again f.translation

-- Its digits are 0, 1 and 2.
pub operation-digits : (f : SpaceMotion) → Small f → Digits (operation_of f).rotation
operation-digits f e = (digits-entries (operation_of f).rotation).1 (rw (operation-rotation f e) e)

-- ---- tests
-- Motions with one rotation have operations with one code.
same_turn_lem : (f g : SpaceMotion) → f.rotation ≡ g.rotation → turn_of (operation_of f) ≡ turn_of (operation_of g)
unfolding operation_of
same_turn_lem f g p = ap (λ A. code_of (digits_of A)) p

-- Codes tell rotations apart as matrices do.
pub same-image : (f g : SpaceMotion) → Small f → Small g → same_rotation f g ≡ same_turn (operation_of f) (operation_of g)
same-image f g h k = same_test (same_rotation f g) (same_turn (operation_of f) (operation_of g)) forth back
  where
    forth : T (same_rotation f g) → T (same_turn (operation_of f) (operation_of g))
    forth t = rw (same_turn_lem f g (same-rotation f g t)) (eqb_refl (turn_of (operation_of g)))

    back : T (same_turn (operation_of f) (operation_of g)) → T (same_rotation f g)
    back t =
        let digits = code-injective (operation_of f).rotation (operation_of g).rotation (operation-digits f h) (operation-digits g k) (eqb→eq _ _ t) in
        rotation-same f g (sym (operation-rotation f h) ∙ ap matrix_of digits ∙ operation-rotation g k)

-- Vectors with the same residues have differences with the same residues.
pub same-difference : (v w v' w' : Vector) → reduced v ≡ reduced v' → reduced w ≡ reduced w' → reduced (plus v (opposite w)) ≡ reduced (plus v' (opposite w'))
same-difference v w v' w' p q = simp (reduced-plus, reduced-opposite, p, q)

-- Translations modulo 12 are in one class as the vectors are.
pub class-image : (c : Centering) (f g : SpaceMotion) → same_vector_class c f g ≡ same_class c (operation_of f) (operation_of g)
unfolding same_vector_class congruent_of
class-image c f g =
    ap (λ t. has same_triple t (points_of c))
    (same-difference f.translation g.translation (vector_of (operation_of f).translation) (vector_of (operation_of g).translation)
    (sym (operation-translation f)) (sym (operation-translation g)))

-- ---- products
-- An operation is determined by the rotation and the residues of the translation.
pub operation≡ : (f g : SpaceMotion) → f.rotation ≡ g.rotation → reduced f.translation ≡ reduced g.translation → operation_of f ≡ operation_of g
unfolding operation_of
operation≡ f g p q = λ i. record { rotation = digits_of (p i); translation = record { x = (q i).x; y = (q i).y; z = (q i).z } }

-- The product of the operations of two motions, as far as it reaches.
times-operation : (f g : SpaceMotion) → Small f → (compose (motion_of (operation_of f)) g).rotation ≡ (compose f g).rotation
unfolding product motion_of
times-operation f g e = ap (λ A. times A g.rotation) (operation-rotation f e)

moved-operation : (f g : SpaceMotion) → Small f → reduced (compose (motion_of (operation_of f)) g).translation ≡ reduced (compose f g).translation
unfolding product motion_of
moved-operation f g e =
    rw (operation-rotation f e) (reduced-plus (act f.rotation g.translation) (vector_of (operation_of f).translation)
    ∙ ap (λ t. reduced (act f.rotation g.translation) ⊕ t) (operation-translation f) ∙ sym (reduced-plus (act f.rotation g.translation) f.translation))

pub compose-operation : (f g : SpaceMotion) → Small f → operation_of (compose (motion_of (operation_of f)) g) ≡ operation_of (compose f g)
compose-operation f g e =
    operation≡ (compose (motion_of (operation_of f)) g) (compose f g) (times-operation f g e) (moved-operation f g e)

-- The product of an operation as that of its motion, where its entries are in −1..1.
pub product-image : (c : Centering) (f : SpaceMotion) (h : Operation) → Small f
    → product_inside (operation_of f) h ≡ map operation_of (allowed same_rotation (same_vector_class c) is_small compose f (motion_of h))
unfolding product_of allowed is_small
product-image c f h e =
    rw (compose-operation f (motion_of h) e, times-operation f (motion_of h) e) (by-test (all_inside (compose f (motion_of h)).rotation))
  where
    by-test : (b : Bool) → inside_of (cond b (Some (operation_of (compose f (motion_of h)))) None)
        ≡ map operation_of (cond b (some (compose f (motion_of h))) none)
    by-test true = refl
    by-test false = refl

-- ---- tests of motions
-- The test of entries says whether they are in −1..1.
pub small-test : (f : SpaceMotion) → T (is_small f) ↔ Small f
unfolding is_small
small-test f = ((λ t. (all-entries f.rotation).0 (T_true t)), λ e. true-T ((all-entries f.rotation).1 e))

pub identity-small : is_small identity ≡ true
unfolding is_small all_inside row_inside inside unit one nought
identity-small = refl

pub small_same : (f g : SpaceMotion) → T (same_rotation f g) → is_small g ≡ true → is_small f ≡ true
unfolding is_small
small_same f g t e = rw (same-rotation f g t) e

-- The test of two translations says whether they differ by a vector of L.
pub class-test : (c : Centering) (f g : SpaceMotion) → T (same_vector_class c f g) ↔ Congruent (points_of c) f.translation g.translation
unfolding same_vector_class
class-test c f g = has↔Mem same_triple triple-decides

pub alike-test : (c : Centering) (f g : SpaceMotion) → T (same_rotation f g) → T (same_vector_class c f g) ↔ Alike (points_of c) f g
alike-test c f g s = ((λ t. (same-rotation f g s, (class-test c f g).0 t)), λ near. (class-test c f g).1 near.1)

-- A motion alike to one that keeps L keeps L.
pub keeps-alike : (c : Centering) (f g : SpaceMotion) → Alike (points_of c) f g → Keeps (points_of c) f → Keeps (points_of c) g
keeps-alike c f g near keep = rw near.0 at keep

-- The operation of a motion is alike to it modulo any lattice.
pub operation-alike : (c : Centering) (f : SpaceMotion) → Small f → Alike (points_of c) f (motion_of (operation_of f))
unfolding motion_of
operation-alike c f e = (
  sym (operation-rotation f e),
  rw (same-difference f.translation (vector_of (operation_of f).translation) f.translation f.translation refl (operation-translation f))
      (congruent-reflexive (points_of c) (points c) f.translation),
)

-- ---- what grows
-- Motions, told apart by their rotations and alike where their translations are in one class modulo L.
abbrev pub motion_growth : Centering → Growing
motion_growth c = record {
  Element = SpaceMotion;
  same = same_rotation;
  alike = same_vector_class c;
  fine = is_small;
  product = compose;
  unit = identity;
  Alike = Alike (points_of c);
  Ok = Keeps (points_of c);
  keyed = motions-keyed (points_of c) (points c);
  ok-alike = keeps-alike c;
  alike-decided = alike-test c;
  fine-key = small_same;
  fine-unit = identity-small;
}

-- Operations as their forms.
abbrev pub operation_forms : (c : Centering) → Forms (motion_growth c)
operation_forms c = record {
  Form = Operation;
  form = operation_of;
  meaning = motion_of;
  same_form = same_turn;
  alike_form = same_class c;
  times = product_inside;
  form-alike = λ f t. operation-alike c f ((small-test f).0 t);
  same-form = λ f g s t. same-image f g ((small-test f).0 s) ((small-test g).0 t);
  alike-form = λ f g _ _. class-image c f g;
  times-form = λ f h t. product-image c f h ((small-test f).0 t);
}

module _ (c : Centering) where
  pub identity-operation : operation_of identity ≡ identity_operation
  unfolding operation_of digit_of digit_above unit origin one nought residue
  identity-operation = refl

-- Steps keep the rotation.
pub rotation-congruence : (gens : List SpaceMotion) → Congruence same_rotation compose identity gens
unfolding product
rotation-congruence gens f g h _ _ _ t = rotation-same (compose f h) (compose g h) (ap (λ A. times A h.rotation) (same-rotation f g t))

-- The growth of the operations answers what is answered of the motions.
pub growth-answers : (c : Centering) (gens : List Operation) → image_verdict operation_of (verdict (motion_growth c) 48 (motions gens))
    ≡ on_growth (growth c gens)
unfolding growth
growth-answers c gens = rw (← (identity-operation c)) (growth-verdict (motion_growth c) (operation_forms c) 48 (omega arith) gens
    (rotation-congruence (motions gens)))
