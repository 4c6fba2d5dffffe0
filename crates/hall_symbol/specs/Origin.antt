-- What the shift means: the same motion seen from an origin moved by v, that is (I,v)(R,t)(I,−v); and what it does to the inversion and the identity.
use Rattle.std.specs.Prelude.{◌≡◌, ℕ, ◌*◌, ◌%◌, ◌<◌, ℤ, pos, neg_ℤ, ◌+ℤ◌, ◌-ℤ◌}
use Rattle.std.proofs.Common.{sym, ◌∙◌, ap, arith}
use Rattle.laws.specs.Integer.{ring}
use Rattle.laws.specs.Matrix.{Vector, dot, times, act, plus, opposite, unit, unit-times, times-unit, act-unit}
use Rattle.laws.specs.Motion.{product, compose, translation_by}
use Rattle.laws.specs.Residue.{residue, residue-lt, residue-again, residue-add, residue-neg, residue-mul, reduced, triple≡}
use Rattle.operation.specs.Meaning.{entry_of, matrix_of, vector_of, motion_of}
use Rattle.operation.specs.Product.{identity_operation}
use Rattle.operation.specs.Composed.{Reduces}
use Rattle.operation.specs.declared.Translation.{Translation}
use Rattle.operation.specs.declared.Operation.{Operation}
use Rattle.hall_symbol.specs.Shift.{no_shift}
use Rattle.hall_symbol.specs.Generators.{inversion_operation, shift_by, shifted_coordinate, shifted}
use Rattle.hall_symbol.specs.Shifting.{shifted_sum}

-- A row times −v, and t and v added.
row-shifted : (a b c x y z t w : ℤ) → dot a b c (neg_ℤ x) (neg_ℤ y) (neg_ℤ z) +ℤ t +ℤ w ≡ t +ℤ w -ℤ dot a b c x y z
row-shifted a b c x y z t w = simp ring

-- Modulo 12 each coordinate of the shift may be taken by its residue.
row-residue : (a b c x y z t w : ℤ) → residue (t +ℤ pos (residue w) -ℤ dot a b c (pos (residue x)) (pos (residue y)) (pos (residue z)))
    ≡ residue (t +ℤ w -ℤ dot a b c x y z)
row-residue a b c x y z t w = simp (residue-add, residue-neg, residue-mul, residue-again)

-- The translation of (I,v)(R,t)(I,−v).
origin-translation : (v : Vector) (g : Operation) → (compose (translation_by v) (compose (motion_of g) (translation_by (opposite v)))).translation
    ≡ plus (plus (act (matrix_of g.rotation) (opposite v)) (vector_of g.translation)) v
unfolding product motion_of
origin-translation v g = rw (act-unit (plus (act (matrix_of g.rotation) (opposite v)) (vector_of g.translation)))

-- Modulo 12 it is the shifted generator's.
shifted-translation : (v : Vector) (g : Operation)
    → reduced (vector_of (shifted (shift_by v) g).translation) ≡ reduced (plus (plus (act (matrix_of g.rotation) (opposite v)) (vector_of g.translation)) v)
unfolding shifted shifted_coordinate matrix_of vector_of plus act opposite
shifted-translation v g =
    let r = g.rotation in
    let t = g.translation in
    triple≡
    (residue-again _ ∙ row r.xx r.xy r.xz t.x v.x)
    (residue-again _ ∙ row r.yx r.yy r.yz t.y v.y)
    (residue-again _ ∙ row r.zx r.zy r.zz t.z v.z)
  where
    row : (a b c t : ℕ) (w : ℤ) → residue (pos t +ℤ pos (residue w) -ℤ dot (entry_of a) (entry_of b) (entry_of c) (pos (residue v.x))
        (pos (residue v.y)) (pos (residue v.z))) ≡ residue (dot (entry_of a) (entry_of b) (entry_of c) (neg_ℤ v.x) (neg_ℤ v.y) (neg_ℤ
        v.z) +ℤ pos t +ℤ w)
    row a b c t w =
        row-residue (entry_of a) (entry_of b) (entry_of c) v.x v.y v.z (pos t) w
        ∙ ap residue (sym (row-shifted (entry_of a) (entry_of b) (entry_of c) v.x v.y v.z (pos t) w))

-- The shifted generator is that motion, its translation modulo 12: so a shift and its residues give one generator.
pub shift-of-origin : (v : Vector) (g : Operation)
    → Reduces (compose (translation_by v) (compose (motion_of g) (translation_by (opposite v)))) (shifted (shift_by v) g)
unfolding shifted shifted_coordinate product motion_of
shift-of-origin v g =
    record {
      rotation = sym (unit-times (times (matrix_of g.rotation) unit) ∙ times-unit (matrix_of g.rotation));
      translation = shifted-translation v g ∙ ap reduced (sym (origin-translation v g));
      small = (residue-lt _, residue-lt _, residue-lt _);
    }

-- The inversion becomes (−I, 2v mod 12).
pub inversion-shifted : (v : Translation) → shifted v inversion_operation
    ≡ record { rotation = inversion_operation.rotation; translation = record { x = 2 * v.x % 12; y = 2 * v.y % 12; z = 2 * v.z % 12 } }
unfolding shifted
inversion-shifted v =
    let x : shifted_coordinate 0 1 1 v v.x 0 ≡ 2 * v.x % 12 = shifted_sum 0 1 1 v v.x 0 ∙ omega arith in
    let y : shifted_coordinate 1 0 1 v v.y 0 ≡ 2 * v.y % 12 = shifted_sum 1 0 1 v v.y 0 ∙ omega arith in
    let z : shifted_coordinate 1 1 0 v v.z 0 ≡ 2 * v.z % 12 = shifted_sum 1 1 0 v v.z 0 ∙ omega arith in
    rw (x, y, z)

-- The identity stays.
pub identity-shifted : (v : Translation) → shifted v identity_operation ≡ identity_operation
unfolding shifted
identity-shifted v =
    let x : shifted_coordinate 2 1 1 v v.x 0 ≡ 0 = shifted_sum 2 1 1 v v.x 0 ∙ omega arith in
    let y : shifted_coordinate 1 2 1 v v.y 0 ≡ 0 = shifted_sum 1 2 1 v v.y 0 ∙ omega arith in
    let z : shifted_coordinate 1 1 2 v v.z 0 ≡ 0 = shifted_sum 1 1 2 v v.z 0 ∙ omega arith in
    rw (x, y, z)

-- Without a shift a reduced generator stays.
pub unshifted : (g : Operation) → g.translation.x < 12 → g.translation.y < 12 → g.translation.z < 12 → shifted no_shift g ≡ g
unfolding shifted
unshifted g hx hy hz =
    let r = g.rotation in
    let t = g.translation in
    let x : shifted_coordinate r.xx r.xy r.xz no_shift 0 t.x ≡ t.x = shifted_sum r.xx r.xy r.xz no_shift 0 t.x ∙ omega arith in
    let y : shifted_coordinate r.yx r.yy r.yz no_shift 0 t.y ≡ t.y = shifted_sum r.yx r.yy r.yz no_shift 0 t.y ∙ omega arith in
    let z : shifted_coordinate r.zx r.zy r.zz no_shift 0 t.z ≡ t.z = shifted_sum r.zx r.zy r.zz no_shift 0 t.z ∙ omega arith in
    rw (x, y, z)
