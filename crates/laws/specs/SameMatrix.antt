-- Tests that decide whether two integers, two matrices, or the rotations of two motions are equal.
use Rattle.std.specs.Prelude.{◌≡◌, refl, Bool, false, ◌&&◌, true, T, eqb, ℤ, pos, negsuc, ◌↔◌}
use Rattle.std.proofs.Common.{sym, ◌∙◌, ap, eqb→eq}
use Rattle.std.proofs.Math.Dec.{eqb_refl}
use Rattle.laws.specs.Matrix.{Matrix, matrix≡}
use Rattle.laws.specs.Motion.{SpaceMotion}
use Rattle.laws.specs.Distinct.{DecidesEquality, Equivalence}
use Rattle.laws.specs.Truth.{and_left, and_right, both, T_true, true-T}

-- whether two integers are equal
abbrev pub same_integer : ℤ → ℤ → Bool
same_integer (pos a) (pos b) = eqb a b
same_integer (pos a) (negsuc b) = false
same_integer (negsuc a) (pos b) = false
same_integer (negsuc a) (negsuc b) = eqb a b

-- an integer is equal to itself
pub integer-same : (a : ℤ) → T (same_integer a a)
integer-same (pos a) = eqb_refl a
integer-same (negsuc a) = eqb_refl a

-- integers that pass the test are equal
pub same-integer : (a b : ℤ) → T (same_integer a b) → a ≡ b
same-integer (pos a) (pos b) t = ap pos (eqb→eq a b t)
same-integer (negsuc a) (negsuc b) t = ap negsuc (eqb→eq a b t)
same-integer (pos a) (negsuc b) t = elim t [ ]
same-integer (negsuc a) (pos b) t = elim t [ ]

-- the test as an equation
pub integer-exact : (a b : ℤ) → (same_integer a b ≡ true) ↔ (a ≡ b)
integer-exact a b = ((λ e. same-integer a b (true-T e)), λ p. T_true (rw p (integer-same b)))

-- whether two rows of three are equal
unfoldable pub same_row : ℤ → ℤ → ℤ → ℤ → ℤ → ℤ → Bool
same_row a b c x y z = same_integer a x && (same_integer b y && same_integer c z)

-- a row is equal to itself
pub row_same : (a b c : ℤ) → T (same_row a b c a b c)
unfolding same_row
row_same a b c = both (same_integer a a) _ (integer-same a) (both (same_integer b b) _ (integer-same b) (integer-same c))

-- rows that pass the test have equal entries
pub same_row_lem : (a b c x y z : ℤ) → T (same_row a b c x y z) → (a ≡ x) × (b ≡ y) × (c ≡ z)
unfolding same_row
same_row_lem a b c x y z t =
    let rest = and_right (same_integer a x) _ t in (
      same-integer a x (and_left (same_integer a x) _ t),
      same-integer b y (and_left (same_integer b y) _ rest),
      same-integer c z (and_right (same_integer b y) _ rest),
    )

-- whether two matrices are equal
unfoldable pub same_matrix : Matrix → Matrix → Bool
unfolding same_row
same_matrix A B =
    same_row A.xx A.xy A.xz B.xx B.xy B.xz
    && (same_row A.yx A.yy A.yz B.yx B.yy B.yz && same_row A.zx A.zy A.zz B.zx B.zy B.zz)

-- the test of matrices decides their equality
pub matrix-decides : DecidesEquality same_matrix
unfolding same_matrix
matrix-decides = record {
  reflexive = λ A. both (same_row A.xx A.xy A.xz A.xx A.xy A.xz) _ (row_same A.xx A.xy A.xz)
      (both (same_row A.yx A.yy A.yz A.yx A.yy A.yz) _ (row_same A.yx A.yy A.yz) (row_same A.zx A.zy A.zz));
  exact = λ A B t.
      let first = same_row A.xx A.xy A.xz B.xx B.xy B.xz in
      let second = same_row A.yx A.yy A.yz B.yx B.yy B.yz in
      let rest = and_right first _ t in
      let x = same_row_lem A.xx A.xy A.xz B.xx B.xy B.xz (and_left first _ t) in
      let y = same_row_lem A.yx A.yy A.yz B.yx B.yy B.yz (and_left second _ rest) in
      let z = same_row_lem A.zx A.zy A.zz B.zx B.zy B.zz (and_right second _ rest) in
      matrix≡ x.0 x.1 x.2 y.0 y.1 y.2 z.0 z.1 z.2;
}

-- the test of matrices as an equation
pub matrix-exact : (A B : Matrix) → (same_matrix A B ≡ true) ↔ (A ≡ B)
matrix-exact A B = ((λ e. matrix-decides.exact A B (true-T e)), λ p. T_true (rw p (matrix-decides.reflexive B)))

-- whether two motions have the same rotation
abbrev pub same_rotation : SpaceMotion → SpaceMotion → Bool
same_rotation f g = same_matrix f.rotation g.rotation

-- motions that pass the test have equal rotations
pub same-rotation : (f g : SpaceMotion) → T (same_rotation f g) → f.rotation ≡ g.rotation
same-rotation f g = matrix-decides.exact f.rotation g.rotation

-- motions with equal rotations pass the test
pub rotation-same : (f g : SpaceMotion) → f.rotation ≡ g.rotation → T (same_rotation f g)
rotation-same f g p = rw p (matrix-decides.reflexive g.rotation)

-- to have the same rotation is an equivalence
pub rotation-equivalence : Equivalence same_rotation
rotation-equivalence = record {
  reflexive = λ f. rotation-same f f refl;
  symmetric = λ f g t. rotation-same g f (sym (same-rotation f g t));
  transitive = λ f g h s t. rotation-same f h (same-rotation f g s ∙ same-rotation g h t);
}
