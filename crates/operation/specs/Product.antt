-- The product of operations by R3.3: (R,t)(S,u) = (RS, Ru + t), modulo 12, or the answer that an entry of RS has left −1..1.
use Rattle.std.specs.Prelude.{◌≡◌, refl, Bool, true, false, cond, ℕ, ℤ, Option, Some, None}
use Rattle.std.proofs.Common.{ap}
use Rattle.laws.specs.Matrix.{dot, act, plus, times}
use Rattle.laws.specs.Motion.{SpaceMotion, compose}
use Rattle.laws.specs.Residue.{residue}
use Rattle.operation.specs.Meaning.{entry_of, digit_of, matrix_of, vector_of, motion_of, digits_of, row_inside, all_inside}
use Rattle.operation.specs.declared.Rotation.{Rotation}
use Rattle.operation.specs.declared.Translation.{Translation}
use Rattle.operation.specs.declared.Operation.{Operation}
use Rattle.operation.specs.declared.product.Column.{Column}

-- The identity: rotation I, translation (0,0,0).
abbrev pub identity_operation : Operation
identity_operation =
    record {
      rotation = record { xx = 2; xy = 1; xz = 1; yx = 1; yy = 2; yz = 1; zx = 1; zy = 1; zz = 2 };
      translation = record { x = 0; y = 0; z = 0 };
    }

unfoldable pub column_of : ℤ → ℤ → ℤ → Option Column
column_of p q r = cond (row_inside p q r) (Some (record { x = digit_of p; y = digit_of q; z = digit_of r })) None

-- A rotation times a column of digits.
unfoldable pub column_times : Rotation → ℕ → ℕ → ℕ → Option Column
column_times r a b c =
    column_of
    (dot (entry_of r.xx) (entry_of r.xy) (entry_of r.xz) (entry_of a) (entry_of b) (entry_of c))
    (dot (entry_of r.yx) (entry_of r.yy) (entry_of r.yz) (entry_of a) (entry_of b) (entry_of c))
    (dot (entry_of r.zx) (entry_of r.zy) (entry_of r.zz) (entry_of a) (entry_of b) (entry_of c))

-- What an answer says that is there exactly if a test passes.
there : {A : Type 0} (b : Bool) (x y : A) → cond b (Some x) None ≡ Some y → (b ≡ true) × (y ≡ x)
there true x y e = (refl, cc)
there false x y e = cc

missing : {A : Type 0} (b : Bool) (x : A) → cond b (Some x) None ≡ None → b ≡ false
missing true x e = cc
missing false x e = refl

pub column-inside : (p q r : ℤ) (c : Column) → column_of p q r ≡ Some c
    → (row_inside p q r ≡ true) × (c.x ≡ digit_of p) × (c.y ≡ digit_of q) × (c.z ≡ digit_of r)
unfolding column_of
column-inside p q r c e =
    let (h, k) = there (row_inside p q r) (record { x = digit_of p; y = digit_of q; z = digit_of r }) c e in
    (h, ap (λ (d : Column). d.x) k, ap (λ (d : Column). d.y) k, ap (λ (d : Column). d.z) k)

pub column-outside : (p q r : ℤ) → column_of p q r ≡ None → row_inside p q r ≡ false
unfolding column_of
column-outside p q r e = missing (row_inside p q r) _ e

-- The product of rotations, where all its entries are in −1..1.
unfoldable pub rotation_times : Rotation → Rotation → Option Rotation
rotation_times r s =
    let m = times (matrix_of r) (matrix_of s) in
    cond (all_inside m) (Some (digits_of m)) None

pub rotation-inside : (r s t : Rotation) → rotation_times r s ≡ Some t
    → (all_inside (times (matrix_of r) (matrix_of s)) ≡ true) × (t ≡ digits_of (times (matrix_of r) (matrix_of s)))
unfolding rotation_times
rotation-inside r s t e = there (all_inside _) _ t e

pub rotation-outside : (r s : Rotation) → rotation_times r s ≡ None → all_inside (times (matrix_of r) (matrix_of s)) ≡ false
unfolding rotation_times
rotation-outside r s e = missing (all_inside _) _ e

-- A translation rotated and then added to another: Ru + t modulo 12.
unfoldable pub moved_of : Rotation → Translation → Translation → Translation
moved_of r u t =
    let v = plus (act (matrix_of r) (vector_of u)) (vector_of t) in
    record { x = residue v.x; y = residue v.y; z = residue v.z }

-- A rotation applied to a translation: Rt modulo 12.
unfoldable pub rotated_of : Rotation → Translation → Translation
rotated_of r t =
    let v = act (matrix_of r) (vector_of t) in
    record { x = residue v.x; y = residue v.y; z = residue v.z }

-- A motion with entries in −1..1 as an operation, its translation modulo 12.
unfoldable pub operation_of : SpaceMotion → Operation
operation_of m =
    record {
      rotation = digits_of m.rotation;
      translation =
          record {
            x = residue m.translation.x;
            y = residue m.translation.y;
            z = residue m.translation.z;
          };
    }

unfoldable pub product_of : Operation → Operation → Option Operation
product_of f g =
    let m = compose (motion_of f) (motion_of g) in
    cond (all_inside m.rotation) (Some (operation_of m)) None
