-- What the numbers of the code mean: a digit is an entry of a matrix, a rotation an integer matrix, an operation a motion of space.
use Rattle.std.specs.Prelude.{◌≡◌, Bool, ◌&&◌, ℕ, zero, suc, ◌≤◌, leb, ℤ, pos, negsuc, nat_abs, ◌+ℤ◌, ◌-ℤ◌}
use Rattle.std.proofs.Math.IntN.{one}
use Rattle.laws.specs.Matrix.{Matrix, Vector}
use Rattle.laws.specs.Motion.{SpaceMotion}
use Rattle.operation.specs.declared.Rotation.{Rotation}
use Rattle.operation.specs.declared.Translation.{Translation}
use Rattle.operation.specs.declared.Operation.{Operation}

-- The digit d stands for the entry d − 1, whatever d is.
unfoldable pub entry_of : ℕ → ℤ
entry_of d = pos d -ℤ one

-- The rotation's matrix.
unfoldable pub matrix_of : Rotation → Matrix
matrix_of r =
    record {
      xx = entry_of r.xx;
      xy = entry_of r.xy;
      xz = entry_of r.xz;
      yx = entry_of r.yx;
      yy = entry_of r.yy;
      yz = entry_of r.yz;
      zx = entry_of r.zx;
      zy = entry_of r.zy;
      zz = entry_of r.zz;
    }

-- The translation's vector, in twelfths.
unfoldable pub vector_of : Translation → Vector
vector_of t = record { x = pos t.x; y = pos t.y; z = pos t.z }

unfoldable pub motion_of : Operation → SpaceMotion
motion_of f = record { rotation = matrix_of f.rotation; translation = vector_of f.translation }

-- Back from a number e + 1: 0, 1, 2 are the digits of −1, 0, 1, and 3 says that the entry has left −1..1.
unfoldable pub digit_above : ℤ → ℕ
digit_above (pos zero) = 0
digit_above (pos (suc zero)) = 1
digit_above (pos (suc (suc zero))) = 2
digit_above (pos (suc (suc (suc n)))) = 3
digit_above (negsuc n) = 3

unfoldable pub digit_of : ℤ → ℕ
digit_of e = digit_above (e +ℤ one)

-- The digits of a matrix of any integers.
abbrev pub digits_of : Matrix → Rotation
digits_of A =
    record {
      xx = digit_of A.xx;
      xy = digit_of A.xy;
      xz = digit_of A.xz;
      yx = digit_of A.yx;
      yy = digit_of A.yy;
      yz = digit_of A.yz;
      zx = digit_of A.zx;
      zy = digit_of A.zy;
      zz = digit_of A.zz;
    }

-- Each digit is 0, 1 or 2: each entry is −1, 0 or 1.
pub record Digits (r : Rotation) : Type 0 where
  pub xx : r.xx ≤ 2
  pub xy : r.xy ≤ 2
  pub xz : r.xz ≤ 2
  pub yx : r.yx ≤ 2
  pub yy : r.yy ≤ 2
  pub yz : r.yz ≤ 2
  pub zx : r.zx ≤ 2
  pub zy : r.zy ≤ 2
  pub zz : r.zz ≤ 2

pub rotation≡ : {r s : Rotation} → r.xx ≡ s.xx → r.xy ≡ s.xy → r.xz ≡ s.xz → r.yx ≡ s.yx → r.yy ≡ s.yy → r.yz ≡ s.yz → r.zx ≡ s.zx → r.zy ≡ s.zy
    → r.zz ≡ s.zz → r ≡ s
rotation≡ xx xy xz yx yy yz zx zy zz =
    λ i. record { xx = xx i; xy = xy i; xz = xz i; yx = yx i; yy = yy i; yz = yz i; zx = zx i; zy = zy i; zz = zz i }

-- Whether an entry is in −1..1; three of a row; all nine of a matrix.
unfoldable pub inside : ℤ → Bool
inside e = leb (nat_abs e) 1

unfoldable pub row_inside : ℤ → ℤ → ℤ → Bool
row_inside p q r = inside p && inside q && inside r

unfoldable pub all_inside : Matrix → Bool
all_inside A =
    row_inside A.xx A.xy A.xz && row_inside A.yx A.yy A.yz && row_inside A.zx A.zy A.zz
