-- An operation as one number: the fields, what any number says, the number of an operation, and the answer of a product.
use Rattle.std.specs.Prelude.{◌≡◌, refl, ℕ, ◌+◌, ◌*◌, ◌/◌, ◌%◌, None, Option, Some}
use Rattle.std.proofs.Common.{arith}
use Rattle.operation.specs.Lanes.{lanes_of}
use Rattle.operation.specs.declared.Rotation.{Rotation}
use Rattle.operation.specs.declared.Translation.{Translation}
use Rattle.operation.specs.declared.Operation.{Operation}

-- A row in its lane: digits of two bits at 1, 32 and 1024, four bits of twelfths at 32768.
abbrev pub row_of : ℕ → ℕ → ℕ → ℕ
row_of a b c = a + b * 32 + c * 1024

-- What stands in a field at the start of each lane.
unfoldable pub digit_lanes : ℕ → ℕ
digit_lanes n = lanes_of (n % 4) (n / 2097152 % 4) (n / 4398046511104 % 4)

unfoldable pub twelfth_lanes : ℕ → ℕ
twelfth_lanes n = lanes_of (n % 16) (n / 2097152 % 16) (n / 4398046511104 % 16)

-- The digits of the first row, in their fields.
unfoldable pub row_digits : ℕ → ℕ
row_digits n = row_of (n % 4) (n / 32 % 4) (n / 1024 % 4)

-- All nine: the part of a number that says the rotation.
unfoldable pub key_of : ℕ → ℕ
key_of n = lanes_of (row_digits n) (row_digits (n / 2097152)) (row_digits (n / 4398046511104))

-- What a number says, whatever its bits are.
abbrev pub rotation_said : ℕ → Rotation
rotation_said n =
    record {
      xx = n % 4;
      xy = n / 32 % 4;
      xz = n / 1024 % 4;
      yx = n / 2097152 % 4;
      yy = n / 32 / 2097152 % 4;
      yz = n / 1024 / 2097152 % 4;
      zx = n / 4398046511104 % 4;
      zy = n / 32 / 4398046511104 % 4;
      zz = n / 1024 / 4398046511104 % 4;
    }

abbrev pub translation_said : ℕ → Translation
translation_said n =
    record {
      x = n / 32768 % 16;
      y = n / 32768 / 2097152 % 16;
      z = n / 32768 / 4398046511104 % 16;
    }

abbrev pub said_by : ℕ → Operation
said_by n = record { rotation = rotation_said n; translation = translation_said n }

unfoldable pub flag_of : ℕ → ℕ
flag_of n = n / 9223372036854775808 % 2

-- The number of an operation with digits below 4 and coordinates below 16, and a flag of 0 or 1.
abbrev pub packed_of : Operation → ℕ → ℕ
packed_of o flag =
    let r = o.rotation in
    let t = o.translation in
    lanes_of (row_of r.xx r.xy r.xz) (row_of r.yx r.yy r.yz) (row_of r.zx r.zy r.zz) +
    lanes_of t.x t.y t.z * 32768 +
    flag * 9223372036854775808

-- An operation cut down to what fits the fields: nothing changes where digits are below 4 and coordinates below 16.
abbrev pub narrowed : Operation → Operation
narrowed o =
    let r = o.rotation in
    let t = o.translation in
    record {
      rotation =
          record {
            xx = r.xx % 4;
            xy = r.xy % 4;
            xz = r.xz % 4;
            yx = r.yx % 4;
            yy = r.yy % 4;
            yz = r.yz % 4;
            zx = r.zx % 4;
            zy = r.zy % 4;
            zz = r.zz % 4;
          };
      translation = record { x = t.x % 16; y = t.y % 16; z = t.z % 16 };
    }

-- A product's answer as a number with a flag.
unfoldable pub numbered : Option Operation → ℕ → Option ℕ
numbered (Some o) flag = Some (packed_of o flag)
numbered None flag = None

-- Digits can be found by the row first or by the place in the row first.
pub said-second : (n : ℕ) → row_digits (n / 2097152) ≡ row_of (rotation_said n).yx (rotation_said n).yy (rotation_said n).yz
unfolding row_digits
said-second n =
    let two : n / 2097152 / 32 ≡ n / 32 / 2097152 = omega arith in
    let three : n / 2097152 / 1024 ≡ n / 1024 / 2097152 = omega arith in
    rw (two, three) refl

pub said-third : (n : ℕ) → row_digits (n / 4398046511104) ≡ row_of (rotation_said n).zx (rotation_said n).zy (rotation_said n).zz
unfolding row_digits
said-third n =
    let two : n / 4398046511104 / 32 ≡ n / 32 / 4398046511104 = omega arith in
    let three : n / 4398046511104 / 1024 ≡ n / 1024 / 4398046511104 = omega arith in
    rw (two, three) refl
