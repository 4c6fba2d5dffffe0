-- An operation in two numbers: its first eight entries, and its last one with the translation, a byte each; and a product's answer in the same form.
use Rattle.std.specs.Prelude.{ℕ, ◌+◌, ◌*◌, ◌/◌, ◌%◌, None, Option, Some}
use Rattle.operation.specs.declared.Operation.{Operation}

abbrev pub operation_in : ℕ → ℕ → Operation
operation_in rows rest =
    record {
      rotation =
          record {
            xx = rows % 256;
            xy = rows / 256 % 256;
            xz = rows / 65536 % 256;
            yx = rows / 16777216 % 256;
            yy = rows / 4294967296 % 256;
            yz = rows / 1099511627776 % 256;
            zx = rows / 281474976710656 % 256;
            zy = rows / 72057594037927936 % 256;
            zz = rest % 256;
          };
      translation = record { x = rest / 256 % 256; y = rest / 65536 % 256; z = rest / 16777216 % 256 };
    }

abbrev pub rows_of : Operation → ℕ
rows_of o =
    let r = o.rotation in
    r.xx + r.xy * 256 + r.xz * 65536 + r.yx * 16777216 + r.yy * 4294967296 + r.yz * 1099511627776 + r.zx * 281474976710656 + r.zy * 72057594037927936

abbrev pub rest_of : Operation → ℕ
rest_of o =
    let t = o.translation in
    o.rotation.zz + t.x * 256 + t.y * 65536 + t.z * 16777216

abbrev pub product_rows : Option Operation → ℕ
product_rows (Some o) = rows_of o
product_rows None = 0

abbrev pub product_rest : Option Operation → ℕ
product_rest (Some o) = rest_of o
product_rest None = 4294967296

-- Bit 62 belongs to no field of a number.
abbrev pub number_told : Option ℕ → ℕ
number_told (Some n) = n
number_told None = 4611686018427387904
