-- The product of what two numbers say: when the two tests of the nine fields pass, and that the answer is then the number of the product.
use Rattle.std.specs.Prelude.{◌≡◌, Bool, true, false, cond, ℕ, ◌+◌, ◌*◌, ◌≤◌, ℤ, None, Some}
use Rattle.std.proofs.Math.Path.{refl, sym, ap}
use Rattle.std.proofs.Common.{◌∙◌, arith}
use Rattle.std.proofs.lemmas.Bool.{false≢true}
use Rattle.laws.specs.Matrix.{Vector, dot, times, act, plus}
use Rattle.laws.specs.Motion.{product}
use Rattle.laws.specs.Residue.{residue}
use Rattle.operation.specs.Entries.{three-true}
use Rattle.operation.specs.Lanes.{lanes_of}
use Rattle.operation.specs.Meaning.{entry_of, digit_of, matrix_of, vector_of, motion_of, row_inside, all_inside}
use Rattle.operation.specs.Product.{product_of, operation_of}
use Rattle.operation.specs.declared.Rotation.{Rotation}
use Rattle.operation.specs.declared.Operation.{Operation}
use Rattle.packed_operation.specs.Number.{row_of, key_of, packed_of, numbered}
use Rattle.packed_operation.specs.Rows.{field, row_times, raised_rows, eights_of, Field, the_field, Narrow}
use Rattle.packed_operation.specs.Fields.{key-fields, eights-apart, eights-together, fields-small, fields-small-next, row-stands, row-digits}

-- ---- the nine entries
module _ (r s : Rotation) (left : Narrow r) (right : Narrow s) where
  -- The entries of a row of digits times the three columns, and their fields.
  abbrev entry_x : ℕ → ℕ → ℕ → ℤ
  entry_x a b c = dot (entry_of a) (entry_of b) (entry_of c) (entry_of s.xx) (entry_of s.yx) (entry_of s.zx)

  abbrev entry_y : ℕ → ℕ → ℕ → ℤ
  entry_y a b c = dot (entry_of a) (entry_of b) (entry_of c) (entry_of s.xy) (entry_of s.yy) (entry_of s.zy)

  abbrev entry_z : ℕ → ℕ → ℕ → ℤ
  entry_z a b c = dot (entry_of a) (entry_of b) (entry_of c) (entry_of s.xz) (entry_of s.yz) (entry_of s.zz)

  abbrev field_x : ℕ → ℕ → ℕ → ℕ
  field_x a b c = field a b c s.xx s.yx s.zx

  abbrev field_y : ℕ → ℕ → ℕ → ℕ
  field_y a b c = field a b c s.xy s.yy s.zy

  abbrev field_z : ℕ → ℕ → ℕ → ℕ
  field_z a b c = field a b c s.xz s.yz s.zz

  record RowFields (a b c : ℕ) : Type 0 where
    x : Field (entry_x a b c) (field_x a b c)
    y : Field (entry_y a b c) (field_y a b c)
    z : Field (entry_z a b c) (field_z a b c)

  row-of-fields : (a b c : ℕ) → a ≤ 3 → b ≤ 3 → c ≤ 3 → RowFields a b c
  row-of-fields a b c ha hb hc =
      record {
        x = the_field a b c _ _ _ ha hb hc right.xx right.yx right.zx;
        y = the_field a b c _ _ _ ha hb hc right.xy right.yy right.zy;
        z = the_field a b c _ _ _ ha hb hc right.xz right.yz right.zz;
      }

  upper : RowFields r.xx r.xy r.xz
  upper = row-of-fields _ _ _ left.xx left.xy left.xz

  middle : RowFields r.yx r.yy r.yz
  middle = row-of-fields _ _ _ left.yx left.yy left.yz

  lower : RowFields r.zx r.zy r.zz
  lower = row-of-fields _ _ _ left.zx left.zy left.zz

  pub rows-small : raised_rows r s ≤ 139462121367829470
  rows-small = whole _ _ _ (row-at-most _ _ _ upper) (row-at-most _ _ _ middle) (row-at-most _ _ _ lower)
    where
      row-at-most : (a b c : ℕ) → RowFields a b c → row_times a b c s ≤ 31710
      row-at-most a b c t = omega (arith, t.x.small, t.y.small, t.z.small)

      whole : (x y z : ℕ) → x ≤ 31710 → y ≤ 31710 → z ≤ 31710 → lanes_of x y z ≤ 139462121367829470
      whole x y z hx hy hz = omega arith

  -- The whole number, and the next number in each field.
  abbrev next : ℕ → ℕ → ℕ → ℕ
  next a b c = row_of (field_x a b c + 1) (field_y a b c + 1) (field_z a b c + 1)

  next-fields : raised_rows r s + 4648737378927649 ≡ lanes_of (next r.xx r.xy r.xz) (next r.yx r.yy r.yz) (next r.zx r.zy r.zz)
  next-fields = omega arith

  module _ (h : all_inside (times (matrix_of r) (matrix_of s)) ≡ true) where
    rows_inside : (row_inside (entry_x r.xx r.xy r.xz) (entry_y r.xx r.xy r.xz) (entry_z r.xx r.xy r.xz) ≡ true)
        × (row_inside (entry_x r.yx r.yy r.yz) (entry_y r.yx r.yy r.yz) (entry_z r.yx r.yy r.yz) ≡ true)
        × (row_inside (entry_x r.zx r.zy r.zz) (entry_y r.zx r.zy r.zz) (entry_z r.zx r.zy r.zz) ≡ true)
    unfolding all_inside times matrix_of
    rows_inside = three-true _ _ _ h

    -- Entries in −1..1 pass both tests.
    pub passes : eights_of (raised_rows r s) ≡ 37189899031421192
    passes =
        let (hx, hy, hz) = rows_inside in
        eights-together _ _ _ _ _ _ _ _ _
        (fields-small _ _ _ _ _ _ upper.x upper.y upper.z)
        (fields-small _ _ _ _ _ _ middle.x middle.y middle.z)
        (fields-small _ _ _ _ _ _ lower.x lower.y lower.z)
        (row-stands _ _ _ _ _ _ upper.x upper.y upper.z hx).0
        (row-stands _ _ _ _ _ _ middle.x middle.y middle.z hy).0
        (row-stands _ _ _ _ _ _ lower.x lower.y lower.z hz).0

    pub passes-next : eights_of (raised_rows r s + 4648737378927649) ≡ 37189899031421192
    passes-next =
        let (hx, hy, hz) = rows_inside in
        ap eights_of next-fields ∙
        eights-together _ _ _ _ _ _ _ _ _
        (fields-small-next _ _ _ _ _ _ upper.x upper.y upper.z)
        (fields-small-next _ _ _ _ _ _ middle.x middle.y middle.z)
        (fields-small-next _ _ _ _ _ _ lower.x lower.y lower.z)
        (row-stands _ _ _ _ _ _ upper.x upper.y upper.z hx).1
        (row-stands _ _ _ _ _ _ middle.x middle.y middle.z hy).1
        (row-stands _ _ _ _ _ _ lower.x lower.y lower.z hz).1

  -- What passes both has its entries in −1..1, and its key has their digits.
  abbrev row_key : ℕ → ℕ → ℕ → ℕ
  row_key a b c = row_of (digit_of (entry_x a b c)) (digit_of (entry_y a b c)) (digit_of (entry_z a b c))

  module _ (h : eights_of (raised_rows r s) ≡ 37189899031421192) (k : eights_of (raised_rows r s + 4648737378927649) ≡ 37189899031421192) where
    pub passed : (all_inside (times (matrix_of r) (matrix_of s)) ≡ true)
        × (key_of (raised_rows r s) ≡ lanes_of (row_key r.xx r.xy r.xz) (row_key r.yx r.yy r.yz) (row_key r.zx r.zy r.zz))
    unfolding all_inside times matrix_of
    passed =
        let ux = fields-small _ _ _ _ _ _ upper.x upper.y upper.z in
        let uy = fields-small _ _ _ _ _ _ middle.x middle.y middle.z in
        let uz = fields-small _ _ _ _ _ _ lower.x lower.y lower.z in
        let nx = fields-small-next _ _ _ _ _ _ upper.x upper.y upper.z in
        let ny = fields-small-next _ _ _ _ _ _ middle.x middle.y middle.z in
        let nz = fields-small-next _ _ _ _ _ _ lower.x lower.y lower.z in
        let (ax, ay, az) = eights-apart _ _ _ _ _ _ _ _ _ ux uy uz h in
        let (bx, by, bz) = eights-apart _ _ _ _ _ _ _ _ _ nx ny nz (sym (ap eights_of next-fields) ∙ k) in
        let (ix, xx, xy, xz) = row-digits _ _ _ _ _ _ upper.x upper.y upper.z ax bx in
        let (iy, yx, yy, yz) = row-digits _ _ _ _ _ _ middle.x middle.y middle.z ay by in
        let (iz, zx, zy, zz) = row-digits _ _ _ _ _ _ lower.x lower.y lower.z az bz in (
          rw (ix, iy, iz) refl,
          key-fields _ _ _ _ _ _ _ _ _ ux uy uz ∙ sym (λ i. lanes_of (row_of (xx i) (xy i) (xz i)) (row_of (yx i) (yy i) (yz i)) (row_of (zx i) (zy i) (zz i))),
        )

-- ---- the answer
-- The translation of the product, in lanes.
abbrev pub moved_by : Operation → Operation → Vector
moved_by f g = plus (act (matrix_of f.rotation) (vector_of g.translation)) (vector_of f.translation)

unfoldable pub moved_lanes : Operation → Operation → ℕ
moved_lanes f g =
    let v = moved_by f g in
    lanes_of (residue v.x) (residue v.y) (residue v.z)

-- What comes of a choice that is settled.
settled : (b : Bool) (o : Operation) (flag : ℕ) → b ≡ true → numbered (cond b (Some o) None) flag ≡ Some (packed_of o flag)
unfolding numbered
settled true o flag h = refl
settled false o flag h = absurd (false≢true h)

refused : (b : Bool) (o : Operation) (flag : ℕ) → (b ≡ true → ⊥) → numbered (cond b (Some o) None) flag ≡ None
unfolding numbered
refused true o flag h = absurd (h refl)
refused false o flag h = refl

module _ (f g : Operation) (flag : ℕ) (left : Narrow f.rotation) (right : Narrow g.rotation) where
  pub product-outside : (eights_of (raised_rows f.rotation g.rotation) ≡ 37189899031421192 → ⊥) → None ≡ numbered (product_of f g) flag
  unfolding product_of product motion_of
  product-outside off = sym (refused _ _ flag (λ h. off (passes f.rotation g.rotation left right h)))

  pub product-outside-next : (eights_of (raised_rows f.rotation g.rotation + 4648737378927649) ≡ 37189899031421192 → ⊥)
      → None ≡ numbered (product_of f g) flag
  unfolding product_of product motion_of
  product-outside-next off = sym (refused _ _ flag (λ h. off (passes-next f.rotation g.rotation left right h)))

  pub product_inside : eights_of (raised_rows f.rotation g.rotation) ≡ 37189899031421192
      → eights_of (raised_rows f.rotation g.rotation + 4648737378927649) ≡ 37189899031421192
      → Some (key_of (raised_rows f.rotation g.rotation) + moved_lanes f g * 32768 + flag * 9223372036854775808) ≡ numbered (product_of f g) flag
  unfolding product_of product motion_of operation_of moved_lanes times matrix_of
  product_inside h k =
      let (inside, key) = passed f.rotation g.rotation left right h k in
      ap (λ n. Some (n + moved_lanes f g * 32768 + flag * 9223372036854775808)) key ∙ sym (settled _ _ flag inside)
