-- Nine fields in one number taken apart: the digits in them, and that two tests of the whole number say of each field that it is 8, 9 or 10.
use Rattle.std.specs.Prelude.{◌≡◌, ℕ, ◌+◌, ◌*◌, ◌/◌, ◌%◌, ◌<◌, ◌≤◌, ℤ}
use Rattle.std.proofs.Math.Path.{refl, ap}
use Rattle.std.proofs.Common.{sym, ◌∙◌}
use Rattle.std.proofs.Math.Bool.{true}
use native.Mathlib.Omega.{arith}
use borrow.Author.Tests.{ltb-true, lt-ltb}
use Rattle.std.proofs.Math.Dec.{ltb}
use Rattle.operation.specs.Lanes.{lanes_of, first_lane, second_lane, third-lane}
use Rattle.operation.specs.Entries.{inside-digit, three-true}
use Rattle.operation.specs.Meaning.{digit_of, inside, row_inside}
use Rattle.packed_operation.specs.Number.{row_of, row_digits, key_of}
use Rattle.packed_operation.specs.Rows.{eights_of, Field}

-- ---- a row
module _ (e f g m : ℕ) (he : e < 32) (hf : f < 32) (hg : g < 32) where
  first_field : (row_of e f g + m * 32768) % 4 ≡ e % 4
  first_field = omega arith

  from_second : (row_of e f g + m * 32768) / 32 ≡ f + g * 32 + m * 1024
  from_second = omega arith

  from-third : (row_of e f g + m * 32768) / 1024 ≡ g + m * 32
  from-third = omega arith

  pub first-digit : e < 4 → (row_of e f g + m * 32768) % 4 ≡ e
  first-digit h = omega arith

  pub second-digit : f < 4 → (row_of e f g + m * 32768) / 32 % 4 ≡ f
  second-digit h = rw from_second (omega arith)

  pub third-digit : g < 4 → (row_of e f g + m * 32768) / 1024 % 4 ≡ g
  third-digit h = rw from-third (omega arith)

  pub above-row : (row_of e f g + m * 32768) / 32768 ≡ m
  above-row = omega arith

  -- The digits of a row, whatever stands above it.
  row-fields : row_digits (row_of e f g + m * 32768) ≡ row_of (e % 4) (f % 4) (g % 4)
  unfolding row_digits
  row-fields =
      let second : (row_of e f g + m * 32768) / 32 % 4 ≡ f % 4 = rw from_second (omega arith) in
      let third : (row_of e f g + m * 32768) / 1024 % 4 ≡ g % 4 = rw from-third (omega arith) in
      rw (first_field, second, third) refl

-- A row's digits are no more than the row.
pub row_below : (n : ℕ) → row_digits n ≤ n % 32768
row_below n =
    let whole : row_of (n % 32) (n / 32 % 32) (n / 1024 % 32) + n / 32768 * 32768 ≡ n = omega arith in
    let same = sym (row-fields (n % 32) (n / 32 % 32) (n / 1024 % 32) (n / 32768) (omega arith) (omega arith) (omega arith)) ∙ ap row_digits whole in
    let rest : row_of (n % 32) (n / 32 % 32) (n / 1024 % 32) ≡ n % 32768 = omega arith in
    omega (arith, same, rest)

remainder-below : (n : ℕ) → n % 32768 ≤ n % 2097152
remainder-below n = let e : n % 2097152 % 32768 ≡ n % 32768 = omega arith in omega (arith, e)

pub key_below : (n : ℕ) → key_of n ≤ n
unfolding key_of
key_below n =
    let first = row_below n in
    let second = row_below (n / 2097152) in
    let third = row_below (n / 4398046511104) in
    let lanes : lanes_of (n % 2097152) (n / 2097152 % 2097152) (n / 4398046511104) ≡ n = omega arith in
    let narrow = remainder-below n in
    let narrower = remainder-below (n / 2097152) in
    let less : n / 4398046511104 % 32768 ≤ n / 4398046511104 = omega arith in
    omega (arith, first, second, third, lanes, narrow, narrower, less)

row-parts : (e f g : ℕ) → row_of (e % 4) (f % 4) (g % 4) + row_of (e / 4) (f / 4) (g / 4) * 4 ≡ row_of e f g
row-parts e f g = omega arith

row-two : (a b c : ℕ) → a < 8 → b < 8 → c < 8 → row_of a b c ≡ 2114 → (a ≡ 2) × (b ≡ 2) × (c ≡ 2)
row-two a b c ha hb hc h = (omega arith, omega arith, omega arith)

-- ---- three rows
pub record Small (e f g : ℕ) : Type 0 where
  pub first : e < 32
  pub second : f < 32
  pub third : g < 32

row_small : (e f g : ℕ) → Small e f g → row_of e f g < 32768
row_small e f g s = omega (arith, s.first, s.second, s.third)

module _ (a b c d e f g h i : ℕ) (upper : Small a b c) (middle : Small d e f) (lower : Small g h i) where
  abbrev whole : ℕ
  whole = lanes_of (row_of a b c) (row_of d e f) (row_of g h i)

  abbrev digits : ℕ
  digits = lanes_of (row_of (a % 4) (b % 4) (c % 4)) (row_of (d % 4) (e % 4) (f % 4)) (row_of (g % 4) (h % 4) (i % 4))

  abbrev eighths : ℕ
  eighths = lanes_of (row_of (a / 4) (b / 4) (c / 4)) (row_of (d / 4) (e / 4) (f / 4)) (row_of (g / 4) (h / 4) (i / 4))

  pub key-fields : key_of whole ≡ digits
  unfolding key_of
  key-fields =
      let x = row_of a b c in
      let y = row_of d e f in
      let z = row_of g h i in
      let first = ap row_digits (lanes-first x y z) ∙ row-fields a b c _ upper.first upper.second upper.third in
      let second = ap row_digits (lanes-second x y z (row_small a b c upper)) ∙ row-fields d e f _ middle.first middle.second middle.third in
      let third =
      ap row_digits (lanes-third x y z (row_small a b c upper) (row_small d e f middle))
      ∙ row-fields g h i 0 lower.first lower.second lower.third in
      rw (first, second, third) refl
    where
      lanes-first : (x y z : ℕ) → lanes_of x y z ≡ x + (y * 64 + z * 134217728) * 32768
      lanes-first x y z = omega arith

      lanes-second : (x y z : ℕ) → x < 32768 → lanes_of x y z / 2097152 ≡ y + z * 64 * 32768
      lanes-second x y z hx = omega arith

      lanes-third : (x y z : ℕ) → x < 32768 → y < 32768 → lanes_of x y z / 4398046511104 ≡ z + 0 * 32768
      lanes-third x y z hx hy = omega arith

  whole_parts : digits + eighths * 4 ≡ whole
  whole_parts = parts _ _ _ _ _ _ _ _ _ (row-parts a b c) (row-parts d e f) (row-parts g h i)
    where
      parts : (x y z p q r u v w : ℕ) → x + u * 4 ≡ p → y + v * 4 ≡ q → z + w * 4 ≡ r → lanes_of x y z + lanes_of u v w * 4 ≡ lanes_of p q r
      parts x y z p q r u v w hx hy hz = omega arith

  eights-fields : eights_of whole ≡ eighths * 4
  unfolding eights_of
  eights-fields = rw key-fields (omega (arith, whole_parts))

  pub eights-apart : eights_of whole ≡ 37189899031421192
      → (row_of (a / 4) (b / 4) (c / 4) ≡ 2114) × (row_of (d / 4) (e / 4) (f / 4) ≡ 2114) × (row_of (g / 4) (h / 4) (i / 4) ≡ 2114)
  eights-apart t =
      apart _ _ _ (row_small _ _ _ (eighth a b c upper)) (row_small _ _ _ (eighth d e f middle)) (row_small _ _ _ (eighth g h i lower)) (sym eights-fields ∙ t)
    where
      eighth : (a b c : ℕ) → Small a b c → Small (a / 4) (b / 4) (c / 4)
      eighth a b c s =
          record { first = omega (arith, s.first); second = omega (arith, s.second); third = omega (arith, s.third) }

      apart : (x y z : ℕ) → x < 32768 → y < 32768 → z < 32768 → lanes_of x y z * 4 ≡ 37189899031421192 → (x ≡ 2114) × (y ≡ 2114) × (z ≡ 2114)
      apart x y z hx hy hz e =
          let l : lanes_of x y z ≡ 9297474757855298 = omega arith in (
            sym (first_lane x y z (omega arith) (omega arith)) ∙ ap (λ m. m % 2097152) l,
            sym (second_lane x y z (omega arith) (omega arith)) ∙ ap (λ m. m / 2097152 % 2097152) l,
            sym (third-lane x y z (omega arith) (omega arith)) ∙ ap (λ m. m / 4398046511104) l,
          )

  pub eights-together : row_of (a / 4) (b / 4) (c / 4) ≡ 2114 → row_of (d / 4) (e / 4) (f / 4) ≡ 2114 → row_of (g / 4) (h / 4) (i / 4) ≡ 2114
      → eights_of whole ≡ 37189899031421192
  eights-together hx hy hz = eights-fields ∙ together _ _ _ hx hy hz
    where
      together : (x y z : ℕ) → x ≡ 2114 → y ≡ 2114 → z ≡ 2114 → lanes_of x y z * 4 ≡ 37189899031421192
      together x y z hx hy hz = omega arith

-- ---- a row of entries
module _ (p q s : ℤ) (e f g : ℕ) (first : Field p e) (second : Field q f) (third : Field s g) where
  pub fields-small : Small e f g
  fields-small = record { first = omega (arith, first.small); second = omega (arith, second.small); third = omega (arith, third.small) }

  pub fields-small-next : Small (e + 1) (f + 1) (g + 1)
  fields-small-next = record { first = omega (arith, first.small); second = omega (arith, second.small); third = omega (arith, third.small) }

  pub row-stands : row_inside p q s ≡ true → (row_of (e / 4) (f / 4) (g / 4) ≡ 2114) × (row_of ((e + 1) / 4) ((f + 1) / 4) ((g + 1) / 4) ≡ 2114)
  unfolding row_inside
  row-stands h =
      let (hp, hq, hs) = three-true (inside p) (inside q) (inside s) h in
      let (ea, eb) = first.stands (ltb-true _ _ (sym (inside-digit p) ∙ hp)) in
      let (fa, fb) = second.stands (ltb-true _ _ (sym (inside-digit q) ∙ hq)) in
      let (ga, gb) = third.stands (ltb-true _ _ (sym (inside-digit s) ∙ hs)) in
      (omega arith, omega arith)

  pub row-digits : row_of (e / 4) (f / 4) (g / 4) ≡ 2114 → row_of ((e + 1) / 4) ((f + 1) / 4) ((g + 1) / 4) ≡ 2114
      → (row_inside p q s ≡ true) × (digit_of p ≡ e % 4) × (digit_of q ≡ f % 4) × (digit_of s ≡ g % 4)
  unfolding row_inside
  row-digits h k =
      let sm = fields-small in
      let sn = fields-small-next in
      let (ea, fa, ga) = row-two (e / 4) (f / 4) (g / 4) (omega (arith, sm.first)) (omega (arith, sm.second)) (omega (arith, sm.third)) h in
      let (eb, fb, gb) =
      row-two ((e + 1) / 4) ((f + 1) / 4) ((g + 1) / 4) (omega (arith, sn.first)) (omega (arith, sn.second)) (omega (arith, sn.third)) k in
      let dp = first.digit (omega (arith, ea)) (omega (arith, ea, eb)) in
      let dq = second.digit (omega (arith, fa)) (omega (arith, fa, fb)) in
      let ds = third.digit (omega (arith, ga)) (omega (arith, ga, gb)) in
      let tp : ltb (digit_of p) 3 ≡ true = lt-ltb (digit_of p) 3 (omega (arith, dp, ea, eb)) in
      let tq : ltb (digit_of q) 3 ≡ true = lt-ltb (digit_of q) 3 (omega (arith, dq, fa, fb)) in
      let ts : ltb (digit_of s) 3 ≡ true = lt-ltb (digit_of s) 3 (omega (arith, ds, ga, gb)) in
      (rw (inside-digit p, inside-digit q, inside-digit s, tp, tq, ts) refl, dp, dq, ds)
