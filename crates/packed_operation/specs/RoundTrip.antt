-- There and back: an operation's number says it, with its flag, and numbers have one key exactly if they say one rotation.
use Rattle.std.specs.Prelude.{◌≡◌, refl, ◌↔◌, ℕ, ◌+◌, ◌*◌, ◌/◌, ◌%◌, ◌<◌, ◌≤◌}
use Rattle.std.proofs.Common.{sym, ◌∙◌, ap}
use native.Mathlib.Omega.{arith}
use Rattle.operation.specs.Lanes.{lanes_of, first_lane, second_lane, third-lane}
use Rattle.operation.specs.Meaning.{rotation≡}
use Rattle.operation.specs.declared.Rotation.{Rotation}
use Rattle.operation.specs.declared.Translation.{Translation}
use Rattle.operation.specs.declared.Operation.{Operation}
use Rattle.packed_operation.specs.Number.{row_of, row_digits, key_of, rotation_said, translation_said, said_by, flag_of, packed_of, said-second, said-third}
use Rattle.packed_operation.specs.Rows.{Narrow, said-narrow}
use Rattle.packed_operation.specs.Fields.{first-digit, second-digit, third-digit, above-row}
use Rattle.packed_operation.specs.Moved.{Short}

-- ---- a number of rows with something above each
module _ (a b c d e f g h i l m n : ℕ) (whole : ℕ) (upper : whole ≡ row_of a b c + l * 32768) (middle : whole / 2097152
    ≡ row_of d e f + m * 32768) (lower : whole / 4398046511104 ≡ row_of g h i + n * 32768) where
  swapped : (k : ℕ) → k / 32 / 2097152 ≡ k / 2097152 / 32
  swapped k = omega arith

  swapped-more : (k : ℕ) → k / 1024 / 2097152 ≡ k / 2097152 / 1024
  swapped-more k = omega arith

  swapped-third : (k : ℕ) → k / 32 / 4398046511104 ≡ k / 4398046511104 / 32
  swapped-third k = omega arith

  swapped-third-more : (k : ℕ) → k / 1024 / 4398046511104 ≡ k / 4398046511104 / 1024
  swapped-third-more k = omega arith

  rows-said : (r : Rotation) → Narrow r → a ≡ r.xx → b ≡ r.xy → c ≡ r.xz → d ≡ r.yx → e ≡ r.yy → f ≡ r.yz → g ≡ r.zx → h ≡ r.zy → i ≡ r.zz
      → rotation_said whole ≡ r
  rows-said r narrow ea eb ec ed ee ef eg eh ei =
      rotation≡
      (ap (λ k. k % 4) upper ∙ first-digit a b c l sa sb sc (omega (arith, narrow.xx)) ∙ ea)
      (ap (λ k. k / 32 % 4) upper ∙ second-digit a b c l sa sb sc (omega (arith, narrow.xy)) ∙ eb)
      (ap (λ k. k / 1024 % 4) upper ∙ third-digit a b c l sa sb sc (omega (arith, narrow.xz)) ∙ ec)
      (ap (λ k. k % 4) middle ∙ first-digit d e f m sd se sf (omega (arith, narrow.yx)) ∙ ed)
      (ap (λ k. k % 4) (swapped whole) ∙ ap (λ k. k / 32 % 4) middle ∙ second-digit d e f m sd se sf (omega (arith, narrow.yy)) ∙ ee)
      (ap (λ k. k % 4) (swapped-more whole) ∙ ap (λ k. k / 1024 % 4) middle ∙ third-digit d e f m sd se sf (omega (arith, narrow.yz)) ∙ ef)
      (ap (λ k. k % 4) lower ∙ first-digit g h i n sg sh si (omega (arith, narrow.zx)) ∙ eg)
      (ap (λ k. k % 4) (swapped-third whole) ∙ ap (λ k. k / 32 % 4) lower ∙ second-digit g h i n sg sh si (omega (arith, narrow.zy)) ∙ eh)
      (ap (λ k. k % 4) (swapped-third-more whole) ∙ ap (λ k. k / 1024 % 4) lower ∙ third-digit g h i n sg sh si (omega (arith, narrow.zz)) ∙ ei)
    where
      sa : a < 32
      sa = omega (arith, narrow.xx)

      sb : b < 32
      sb = omega (arith, narrow.xy)

      sc : c < 32
      sc = omega (arith, narrow.xz)

      sd : d < 32
      sd = omega (arith, narrow.yx)

      se : e < 32
      se = omega (arith, narrow.yy)

      sf : f < 32
      sf = omega (arith, narrow.yz)

      sg : g < 32
      sg = omega (arith, narrow.zx)

      sh : h < 32
      sh = omega (arith, narrow.zy)

      si : i < 32
      si = omega (arith, narrow.zz)

-- ---- the number of an operation
module _ (o : Operation) (flag : ℕ) (narrow : Narrow o.rotation) (short : Short o.translation) where
  abbrev r : Rotation
  r = o.rotation

  abbrev t : Translation
  t = o.translation

  first : (x y z p q s k : ℕ) → lanes_of x y z + lanes_of p q s * 32768 + k * 9223372036854775808
      ≡ x + (p + (y + q * 32768) * 64 + (z + s * 32768) * 134217728 + k * 281474976710656) * 32768
  first x y z p q s k = omega arith

  second : (x y z p q s k : ℕ) → x ≤ 3171 → p ≤ 15
      → (lanes_of x y z + lanes_of p q s * 32768 + k * 9223372036854775808) / 2097152 ≡ y + (q + (z + s * 32768) * 64 + k * 134217728) * 32768
  second x y z p q s k hx hp = omega arith

  third : (x y z p q s k : ℕ) → x ≤ 3171 → p ≤ 15 → y ≤ 3171 → q ≤ 15
      → (lanes_of x y z + lanes_of p q s * 32768 + k * 9223372036854775808) / 4398046511104 ≡ z + (s + k * 64) * 32768
  third x y z p q s k hx hp hy hq = omega arith

  hx : row_of r.xx r.xy r.xz ≤ 3171
  hx = omega (arith, narrow.xx, narrow.xy, narrow.xz)

  hy : row_of r.yx r.yy r.yz ≤ 3171
  hy = omega (arith, narrow.yx, narrow.yy, narrow.yz)

  hz : row_of r.zx r.zy r.zz ≤ 3171
  hz = omega (arith, narrow.zx, narrow.zy, narrow.zz)

  rotation-said : rotation_said (packed_of o flag) ≡ r
  rotation-said =
      rows-said _ _ _ _ _ _ _ _ _ _ _ _ _
      (first _ _ _ _ _ _ _)
      (second _ _ _ _ _ _ _ hx short.x)
      (third _ _ _ _ _ _ _ hx short.x hy short.y)
      r
      narrow
      refl
      refl
      refl
      refl
      refl
      refl
      refl
      refl
      refl

  pub flag-said : flag ≤ 1 → flag_of (packed_of o flag) ≡ flag
  unfolding flag_of
  flag-said h = whole _ _ _ _ _ _ flag hx hy hz short.x short.y short.z h
    where
      whole : (x y z p q s k : ℕ) → x ≤ 3171 → y ≤ 3171 → z ≤ 3171 → p ≤ 15 → q ≤ 15 → s ≤ 15 → k ≤ 1
          → (lanes_of x y z + lanes_of p q s * 32768 + k * 9223372036854775808) / 9223372036854775808 % 2 ≡ k
      whole x y z p q s k hx hy hz hp hq hs hk =
          let e : (lanes_of x y z + lanes_of p q s * 32768 + k * 9223372036854775808) / 9223372036854775808 ≡ k = omega arith in
          rw e (omega arith)

  twelfths-above : (k p y z : ℕ) → p ≤ 15 → (p + y * 64 + z * 134217728 + k * 281474976710656) % 16 ≡ p
  twelfths-above k p y z h = omega arith

  twelfths-above-second : (k p z : ℕ) → p ≤ 15 → (p + z * 64 + k * 134217728) % 16 ≡ p
  twelfths-above-second k p z h = omega arith

  twelfths-above-third : (k p : ℕ) → p ≤ 15 → (p + k * 64) % 16 ≡ p
  twelfths-above-third k p h = omega arith

  translation-said : translation_said (packed_of o flag) ≡ t
  translation-said =
      let x = ap (λ k. k / 32768 % 16) (first _ _ _ _ _ _ flag)
      ∙ ap (λ k. k % 16) (above-row r.xx r.xy r.xz _ (omega (arith, narrow.xx)) (omega (arith, narrow.xy)) (omega (arith, narrow.xz)))
      ∙ twelfths-above flag _ _ _ short.x in
      let y = ap (λ k. k % 16) (swap (packed_of o flag)) ∙ ap (λ k. k / 32768 % 16) (second _ _ _ _ _ _ flag hx short.x)
      ∙ ap (λ k. k % 16) (above-row r.yx r.yy r.yz _ (omega (arith, narrow.yx)) (omega (arith, narrow.yy)) (omega (arith, narrow.yz)))
      ∙ twelfths-above-second flag _ _ short.y in
      let z = ap (λ k. k % 16) (swap-more (packed_of o flag)) ∙ ap (λ k. k / 32768 % 16) (third _ _ _ _ _ _ flag hx short.x hy short.y)
      ∙ ap (λ k. k % 16) (above-row r.zx r.zy r.zz _ (omega (arith, narrow.zx)) (omega (arith, narrow.zy)) (omega (arith, narrow.zz)))
      ∙ twelfths-above-third flag _ short.z in
      λ i. record { x = x i; y = y i; z = z i }
    where
      swap : (k : ℕ) → k / 32768 / 2097152 ≡ k / 2097152 / 32768
      swap k = omega arith

      swap-more : (k : ℕ) → k / 32768 / 4398046511104 ≡ k / 4398046511104 / 32768
      swap-more k = omega arith

  -- What was made a number is said by it.
  pub number-says : said_by (packed_of o flag) ≡ o
  number-says = λ i. record { rotation = rotation-said i; translation = translation-said i }

-- ---- keys
-- The key of a rotation, which is that of every number that says it.
abbrev pub keyed : Rotation → ℕ
keyed r = lanes_of (row_of r.xx r.xy r.xz) (row_of r.yx r.yy r.yz) (row_of r.zx r.zy r.zz)

pub key-said : (n : ℕ) → key_of n ≡ keyed (rotation_said n)
unfolding key_of row_digits
key-said n = λ i. lanes_of (row_of (n % 4) (n / 32 % 4) (n / 1024 % 4)) (said-second n i) (said-third n i)

rows-equal : (a b c d e f : ℕ) → a ≤ 3 → b ≤ 3 → c ≤ 3 → d ≤ 3 → e ≤ 3 → f ≤ 3 → row_of a b c ≡ row_of d e f → (a ≡ d) × (b ≡ e) × (c ≡ f)
rows-equal a b c d e f ha hb hc hd he hf p = (omega arith, omega arith, omega arith)

row_small : (a b c : ℕ) → a ≤ 3 → b ≤ 3 → c ≤ 3 → row_of a b c < 2097152
row_small a b c ha hb hc = omega arith

-- Two numbers have one key exactly if they say one rotation.
pub key-exactly : (m n : ℕ) → (key_of m ≡ key_of n) ↔ (rotation_said m ≡ rotation_said n)
key-exactly m n = (there, λ p. key-said m ∙ ap keyed p ∙ sym (key-said n))
  where
    apart : (r s : Rotation) → Narrow r → Narrow s → keyed r ≡ keyed s → r ≡ s
    apart r s u v p =
        let xr = row_small _ _ _ u.xx u.xy u.xz in
        let yr = row_small _ _ _ u.yx u.yy u.yz in
        let xs = row_small _ _ _ v.xx v.xy v.xz in
        let ys = row_small _ _ _ v.yx v.yy v.yz in
        let (xx, xy, xz) =
        rows-equal _ _ _ _ _ _ u.xx u.xy u.xz v.xx v.xy v.xz
        (sym (first_lane _ _ _ xr yr) ∙ ap (λ k. k % 2097152) p ∙ first_lane _ _ _ xs ys) in
        let (yx, yy, yz) =
        rows-equal _ _ _ _ _ _ u.yx u.yy u.yz v.yx v.yy v.yz
        (sym (second_lane _ _ _ xr yr) ∙ ap (λ k. k / 2097152 % 2097152) p ∙ second_lane _ _ _ xs ys) in
        let (zx, zy, zz) =
        rows-equal _ _ _ _ _ _ u.zx u.zy u.zz v.zx v.zy v.zz
        (sym (third-lane _ _ _ xr yr) ∙ ap (λ k. k / 4398046511104) p ∙ third-lane _ _ _ xs ys) in
        rotation≡ xx xy xz yx yy yz zx zy zz

    there : key_of m ≡ key_of n → rotation_said m ≡ rotation_said n
    there p = apart (rotation_said m) (rotation_said n) (said-narrow m) (said-narrow n) (sym (key-said m) ∙ p ∙ key-said n)
