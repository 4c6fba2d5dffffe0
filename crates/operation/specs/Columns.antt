-- What the lanes of a raised column say of its entries: 2048, 2049 and 2050 stand for −1, 0 and 1, any other number for an entry that has left −1..1.
use Rattle.std.specs.Prelude.{◌≡◌, Bool, ◌&&◌, ℕ, ◌+◌, ◌*◌, ◌-◌, ◌/◌, ◌%◌, ◌<◌, ◌≤◌, ltb, ℤ, Some, None}
use Rattle.std.proofs.Math.Path.{refl}
use Rattle.std.proofs.Common.{sym, ◌∙◌, ap, arith}
use Rattle.std.proofs.Math.Bool.{true, false}
use borrow.Author.Tests.{ltb-true, ltb-false, lt-ltb}
use Rattle.laws.specs.Matrix.{Matrix, dot}
use Rattle.operation.specs.Meaning.{entry_of, digit_of, inside, row_inside, all_inside}
use Rattle.operation.specs.Digits.{dot-outside-below, dot-inside, dot-outside}
use Rattle.operation.specs.Entries.{inside-digit, three-true}
use Rattle.operation.specs.Lanes.{lanes_of, raised, fours_of, raised-sum, raised-small, first_byte, second-byte, third-byte, fours-apart, fours-together}
use Rattle.operation.specs.Product.{column_of}

-- A lane and the entry that it stands for.
pub record Lane (e : ℤ) (n : ℕ) : Type 0 where
  pub small : n < 2097151
  pub stands : digit_of e < 3 → (2048 ≤ n) × (n < 2051)
  pub digit : 2048 ≤ n → n < 2051 → digit_of e ≡ n % 256

module _ (a b c x y z : ℕ) (ha : a ≤ 255) (hb : b ≤ 255) (hc : c ≤ 255) (hx : x ≤ 255) (hy : y ≤ 255) (hz : z ≤ 255) where
  abbrev entry : ℤ
  entry = dot (entry_of a) (entry_of b) (entry_of c) (entry_of x) (entry_of y) (entry_of z)

  abbrev products : ℕ
  products = a * x + b * y + c * z + 4

  abbrev sums : ℕ
  sums = a + b + c + x + y + z

  lane-sum : raised a b c x y z + sums ≡ products + 2048
  lane-sum = omega (arith, raised-sum a b c x y z ha hb hc hx hy hz)

  lane-stands : digit_of entry < 3 → (2048 ≤ raised a b c x y z) × (raised a b c x y z < 2051)
  lane-stands h = below (ltb products sums) refl
    where
      above : sums ≤ products → (t : Bool) → ltb (products - sums) 3 ≡ t → (2048 ≤ raised a b c x y z) × (raised a b c x y z < 2051)
      above k true e = (omega (arith, lane-sum), omega (arith, lane-sum, ltb-true (products - sums) 3 e))
      above k false e = absurd (omega (arith, dot-outside a b c x y z products sums refl refl k (ltb-false _ _ e)))

      below : (t : Bool) → ltb products sums ≡ t → (2048 ≤ raised a b c x y z) × (raised a b c x y z < 2051)
      below true e = absurd (omega (arith, dot-outside-below a b c x y z products sums refl refl (ltb-true _ _ e)))
      below false e = above (ltb-false _ _ e) (ltb (products - sums) 3) refl

  lane-digit : 2048 ≤ raised a b c x y z → raised a b c x y z < 2051 → digit_of entry ≡ raised a b c x y z % 256
  lane-digit h k =
      omega (arith, lane-sum, dot-inside a b c x y z products sums refl refl (omega (arith, lane-sum)) (omega (arith, lane-sum)))

  pub lane : Lane entry (raised a b c x y z)
  lane =
      record {
        small = raised-small a b c x y z ha hb hc hx hy hz;
        stands = lane-stands;
        digit = lane-digit;
      }

-- ---- three lanes and their column
module _ (p q s : ℤ) (x y z : ℕ) (first : Lane p x) (second : Lane q y) (third : Lane s z) where
  -- A column of entries in −1..1 has all lanes right.
  right : row_inside p q s ≡ true → ((2048 ≤ x) × (x < 2051)) × ((2048 ≤ y) × (y < 2051)) × ((2048 ≤ z) × (z < 2051))
  unfolding row_inside
  right h =
      let (hp, hq, hs) = three-true (inside p) (inside q) (inside s) h in (
        first.stands (ltb-true _ _ (sym (inside-digit p) ∙ hp)),
        second.stands (ltb-true _ _ (sym (inside-digit q) ∙ hq)),
        third.stands (ltb-true _ _ (sym (inside-digit s) ∙ hs)),
      )

  refused : (b : Bool) → row_inside p q s ≡ b → (row_inside p q s ≡ true → ⊥) → column_of p q s ≡ None
  unfolding column_of
  refused true e off = absurd (off e)
  refused false e off = rw e refl

  next : lanes_of x y z + 4398048608257 ≡ lanes_of (x + 1) (y + 1) (z + 1)
  next = omega arith

  pub column-off : (fours_of (lanes_of x y z) ≡ 9007203549710336 → ⊥) → column_of p q s ≡ None
  column-off off =
      refused (row_inside p q s) refl (λ h.
      let (hx, hy, hz) = right h in
      off (fours-together x y z (omega arith) (omega arith) (omega arith) (omega arith) (omega arith)))

  pub column-off-next : (fours_of (lanes_of x y z + 4398048608257) ≡ 9007203549710336 → ⊥) → column_of p q s ≡ None
  column-off-next off =
      refused (row_inside p q s) refl (λ h.
      let (hx, hy, hz) = right h in
      off (ap fours_of next ∙ fours-together (x + 1) (y + 1) (z + 1) (omega arith) (omega arith) (omega arith) (omega arith) (omega arith)))

  pub column-right : fours_of (lanes_of x y z) ≡ 9007203549710336 → fours_of (lanes_of x y z + 4398048608257) ≡ 9007203549710336
      → Some (record { x = lanes_of x y z % 256; y = lanes_of x y z / 2097152 % 256; z = lanes_of x y z / 4398046511104 % 256 }) ≡ column_of p q s
  unfolding column_of row_inside
  column-right h k =
      let ix = first.small in
      let iy = second.small in
      let iz = third.small in
      let (ax, ay, az) = fours-apart x y z (omega arith) (omega arith) (omega arith) h in
      let (bx, by, bz) = fours-apart (x + 1) (y + 1) (z + 1) (omega arith) (omega arith) (omega arith) (sym (ap fours_of next) ∙ k) in
      let dx = first.digit (omega arith) (omega arith) in
      let dy = second.digit (omega arith) (omega arith) in
      let dz = third.digit (omega arith) (omega arith) in
      simp (
        inside-digit,
        first_byte x y z (omega arith) (omega arith),
        second-byte x y z (omega arith) (omega arith),
        third-byte x y z (omega arith) (omega arith),
        dx,
        dy,
        dz,
        lt-ltb (x % 256) 3 (omega arith),
        lt-ltb (y % 256) 3 (omega arith),
        lt-ltb (z % 256) 3 (omega arith),
      )

-- ---- all nine
-- Four tests in two pairs, paired the other way.
paired : (a b c d : Bool) → (a && b) && (c && d) ≡ (a && c) && (b && d)
paired true true c d = refl
paired true false true d = refl
paired true false false d = refl
paired false b c d = refl

-- A matrix has all entries in −1..1 exactly if its three columns have.
pub all-columns : (A : Matrix) → all_inside A ≡ row_inside A.xx A.yx A.zx && row_inside A.xy A.yy A.zy && row_inside A.xz A.yz A.zz
unfolding all_inside row_inside
all-columns A =
    let xx = inside A.xx in
    let xy = inside A.xy in
    let xz = inside A.xz in
    let yx = inside A.yx in
    let yy = inside A.yy in
    let yz = inside A.yz in
    let zx = inside A.zx in
    let zy = inside A.zy in
    let zz = inside A.zz in
    ap (λ t. t && ((zx && zy) && zz)) (paired (xx && xy) xz (yx && yy) yz ∙ ap (λ t. t && (xz && yz)) (paired xx xy yx yy)) ∙
    paired ((xx && yx) && (xy && yy)) (xz && yz) (zx && zy) zz ∙
    ap (λ t. t && ((xz && yz) && zz)) (paired (xx && yx) (xy && yy) zx zy)
