-- Three numbers in one, each in a lane of 21 bits, and what the product of rotations reads from them: sums of products of digits, and whether all three
-- stand for entries in −1..1.
use Rattle.std.specs.Prelude.{◌≡◌, ℕ, ◌+◌, ◌*◌, ◌-◌, ◌/◌, ◌%◌, ◌<◌, ◌≤◌}
use Rattle.std.proofs.Common.{arith, mul-le-mul}
use Rattle.operation.specs.declared.Rotation.{Rotation}

abbrev pub lanes_of : ℕ → ℕ → ℕ → ℕ
lanes_of x y z = x + y * 2097152 + z * 4398046511104

-- The rows of a rotation's digits times a column of numbers.
abbrev pub rows_times : Rotation → ℕ → ℕ → ℕ → ℕ
rows_times r a b c =
    lanes_of
    (r.xx * a + r.xy * b + r.xz * c)
    (r.yx * a + r.yy * b + r.yz * c)
    (r.zx * a + r.zy * b + r.zz * c)

-- The digit of a row of entries times a column of entries, and 2048.
unfoldable pub raised : ℕ → ℕ → ℕ → ℕ → ℕ → ℕ → ℕ
raised a b c x y z = (a * x + b * y + c * z + 2052) - (a + b + c + x + y + z)

abbrev pub raised_column : Rotation → ℕ → ℕ → ℕ → ℕ
raised_column r a b c =
    lanes_of
    (raised r.xx r.xy r.xz a b c)
    (raised r.yx r.yy r.yz a b c)
    (raised r.zx r.zy r.zz a b c)

-- Each lane's largest multiple of 4.
unfoldable pub fours_of : ℕ → ℕ
fours_of n = n - (n % 4 + n / 2097152 % 4 * 2097152 + n / 4398046511104 % 4 * 4398046511104)

-- Of bytes it is neither cut off at 0 nor too large for a lane.
pub raised-sum : (a b c x y z : ℕ) → a ≤ 255 → b ≤ 255 → c ≤ 255 → x ≤ 255 → y ≤ 255 → z ≤ 255
    → raised a b c x y z + (a + b + c + x + y + z) ≡ a * x + b * y + c * z + 2052
unfolding raised
raised-sum a b c x y z ha hb hc hx hy hz = omega arith

byte-product : (a x : ℕ) → a ≤ 255 → x ≤ 255 → a * x ≤ 65025
byte-product a x ha hx = mul-le-mul {n₂ = 255} {m₂ = 255} ha hx

pub raised-small : (a b c x y z : ℕ) → a ≤ 255 → b ≤ 255 → c ≤ 255 → x ≤ 255 → y ≤ 255 → z ≤ 255 → raised a b c x y z < 2097151
raised-small a b c x y z ha hb hc hx hy hz =
    omega (arith, raised-sum a b c x y z ha hb hc hx hy hz, byte-product a x ha hx, byte-product b y hb hy, byte-product c z hc hz)

-- What one coordinate of a moved translation sums up to leaves room in its lane.
pub moved-small : (a b c x y z t : ℕ) → a ≤ 255 → b ≤ 255 → c ≤ 255 → x ≤ 255 → y ≤ 255 → z ≤ 255 → t ≤ 255
    → a * x + b * y + c * z + t + 11 * (x + y + z) < 261120
moved-small a b c x y z t ha hb hc hx hy hz ht =
    omega (arith, byte-product a x ha hx, byte-product b y hb hy, byte-product c z hc hz)

pub lanes-times : (x y z a : ℕ) → lanes_of x y z * a ≡ lanes_of (x * a) (y * a) (z * a)
lanes-times x y z a = omega arith

-- Sums and differences of lanes, where none is negative.
pub moved-lanes : (p q r x y z k : ℕ) → lanes_of p q r + lanes_of x y z + k * 48378534690827 ≡ lanes_of (p + x + 11 * k) (q + y + 11 * k) (r + z + 11 * k)
moved-lanes p q r x y z k = omega arith

less-lanes : (p q r s t u k x y z : ℕ) → s + t * 2097152 + u * 4398046511104 ≤ 9024795744143364 → x + (s + k) ≡ p + 2052 → y + (t + k) ≡ q + 2052
    → z + (u + k) ≡ r + 2052
    → lanes_of p q r + (9024795744143364 - lanes_of s t u) - k * 4398048608257 ≡ lanes_of x y z
less-lanes p q r s t u k x y z h hx hy hz = omega arith

module _ (r : Rotation) (a b c : ℕ) (ha : a ≤ 255) (hb : b ≤ 255) (hc : c ≤ 255)
    (xx : r.xx ≤ 255) (xy : r.xy ≤ 255) (xz : r.xz ≤ 255)
    (yx : r.yx ≤ 255) (yy : r.yy ≤ 255) (yz : r.yz ≤ 255)
    (zx : r.zx ≤ 255) (zy : r.zy ≤ 255) (zz : r.zz ≤ 255) where
  lane-sum : (p q s : ℕ) → p ≤ 255 → q ≤ 255 → s ≤ 255 → raised p q s a b c + ((p * 1 + q * 1 + s * 1) + (a + b + c)) ≡ (p * a + q * b + s * c) + 2052
  lane-sum p q s hp hq hs = omega (arith, raised-sum p q s a b c hp hq hs ha hb hc)

  pub raised-lanes : rows_times r a b c + (9024795744143364 - rows_times r 1 1 1) - (a + b + c) * 4398048608257 ≡ raised_column r a b c
  raised-lanes =
      less-lanes _ _ _ _ _ _ _ _ _ _
      (omega arith)
      (lane-sum _ _ _ xx xy xz)
      (lane-sum _ _ _ yx yy yz)
      (lane-sum _ _ _ zx zy zz)

-- ---- lanes apart
module _ (x y z : ℕ) (small : x < 2097152) (less : y < 2097152) where
  pub first_lane : lanes_of x y z % 2097152 ≡ x
  first_lane = omega arith

  pub second_lane : lanes_of x y z / 2097152 % 2097152 ≡ y
  second_lane = omega arith

  pub third-lane : lanes_of x y z / 4398046511104 ≡ z
  third-lane = omega arith

  pub first_byte : lanes_of x y z % 256 ≡ x % 256
  first_byte = omega arith

  pub second-byte : lanes_of x y z / 2097152 % 256 ≡ y % 256
  second-byte = omega arith

  pub third-byte : lanes_of x y z / 4398046511104 % 256 ≡ z % 256
  third-byte = omega arith

  -- The remainders of the lanes by 4.
  first-low : lanes_of x y z % 4 ≡ x % 4
  first-low = omega arith

  second-low : lanes_of x y z / 2097152 % 4 ≡ y % 4
  second-low = omega arith

  third-low : lanes_of x y z / 4398046511104 % 4 ≡ z % 4
  third-low = omega arith

  -- Without them the lanes are their multiples of 4.
  fours-lanes : fours_of (lanes_of x y z) + lanes_of (x % 4) (y % 4) (z % 4) ≡ lanes_of x y z
  unfolding fours_of
  fours-lanes = rw (first-low, second-low, third-low) (omega arith)

  pub fours-apart : z < 2097152 → fours_of (lanes_of x y z) ≡ 9007203549710336 → (x / 4 ≡ 512) × (y / 4 ≡ 512) × (z / 4 ≡ 512)
  fours-apart h e = (omega (arith, fours-lanes), omega (arith, fours-lanes), omega (arith, fours-lanes))

  pub fours-together : x / 4 ≡ 512 → y / 4 ≡ 512 → z / 4 ≡ 512 → fours_of (lanes_of x y z) ≡ 9007203549710336
  fours-together hx hy hz = omega (arith, fours-lanes)
