-- Three coordinates in lanes modulo 12 without a remainder: 1020, which is 85 times 12, is taken off as often as 1024 fits, and then 12 as often as it fits.
-- How
-- often that is, one division by a power of 2 finds for all three lanes.
use Rattle.std.specs.Prelude.{◌≡◌, true, ℕ, ◌+◌, ◌*◌, ◌-◌, ◌/◌, ◌%◌, ◌<◌, ◌≤◌, eqb}
use Rattle.std.proofs.Math.Path.{refl, ap, subst}
use Rattle.std.proofs.Common.{sym, ◌∙◌, eqb-true}
use native.Mathlib.Omega.{arith}
use Rattle.operation.specs.Below.{all_below, below}
use Rattle.operation.specs.Lanes.{lanes_of, lanes-times, first_lane, second_lane, third-lane, first_byte, second-byte, third-byte}
use Rattle.operation.specs.declared.Translation.{Translation}

-- Each lane's remainder by 12.
unfoldable pub reduced_of : ℕ → Translation
reduced_of n =
    record {
      x = n % 2097152 % 12;
      y = n / 2097152 % 2097152 % 12;
      z = n / 4398046511104 % 12;
    }

-- Each lane's lowest byte.
unfoldable pub bytes_of : ℕ → ℕ
bytes_of n = n % 256 + n / 2097152 % 256 * 2097152 + n / 4398046511104 % 256 * 4398046511104

-- ---- one lane
fits-test : all_below 2040 (λ n. eqb (n * 683 / 8192 * 12 + n % 12) n) ≡ true
unfolding all_below
fits-test = refl

-- 683 / 8192 is a little more than 1 / 12: below 2040, 12 taken off so often leaves the remainder.
twelves-off : (n : ℕ) → n < 2040 → n * 683 / 8192 * 12 + n % 12 ≡ n
twelves-off n h = eqb-true _ _ (below 2040 (λ n. eqb (n * 683 / 8192 * 12 + n % 12) n) fits-test n h)

-- What is left where 1020 is taken off as often as 1024 fits.
abbrev small : ℕ → ℕ
small n = n - n / 1024 * 1020

small-below : (n : ℕ) → n < 261120 → small n < 2040
small-below n h = omega arith

small-remainder : (n : ℕ) → small n % 12 ≡ n % 12
small-remainder n = omega arith

-- ---- three lanes
three-lanes : (n : ℕ) → lanes_of (n % 2097152) (n / 2097152 % 2097152) (n / 4398046511104) ≡ n
three-lanes n = omega arith

lowest : (q m : ℕ) → q < 256 → (q + m * 256) % 256 ≡ q
lowest q m h = omega arith

module _ (x y z : ℕ) (hx : x < 261120) (hy : y < 261120) (hz : z < 261120) where
  divided : lanes_of x y z / 1024 ≡ x / 1024 + (y * 8 + z * 16777216) * 256
  divided = omega arith

  divided-second : lanes_of x y z / 1024 / 2097152 ≡ y / 1024 + z * 8 * 256
  divided-second = rw divided (omega arith)

  divided-third : lanes_of x y z / 1024 / 4398046511104 ≡ z / 1024 + 0 * 256
  divided-third = rw divided (omega arith)

  thousands : bytes_of (lanes_of x y z / 1024) ≡ lanes_of (x / 1024) (y / 1024) (z / 1024)
  unfolding bytes_of
  thousands =
      let first = ap (λ n. n % 256) divided ∙ lowest (x / 1024) (y * 8 + z * 16777216) (omega arith) in
      let second = ap (λ n. n % 256) divided-second ∙ lowest (y / 1024) (z * 8) (omega arith) in
      let third = ap (λ n. n % 256) divided-third ∙ lowest (z / 1024) 0 (omega arith) in
      rw (first, second, third) refl

  lanes_small : bytes_of (lanes_of x y z / 1024) * 1020 + lanes_of (small x) (small y) (small z) ≡ lanes_of x y z
  lanes_small = rw thousands (omega arith)

module _ (x y z : ℕ) (hx : x < 2097152) (hy : y < 2097152) (hz : z < 2097152) where
  divided-more : lanes_of x y z / 8192 ≡ x / 8192 + (y + z * 2097152) * 256
  divided-more = omega arith

  divided-more-second : lanes_of x y z / 8192 / 2097152 ≡ y / 8192 + z * 256
  divided-more-second = rw divided-more (omega arith)

  divided-more-third : lanes_of x y z / 8192 / 4398046511104 ≡ z / 8192 + 0 * 256
  divided-more-third = rw divided-more (omega arith)

  quotients : bytes_of (lanes_of x y z / 8192) ≡ lanes_of (x / 8192) (y / 8192) (z / 8192)
  unfolding bytes_of
  quotients =
      let first = ap (λ n. n % 256) divided-more ∙ lowest (x / 8192) (y + z * 2097152) (omega arith) in
      let second = ap (λ n. n % 256) divided-more-second ∙ lowest (y / 8192) z (omega arith) in
      let third = ap (λ n. n % 256) divided-more-third ∙ lowest (z / 8192) 0 (omega arith) in
      rw (first, second, third) refl

module _ (x y z : ℕ) (hx : x < 2040) (hy : y < 2040) (hz : z < 2040) where
  twelves : bytes_of (lanes_of x y z * 683 / 8192) ≡ lanes_of (x * 683 / 8192) (y * 683 / 8192) (z * 683 / 8192)
  twelves = ap (λ n. bytes_of (n / 8192)) (lanes-times x y z 683) ∙ quotients _ _ _ (omega arith) (omega arith) (omega arith)

  pub lanes-reduced : bytes_of (lanes_of x y z * 683 / 8192) * 12 + lanes_of (x % 12) (y % 12) (z % 12) ≡ lanes_of x y z
  lanes-reduced = omega (arith, twelves, twelves-off x hx, twelves-off y hy, twelves-off z hz)

-- ---- a number of three small lanes
-- Small enough for the first step: what a product of bytes sums up to is.
abbrev pub SmallLanes : ℕ → Type 0
SmallLanes n = (n % 2097152 < 261120) × (n / 2097152 % 2097152 < 261120) × (n / 4398046511104 < 261120)

pub lanes-small-lanes : (n x y z : ℕ) → n ≡ lanes_of x y z → x < 261120 → y < 261120 → z < 261120 → SmallLanes n
lanes-small-lanes n x y z e hx hy hz =
    let first = ap (λ m. m % 2097152) e ∙ first_lane x y z (omega arith) (omega arith) in
    let second = ap (λ m. m / 2097152 % 2097152) e ∙ second_lane x y z (omega arith) (omega arith) in
    let third = ap (λ m. m / 4398046511104) e ∙ third-lane x y z (omega arith) (omega arith) in
    (rw first hx, rw second hy, rw third hz)

module _ (n : ℕ) (lanes : SmallLanes n) where
  -- The three lanes, kept shut so that arithmetic takes each for one number.
  unfoldable x : ℕ
  x = n % 2097152

  unfoldable y : ℕ
  y = n / 2097152 % 2097152

  unfoldable z : ℕ
  z = n / 4398046511104

  -- The first step takes off no more than there is.
  first_step : bytes_of (n / 1024) * 1020 + lanes_of (small x) (small y) (small z) ≡ n
  unfolding x y z
  first_step =
      let (hx, hy, hz) = lanes in
      subst (λ m. bytes_of (m / 1024) * 1020 + lanes_of (small (n % 2097152)) (small (n / 2097152 % 2097152)) (small (n / 4398046511104)) ≡ m) (three-lanes n)
      (lanes_small _ _ _ hx hy hz)

  pub first-covers : bytes_of (n / 1024) * 1020 ≤ n
  first-covers = omega (arith, first_step)

  abbrev rest : ℕ
  rest = n - bytes_of (n / 1024) * 1020

  rest-lanes : rest ≡ lanes_of (small x) (small y) (small z)
  rest-lanes = omega (arith, first_step)

  small-lanes : (small x < 2040) × (small y < 2040) × (small z < 2040)
  unfolding x y z
  small-lanes = let (hx, hy, hz) = lanes in (small-below _ hx, small-below _ hy, small-below _ hz)

  pub rest-small : rest ≤ 8972019160844280
  rest-small = let (hx, hy, hz) = small-lanes in omega (arith, rest-lanes)

  second-step : bytes_of (rest * 683 / 8192) * 12 + lanes_of (small x % 12) (small y % 12) (small z % 12) ≡ rest
  second-step =
      let (hx, hy, hz) = small-lanes in
      subst (λ m. bytes_of (m * 683 / 8192) * 12 + lanes_of (small x % 12) (small y % 12) (small z % 12) ≡ m) (sym rest-lanes)
      (lanes-reduced _ _ _ hx hy hz)

  pub second-covers : bytes_of (rest * 683 / 8192) * 12 ≤ rest
  second-covers = omega (arith, second-step)

  abbrev left : ℕ
  left = rest - bytes_of (rest * 683 / 8192) * 12

  left-lanes : left ≡ lanes_of (x % 12) (y % 12) (z % 12)
  left-lanes = omega (arith, second-step, small-remainder x, small-remainder y, small-remainder z)

  -- The bytes of what is left are the remainders.
  pub steps-reduce : record { x = left % 256; y = left / 2097152 % 256; z = left / 4398046511104 % 256 } ≡ reduced_of n
  unfolding reduced_of x y z
  steps-reduce =
      let px : left % 256 ≡ x % 12 = ap (λ m. m % 256) left-lanes ∙ first_byte (x % 12) (y % 12) (z % 12) (omega arith) (omega arith) ∙ omega arith in
      let py : left / 2097152 % 256 ≡ y % 12 =
      ap (λ m. m / 2097152 % 256) left-lanes ∙ second-byte (x % 12) (y % 12) (z % 12) (omega arith) (omega arith) ∙ omega arith in
      let pz : left / 4398046511104 % 256 ≡ z % 12 =
      ap (λ m. m / 4398046511104 % 256) left-lanes ∙ third-byte (x % 12) (y % 12) (z % 12) (omega arith) (omega arith) ∙ omega arith in
      λ i. record { x = px i; y = py i; z = pz i }
