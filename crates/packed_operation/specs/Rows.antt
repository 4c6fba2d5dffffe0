-- The nine sums of a product of rotations at once, and what the fields of the result say of its entries.
use Rattle.std.specs.Prelude.{◌≡◌, refl, true, ◌&&◌, ℕ, ◌+◌, ◌*◌, ◌-◌, ◌%◌, ◌<◌, ◌≤◌, leb, ℤ}
use Rattle.std.proofs.Common.{◌∙◌, arith, leb-true}
use Rattle.std.proofs.Math.Bool.{and-eq-true_iff}
use Rattle.laws.specs.Matrix.{dot}
use Rattle.operation.specs.Below.{all_below, below}
use Rattle.operation.specs.Columns.{lane}
use Rattle.operation.specs.Meaning.{entry_of, digit_of}
use Rattle.operation.specs.Lanes.{lanes_of, rows_times, raised, raised-sum}
use Rattle.operation.specs.declared.Rotation.{Rotation}
use Rattle.packed_operation.specs.Number.{row_of, key_of, rotation_said}

-- A field of the result: the digit of a row of entries times a column of entries, and 8.
unfoldable pub field : ℕ → ℕ → ℕ → ℕ → ℕ → ℕ → ℕ
field a b c x y z = raised a b c x y z - 2040

abbrev pub row_times : ℕ → ℕ → ℕ → Rotation → ℕ
row_times a b c s =
    row_of
    (field a b c s.xx s.yx s.zx)
    (field a b c s.xy s.yy s.zy)
    (field a b c s.xz s.yz s.zz)

-- All nine fields.
abbrev pub raised_rows : Rotation → Rotation → ℕ
raised_rows r s =
    lanes_of
    (row_times r.xx r.xy r.xz s)
    (row_times r.yx r.yy r.yz s)
    (row_times r.zx r.zy r.zz s)

-- Each field's largest multiple of 4.
unfoldable pub eights_of : ℕ → ℕ
eights_of n = n - key_of n

-- ---- one field
pair-test : all_below 4 (λ a. all_below 4 (λ x. leb (a + x) (a * x + 3) && leb (a * x) (a + x + 3))) ≡ true
unfolding all_below
pair-test = refl

pair-range : (a x : ℕ) → a ≤ 3 → x ≤ 3 → (a + x ≤ a * x + 3) × (a * x ≤ a + x + 3)
pair-range a x h k =
    let row = below 4 (λ a. all_below 4 (λ x. leb (a + x) (a * x + 3) && leb (a * x) (a + x + 3))) pair-test a (omega arith) in
    let t = (and-eq-true_iff (leb (a + x) (a * x + 3)) (leb (a * x) (a + x + 3))).0
    (below 4 (λ x. leb (a + x) (a * x + 3) && leb (a * x) (a + x + 3)) row x (omega arith)) in
    (leb-true _ _ t.0, leb-true _ _ t.1)

-- A field and the entry that it stands for.
pub record Field (e : ℤ) (n : ℕ) : Type 0 where
  pub small : n < 31
  pub stands : digit_of e < 3 → (8 ≤ n) × (n < 11)
  pub digit : 8 ≤ n → n < 11 → digit_of e ≡ n % 4

module _ (a b c x y z : ℕ) (ha : a ≤ 3) (hb : b ≤ 3) (hc : c ≤ 3) (hx : x ≤ 3) (hy : y ≤ 3) (hz : z ≤ 3) where
  raised_is : raised a b c x y z + (a + b + c + x + y + z) ≡ a * x + b * y + c * z + 2052
  raised_is = raised-sum a b c x y z (omega arith) (omega arith) (omega arith) (omega arith) (omega arith) (omega arith)

  pub field-sum : field a b c x y z + (a + b + c + x + y + z) ≡ a * x + b * y + c * z + 12
  unfolding field
  field-sum = omega (arith, raised_is, (pair-range a x ha hx).0, (pair-range b y hb hy).0, (pair-range c z hc hz).0)

  field-raised : field a b c x y z + 2040 ≡ raised a b c x y z
  field-raised = omega (arith, raised_is, field-sum)

  pub the_field : Field (dot (entry_of a) (entry_of b) (entry_of c) (entry_of x) (entry_of y) (entry_of z)) (field a b c x y z)
  the_field =
      let l = lane a b c x y z (omega arith) (omega arith) (omega arith) (omega arith) (omega arith) (omega arith) in
      record {
        small = omega (arith, field-sum, (pair-range a x ha hx).1, (pair-range b y hb hy).1, (pair-range c z hc hz).1);
        stands = λ h. let s = l.stands h in (omega (arith, field-raised, s.0), omega (arith, field-raised, s.1));
        digit = λ h k. l.digit (omega (arith, field-raised)) (omega (arith, field-raised)) ∙ omega (arith, field-raised);
      }

-- ---- the nine sums
less-lanes : (p q r s t u k x y z : ℕ) → (s + t * 2097152 + u * 4398046511104) * 1057 ≤ 55784848547131788 → x + (s * 1057 + k) ≡ p + 12684
    → y + (t * 1057 + k) ≡ q + 12684 → z + (u * 1057 + k) ≡ r + 12684
    → lanes_of p q r + (55784848547131788 - lanes_of s t u * 1057) - k * 4398048608257 ≡ lanes_of x y z
less-lanes p q r s t u k x y z h hx hy hz = omega arith

cover-lanes : (p q r s t u k x y z : ℕ) → (s + t * 2097152 + u * 4398046511104) * 1057 ≤ 55784848547131788 → x + (s * 1057 + k) ≡ p + 12684
    → y + (t * 1057 + k) ≡ q + 12684 → z + (u * 1057 + k) ≡ r + 12684
    → k * 4398048608257 ≤ lanes_of p q r + (55784848547131788 - lanes_of s t u * 1057)
cover-lanes p q r s t u k x y z h hx hy hz = omega arith

pub sum-lanes : (a b c d e f g h i : ℕ)
    → lanes_of a b c + lanes_of d e f + lanes_of g h i ≡ lanes_of (a * 1 + d * 1 + g * 1) (b * 1 + e * 1 + h * 1) (c * 1 + f * 1 + i * 1)
sum-lanes a b c d e f g h i = omega arith

pub record Narrow (r : Rotation) : Type 0 where
  pub xx : r.xx ≤ 3
  pub xy : r.xy ≤ 3
  pub xz : r.xz ≤ 3
  pub yx : r.yx ≤ 3
  pub yy : r.yy ≤ 3
  pub yz : r.yz ≤ 3
  pub zx : r.zx ≤ 3
  pub zy : r.zy ≤ 3
  pub zz : r.zz ≤ 3

pub said-narrow : (n : ℕ) → Narrow (rotation_said n)
said-narrow n =
    record {
      xx = omega arith;
      xy = omega arith;
      xz = omega arith;
      yx = omega arith;
      yy = omega arith;
      yz = omega arith;
      zx = omega arith;
      zy = omega arith;
      zz = omega arith;
    }

module _ (s : Rotation) (narrow : Narrow s) where
  abbrev first : ℕ
  first = row_of s.xx s.xy s.xz

  abbrev second : ℕ
  second = row_of s.yx s.yy s.yz

  abbrev third : ℕ
  third = row_of s.zx s.zy s.zz

  row-sum : (a b c : ℕ) → a ≤ 3 → b ≤ 3 → c ≤ 3
      → row_times a b c s + ((a * 1 + b * 1 + c * 1) * 1057 + (first + second + third)) ≡ (a * first + b * second + c * third) + 12684
  row-sum a b c ha hb hc =
      omega (
        arith,
        field-sum a b c s.xx s.yx s.zx ha hb hc narrow.xx narrow.yx narrow.zx,
        field-sum a b c s.xy s.yy s.zy ha hb hc narrow.xy narrow.yy narrow.zy,
        field-sum a b c s.xz s.yz s.zz ha hb hc narrow.xz narrow.yz narrow.zz,
      )

  pub rows-lanes : (r : Rotation) → Narrow r
      → rows_times r first second third + (55784848547131788 - rows_times r 1 1 1 * 1057) - (first + second + third) * 4398048608257 ≡ raised_rows r s
  rows-lanes r small =
      less-lanes _ _ _ _ _ _ _ _ _ _
      (omega (arith, small.xx, small.xy, small.xz, small.yx, small.yy, small.yz, small.zx, small.zy, small.zz))
      (row-sum _ _ _ small.xx small.xy small.xz)
      (row-sum _ _ _ small.yx small.yy small.yz)
      (row-sum _ _ _ small.zx small.zy small.zz)

  rows-cover : (r : Rotation) → Narrow r
      → (first + second + third) * 4398048608257 ≤ rows_times r first second third + (55784848547131788 - rows_times r 1 1 1 * 1057)
  rows-cover r small =
      cover-lanes _ _ _ _ _ _ _ _ _ _
      (omega (arith, small.xx, small.xy, small.xz, small.yx, small.yy, small.yz, small.zx, small.zy, small.zz))
      (row-sum _ _ _ small.xx small.xy small.xz)
      (row-sum _ _ _ small.yx small.yy small.yz)
      (row-sum _ _ _ small.zx small.zy small.zz)

  -- The same of numbers that are these.
  module _ (r : Rotation) (small : Narrow r) (a b c p q : ℕ) (ea : a ≡ first) (eb : b ≡ second) (ec : c ≡ third) (ep : p
      ≡ rows_times r first second third) (eq : q ≡ rows_times r 1 1 1) where
    pub numbers-cover : (a + b + c) * 4398048608257 ≤ p + (55784848547131788 - q * 1057)
    numbers-cover = rw (ea, eb, ec, ep, eq) (rows-cover r small)

    pub numbers-lanes : p + (55784848547131788 - q * 1057) - (a + b + c) * 4398048608257 ≡ raised_rows r s
    numbers-lanes = rw (ea, eb, ec, ep, eq) (rows-lanes r small)
