-- The translation of a product: the three sums in lanes, and what is left of them modulo 12.
use Rattle.std.specs.Prelude.{◌≡◌, ℕ, ◌+◌, ◌*◌, ◌-◌, ◌/◌, ◌%◌, ◌<◌, ◌≤◌}
use Rattle.std.proofs.Math.Path.{sym}
use Rattle.std.proofs.Common.{◌∙◌, ap, arith, mul-le-mul}
use Rattle.laws.specs.Matrix.{act, plus}
use Rattle.operation.specs.Digits.{moved-residue}
use Rattle.operation.specs.Lanes.{lanes_of, rows_times, moved-lanes}
use Rattle.operation.specs.Meaning.{matrix_of, vector_of}
use Rattle.operation.specs.Twelves.{bytes_of, lanes-reduced}
use Rattle.operation.specs.declared.Translation.{Translation}
use Rattle.operation.specs.declared.Operation.{Operation}
use Rattle.packed_operation.specs.Number.{translation_said}
use Rattle.packed_operation.specs.Rows.{Narrow}
use Rattle.packed_operation.specs.Times.{moved_lanes}

-- One coordinate of Ru + t: an entry is a − 1, so modulo 12 it is a + 11.
unfoldable pub coordinate : ℕ → ℕ → ℕ → Translation → ℕ → ℕ
coordinate a b c u t = a * u.x + b * u.y + c * u.z + t + 11 * (u.x + u.y + u.z)

abbrev pub sum_lanes : Operation → Operation → ℕ
sum_lanes f g =
    let r = f.rotation in
    let t = f.translation in
    let u = g.translation in
    lanes_of (coordinate r.xx r.xy r.xz u t.x) (coordinate r.yx r.yy r.yz u t.y) (coordinate r.zx r.zy r.zz u t.z)

pub record Short (t : Translation) : Type 0 where
  pub x : t.x ≤ 15
  pub y : t.y ≤ 15
  pub z : t.z ≤ 15

pub said-short : (n : ℕ) → Short (translation_said n)
said-short n = record { x = omega arith; y = omega arith; z = omega arith }

times-small : (a x : ℕ) → a ≤ 3 → x ≤ 15 → a * x ≤ 45
times-small a x ha hx = mul-le-mul {n₂ = 3} {m₂ = 15} ha hx

coordinate-small : (a b c : ℕ) (u : Translation) (t : ℕ) → a ≤ 3 → b ≤ 3 → c ≤ 3 → Short u → t ≤ 15 → coordinate a b c u t < 2040
unfolding coordinate
coordinate-small a b c u t ha hb hc s ht =
    omega (arith, times-small a u.x ha s.x, times-small b u.y hb s.y, times-small c u.z hc s.z, s.x, s.y, s.z)

module _ (f g : Operation) (narrow : Narrow f.rotation) (short : Short f.translation) (other : Short g.translation) where
  pub sum_is : rows_times f.rotation g.translation.x g.translation.y g.translation.z + lanes_of f.translation.x f.translation.y f.translation.z +
      (g.translation.x + g.translation.y + g.translation.z) * 48378534690827 ≡ sum_lanes f g
  unfolding coordinate
  sum_is = moved-lanes _ _ _ _ _ _ _

  abbrev x : ℕ
  x = coordinate f.rotation.xx f.rotation.xy f.rotation.xz g.translation f.translation.x

  abbrev y : ℕ
  y = coordinate f.rotation.yx f.rotation.yy f.rotation.yz g.translation f.translation.y

  abbrev z : ℕ
  z = coordinate f.rotation.zx f.rotation.zy f.rotation.zz g.translation f.translation.z

  hx : x < 2040
  hx = coordinate-small _ _ _ _ _ narrow.xx narrow.xy narrow.xz other short.x

  hy : y < 2040
  hy = coordinate-small _ _ _ _ _ narrow.yx narrow.yy narrow.yz other short.y

  hz : z < 2040
  hz = coordinate-small _ _ _ _ _ narrow.zx narrow.zy narrow.zz other short.z

  pub sum-small : sum_lanes f g ≤ 8972019160844280
  sum-small = omega (arith, hx, hy, hz)

  remainders-are : lanes_of (x % 12) (y % 12) (z % 12) ≡ moved_lanes f g
  unfolding moved_lanes coordinate act plus matrix_of vector_of
  remainders-are =
      let r = f.rotation in
      let u = g.translation in
      let t = f.translation in
      sym (λ i. lanes_of (moved-residue r.xx r.xy r.xz u.x u.y u.z t.x i)
      (moved-residue r.yx r.yy r.yz u.x u.y u.z t.y i) (moved-residue r.zx r.zy r.zz u.x u.y u.z t.z i))

  step : bytes_of (sum_lanes f g * 683 / 8192) * 12 + moved_lanes f g ≡ sum_lanes f g
  step = ap (λ n. bytes_of (sum_lanes f g * 683 / 8192) * 12 + n) (sym remainders-are) ∙ lanes-reduced x y z hx hy hz

  pub covers : bytes_of (sum_lanes f g * 683 / 8192) * 12 ≤ sum_lanes f g
  covers = omega (arith, step)

  pub left_is : sum_lanes f g - bytes_of (sum_lanes f g * 683 / 8192) * 12 ≡ moved_lanes f g
  left_is = omega (arith, step)

  pub moved-small : moved_lanes f g ≤ 48378534690827
  moved-small = rw (sym remainders-are) (omega arith)
