-- What a fold and an axis say of a rotation, whatever table it is taken from: it turns space about that axis, the positive way, by the fold's part of a turn.
use Rattle.std.specs.Prelude.{◌≡◌, ◌≢◌, ℕ, zero, suc, ◌<◌, ℤ, pos, neg_ℤ}
use Rattle.std.proofs.Math.IntN.{one}
use Rattle.laws.specs.Integer.{nought}
use Rattle.laws.specs.Matrix.{Matrix, Vector, times, act, origin, unit, determinant}
use Rattle.operation.specs.Meaning.{matrix_of, Digits}
use Rattle.operation.specs.declared.Rotation.{Rotation}
use Rattle.hall_axes.specs.declared.Fold.{Fold}
use Rattle.hall_axes.specs.declared.Fold.TheVariants.{One, Two, Three, Four, Six}
use Rattle.hall_axes.specs.declared.Mark.{Mark}
use Rattle.hall_axes.specs.declared.Mark.TheVariants.{Unmarked, Single, Double}
use Rattle.hall_axes.specs.declared.Direction.{Direction}
use Rattle.hall_axes.specs.declared.Direction.TheVariants.{X, Y, Z, Diagonal}
use Rattle.hall_axes.specs.declared.Axis.{Axis}
use Rattle.hall_axes.specs.Axes.{fold_number, plain}

abbrev pub vector : ℤ → ℤ → ℤ → Vector
vector a b c = record { x = a; y = b; z = c }

-- The direction of an axis: x a, y b, z c; `^x` b−c, `=x` b+c; `^y` a−c, `=y` a+c; `^z` a−b, `=z` a+b; `*` a+b+c. A marked diagonal has none.
unfoldable pub axis_vector : Mark → Direction → Vector
axis_vector Unmarked X = vector one nought nought
axis_vector Unmarked Y = vector nought one nought
axis_vector Unmarked Z = vector nought nought one
axis_vector Unmarked Diagonal = vector one one one
axis_vector Single X = vector nought one (neg_ℤ one)
axis_vector Single Y = vector one nought (neg_ℤ one)
axis_vector Single Z = vector one (neg_ℤ one) nought
axis_vector Single Diagonal = vector nought nought nought
axis_vector Double X = vector nought one one
axis_vector Double Y = vector one nought one
axis_vector Double Z = vector one one nought
axis_vector Double Diagonal = vector nought nought nought

abbrev pub along : Axis → Vector
along a = axis_vector a.mark a.direction

unfoldable pub power : ℕ → Matrix → Matrix
power zero A = unit
power (suc n) A = times A (power n A)

-- The products of a, b and c with each other, which are their lengths and angles. In a cube the edges are of one length and upright on each other.
-- In a net of hexagons two edges of one length stand at 120 degrees, so that their product is half of minus a square, and the axis is upright on both.
abbrev hexagonal : Direction → Matrix
hexagonal X = record { xx = one; xy = nought; xz = nought; yx = nought; yy = pos 2; yz = neg_ℤ one; zx = nought; zy = neg_ℤ one; zz = pos 2 }
hexagonal Y = record { xx = pos 2; xy = nought; xz = neg_ℤ one; yx = nought; yy = one; yz = nought; zx = neg_ℤ one; zy = nought; zz = pos 2 }
hexagonal Z = record { xx = pos 2; xy = neg_ℤ one; xz = nought; yx = neg_ℤ one; yy = pos 2; yz = nought; zx = nought; zy = nought; zz = one }
hexagonal Diagonal = unit

-- Folds 3 and 6 about x, y and z turn the net of hexagons about that axis, all others the cube.
unfoldable pub metric : Fold → Mark → Direction → Matrix
metric One m d = unit
metric Two m d = unit
metric Three Unmarked d = hexagonal d
metric Three Single d = unit
metric Three Double d = unit
metric Four m d = unit
metric Six Unmarked d = hexagonal d
metric Six Single d = unit
metric Six Double d = unit

unfoldable pub transposed : Matrix → Matrix
transposed A =
    record { xx = A.xx; xy = A.yx; xz = A.zx; yx = A.xy; yy = A.yy; yz = A.zy; zx = A.xz; zy = A.yz; zz = A.zz }

-- The volume that three vectors span: positive where they lie to each other as a, b, c do.
unfoldable pub volume : Vector → Vector → Vector → ℤ
volume u v w =
    determinant
    (record { xx = u.x; xy = v.x; xz = w.x; yx = u.y; yy = v.y; yz = w.y; zx = u.z; zy = v.z; zz = w.z })

-- The rotation of fold f about an axis, its entries in −1..1: it keeps the axis, lengths, angles and hands; f times it is a full turn, and no fewer times;
-- and seen along the axis it turns a, b and c the positive way. Fold 1 is the identity and counts as plain z.
pub record TurnsAbout (f : Fold) (a : Axis) (r : Rotation) : Type 0 where
  pub digits : Digits r
  pub has-axis : along a ≢ origin
  pub keeps-axis : act (matrix_of r) (along a) ≡ along a
  pub keeps-metric : times (transposed (matrix_of r)) (times (metric f a.mark a.direction) (matrix_of r)) ≡ metric f a.mark a.direction
  pub proper : determinant (matrix_of r) ≡ one
  pub full-turn : power (fold_number f) (matrix_of r) ≡ unit
  pub no-sooner : (k : ℕ) → 0 < k → k < fold_number f → power k (matrix_of r) ≢ unit
  pub positive : (d : Direction) → (n : ℕ) × (volume (along a) (axis_vector Unmarked d) (act (matrix_of r) (axis_vector Unmarked d)) ≡ pos n)
  pub identity-about-z : f ≡ One → a ≡ plain Z
