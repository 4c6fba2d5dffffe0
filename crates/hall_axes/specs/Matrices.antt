-- The twenty rotations of R2.6 as data: for each fold and axis the matrix of the Rust's `parse_rotation_matrix`.
-- One test, computed over the table, says that each is what its name says: a proper rotation of that order about that axis.
use Rattle.std.specs.Prelude.{Bool, true, false, cond, ◌&&◌, List, [], ◌∷◌, ℕ, ◌-◌, eqb, None, Option, Some}
use Rattle.operation.specs.declared.Rotation.{Rotation}
use Rattle.hall_axes.specs.declared.Fold.{Fold}
use Rattle.hall_axes.specs.declared.Fold.TheVariants.{One, Two, Three, Four, Six}
use Rattle.hall_axes.specs.declared.Mark.{Mark}
use Rattle.hall_axes.specs.declared.Mark.TheVariants.{Unmarked, Single, Double}
use Rattle.hall_axes.specs.declared.Direction.{Direction}
use Rattle.hall_axes.specs.declared.Direction.TheVariants.{X, Y, Z, Diagonal}
use Rattle.hall_axes.specs.declared.Axis.{Axis}
use Rattle.hall_axes.specs.Axes.{fold_number, axis}

-- A rotation by rows, each number an entry plus one.
abbrev pub rows : ℕ → ℕ → ℕ → ℕ → ℕ → ℕ → ℕ → ℕ → ℕ → Rotation
rows xx xy xz yx yy yz zx zy zz = record { xx = xx; xy = xy; xz = xz; yx = yx; yy = yy; yz = yz; zx = zx; zy = zy; zz = zz }

-- A rotation with its fold and axis.
pub record Listed : Type 0 where
  pub fold : Fold
  pub about : Axis
  pub rotation : Rotation

abbrev turn : Fold → Mark → Direction → Rotation → Listed
turn f m d r = record { fold = f; about = axis m d; rotation = r }

unfoldable pub turns : List Listed
turns =
    turn One Unmarked Z (rows 2 1 1 1 2 1 1 1 2)
    ∷ turn Two Unmarked X (rows 2 1 1 1 0 1 1 1 0)
    ∷ turn Two Unmarked Y (rows 0 1 1 1 2 1 1 1 0)
    ∷ turn Two Unmarked Z (rows 0 1 1 1 0 1 1 1 2)
    ∷ turn Three Unmarked X (rows 2 1 1 1 1 0 1 2 0)
    ∷ turn Three Unmarked Y (rows 0 1 2 1 2 1 0 1 1)
    ∷ turn Three Unmarked Z (rows 1 0 1 2 0 1 1 1 2)
    ∷ turn Four Unmarked X (rows 2 1 1 1 1 0 1 2 1)
    ∷ turn Four Unmarked Y (rows 1 1 2 1 2 1 0 1 1)
    ∷ turn Four Unmarked Z (rows 1 0 1 2 1 1 1 1 2)
    ∷ turn Six Unmarked X (rows 2 1 1 1 2 0 1 2 1)
    ∷ turn Six Unmarked Y (rows 1 1 2 1 2 1 0 1 2)
    ∷ turn Six Unmarked Z (rows 2 0 1 2 1 1 1 1 2)
    ∷ turn Two Single X (rows 0 1 1 1 1 0 1 0 1)
    ∷ turn Two Double X (rows 0 1 1 1 1 2 1 2 1)
    ∷ turn Two Single Y (rows 1 1 0 1 0 1 0 1 1)
    ∷ turn Two Double Y (rows 1 1 2 1 0 1 2 1 1)
    ∷ turn Two Single Z (rows 1 0 1 0 1 1 1 1 0)
    ∷ turn Two Double Z (rows 1 2 1 2 1 1 1 1 0)
    ∷ turn Three Unmarked Diagonal (rows 1 1 2 2 1 1 1 2 1)
    ∷ []

abbrev pub mark_number : Mark → ℕ
mark_number Unmarked = 0
mark_number Single = 1
mark_number Double = 2

abbrev pub direction_number : Direction → ℕ
direction_number X = 0
direction_number Y = 1
direction_number Z = 2
direction_number Diagonal = 3

-- Whether a listed rotation is that of a fold and an axis.
unfoldable pub is_for : Fold → Axis → Listed → Bool
is_for f a t =
    eqb (fold_number f) (fold_number t.fold)
    && (eqb (mark_number a.mark) (mark_number t.about.mark) && eqb (direction_number a.direction) (direction_number t.about.direction))

unfoldable pub turn_among : Fold → Axis → List Listed → Option Rotation
turn_among f a [] = None
turn_among f a (t ∷ ts) = cond (is_for f a t) (Some t.rotation) (turn_among f a ts)

-- The rotation of a fold about an axis, if it is among the twenty.
unfoldable pub turn_of : Fold → Axis → Option Rotation
turn_of f a = turn_among f a turns

-- A `-` negates all entries: the number e + 1 becomes 1 − e.
abbrev pub negated : Rotation → Rotation
negated r =
    rows (2 - r.xx) (2 - r.xy) (2 - r.xz) (2 - r.yx) (2 - r.yy) (2 - r.yz) (2 - r.zx) (2 - r.zy) (2 - r.zz)

unfoldable pub signed : Bool → Rotation → Rotation
signed true r = negated r
signed false r = r
