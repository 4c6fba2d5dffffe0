-- A rotation as the code holds it: one number of nine octal digits, by rows, each digit an entry plus one, or none where a fold has no matrix about an axis.
use Rattle.std.specs.Prelude.{◌≡◌, refl, ℕ, ◌+◌, ◌*◌, ◌/◌, ◌%◌, Option, Some, None}
use Rattle.hall_axes.specs.declared.Fold.{Fold}
use Rattle.hall_axes.specs.declared.Fold.TheVariants.{One, Two, Three, Four, Six}
use Rattle.hall_axes.specs.declared.Mark.{Mark}
use Rattle.hall_axes.specs.declared.Mark.TheVariants.{Unmarked, Single, Double}
use Rattle.hall_axes.specs.declared.Direction.{Direction}
use Rattle.hall_axes.specs.declared.Direction.TheVariants.{X, Y, Z, Diagonal}
use Rattle.hall_axes.specs.declared.Axis.{Axis}
use Rattle.hall_axes.specs.Axes.{axis}
use Rattle.hall_axes.specs.Matrices.{rows, turns, is_for, turn_among, turn_of}
use Rattle.operation.specs.declared.Rotation.{Rotation}

-- Nine octal digits as one number.
abbrev pub octal : ℕ → ℕ → ℕ → ℕ → ℕ → ℕ → ℕ → ℕ → ℕ → ℕ
octal a b c d e f g h i =
    a * 16777216 + b * 2097152 + c * 262144 + d * 32768 + e * 4096 + f * 512 + g * 64 + h * 8 + i

-- The number of a fold and an axis. About a marked axis fold 2 alone has one.
abbrev pub packed_turn : Mark → Fold → Direction → Option ℕ
packed_turn Unmarked One Z = Some (octal 2 1 1 1 2 1 1 1 2)
packed_turn Unmarked One X = Option.None
packed_turn Unmarked One Y = Option.None
packed_turn Unmarked One Diagonal = Option.None
packed_turn Unmarked Two X = Some (octal 2 1 1 1 0 1 1 1 0)
packed_turn Unmarked Two Y = Some (octal 0 1 1 1 2 1 1 1 0)
packed_turn Unmarked Two Z = Some (octal 0 1 1 1 0 1 1 1 2)
packed_turn Unmarked Two Diagonal = Option.None
packed_turn Unmarked Three X = Some (octal 2 1 1 1 1 0 1 2 0)
packed_turn Unmarked Three Y = Some (octal 0 1 2 1 2 1 0 1 1)
packed_turn Unmarked Three Z = Some (octal 1 0 1 2 0 1 1 1 2)
packed_turn Unmarked Three Diagonal = Some (octal 1 1 2 2 1 1 1 2 1)
packed_turn Unmarked Four X = Some (octal 2 1 1 1 1 0 1 2 1)
packed_turn Unmarked Four Y = Some (octal 1 1 2 1 2 1 0 1 1)
packed_turn Unmarked Four Z = Some (octal 1 0 1 2 1 1 1 1 2)
packed_turn Unmarked Four Diagonal = Option.None
packed_turn Unmarked Six X = Some (octal 2 1 1 1 2 0 1 2 1)
packed_turn Unmarked Six Y = Some (octal 1 1 2 1 2 1 0 1 2)
packed_turn Unmarked Six Z = Some (octal 2 0 1 2 1 1 1 1 2)
packed_turn Unmarked Six Diagonal = Option.None
packed_turn Single Two X = Some (octal 0 1 1 1 1 0 1 0 1)
packed_turn Single Two Y = Some (octal 1 1 0 1 0 1 0 1 1)
packed_turn Single Two Z = Some (octal 1 0 1 0 1 1 1 1 0)
packed_turn Single Two Diagonal = Option.None
packed_turn Single One d = Option.None
packed_turn Single Three d = Option.None
packed_turn Single Four d = Option.None
packed_turn Single Six d = Option.None
packed_turn Double Two X = Some (octal 0 1 1 1 1 2 1 2 1)
packed_turn Double Two Y = Some (octal 1 1 2 1 0 1 2 1 1)
packed_turn Double Two Z = Some (octal 1 2 1 2 1 1 1 1 0)
packed_turn Double Two Diagonal = Option.None
packed_turn Double One d = Option.None
packed_turn Double Three d = Option.None
packed_turn Double Four d = Option.None
packed_turn Double Six d = Option.None

-- The rotation that a number holds.
abbrev pub unpacked : Option ℕ → Option Rotation
unpacked Option.None = None
unpacked (Some k) =
    Some (rows (k / 16777216 % 8) (k / 2097152 % 8) (k / 262144 % 8) (k / 32768 % 8) (k / 4096 % 8) (k / 512 % 8) (k / 64 % 8) (k / 8 % 8) (k % 8))

-- The number of a fold and an axis holds their rotation.
packed-at : (f : Fold) (m : Mark) (d : Direction) → turn_of f (axis m d) ≡ unpacked (packed_turn m f d)
unfolding turn_of turn_among is_for turns
packed-at One Unmarked X = refl
packed-at One Unmarked Y = refl
packed-at One Unmarked Z = refl
packed-at One Unmarked Diagonal = refl
packed-at One Single d = refl
packed-at One Double d = refl
packed-at Two Unmarked X = refl
packed-at Two Unmarked Y = refl
packed-at Two Unmarked Z = refl
packed-at Two Unmarked Diagonal = refl
packed-at Two Single X = refl
packed-at Two Single Y = refl
packed-at Two Single Z = refl
packed-at Two Single Diagonal = refl
packed-at Two Double X = refl
packed-at Two Double Y = refl
packed-at Two Double Z = refl
packed-at Two Double Diagonal = refl
packed-at Three Unmarked X = refl
packed-at Three Unmarked Y = refl
packed-at Three Unmarked Z = refl
packed-at Three Unmarked Diagonal = refl
packed-at Three Single d = refl
packed-at Three Double d = refl
packed-at Four Unmarked X = refl
packed-at Four Unmarked Y = refl
packed-at Four Unmarked Z = refl
packed-at Four Unmarked Diagonal = refl
packed-at Four Single d = refl
packed-at Four Double d = refl
packed-at Six Unmarked X = refl
packed-at Six Unmarked Y = refl
packed-at Six Unmarked Z = refl
packed-at Six Unmarked Diagonal = refl
packed-at Six Single d = refl
packed-at Six Double d = refl

pub turn-packed : (f : Fold) (a : Axis) → turn_of f a ≡ unpacked (packed_turn a.mark f a.direction)
turn-packed f a = packed-at f a.mark a.direction
