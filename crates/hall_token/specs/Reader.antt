-- The reader of one N token by R1 and R2: the token cut into its parts, then refusals 5, 8, 6, 7, 17 in this order, then the operation.
use Rattle.std.specs.Prelude.{Bool, true, false, cond, List, [], ◌∷◌, ℕ, ◌+◌, eqb, ltb, length, Option, Some, Err, None, Ok, Result}
use Rattle.operation.specs.declared.Rotation.{Rotation}
use Rattle.operation.specs.declared.Translation.{Translation}
use Rattle.hall_axes.specs.declared.Fold.{Fold}
use Rattle.hall_axes.specs.declared.Mark.{Mark}
use Rattle.hall_axes.specs.declared.Mark.TheVariants.{Unmarked, Single, Double}
use Rattle.hall_axes.specs.declared.Axis.{Axis}
use Rattle.hall_axes.specs.declared.Previous.{Previous}
use Rattle.hall_token.specs.declared.refusal.Refusal.TheVariants.{Misspelt, Primed, Unsettled, Digit, Doubled}
use Rattle.hall_token.specs.Bytes.{fold_of, mark_of, letter_of}
use Rattle.hall_axes.specs.Axes.{axis_of}
use Rattle.hall_axes.specs.Matrices.{turn_of, signed}
use Rattle.hall_token.specs.Runs.{may_stand, no_prime, every}
use Rattle.hall_token.specs.Translations.{moved_by}
use Rattle.hall_token.specs.Offsets.{sign_length, run_start, passing, wrong_digit_at}
use Rattle.hall_token.specs.RunLetters.{repeat_at}
use Rattle.hall_axes.specs.declared.Direction.{Direction}
use Rattle.operation.specs.declared.Operation.{Operation}
use Rattle.hall_token.specs.declared.refusal.Refusal.{Refusal}

-- ---- the parts of a token, from the left

-- A token's parts: whether a `-` stands first, fold, mark, letter and run. Or it is misspelt from an offset on.
pub data Parts : Type 0 where
  parts : Bool → Fold → Mark → Option Direction → List ℕ → Parts
  no-parts : ℕ → Parts

unfoldable pub read_run : Bool → Fold → Mark → Option Direction → List ℕ → Parts
read_run n f m l run = cond (every may_stand run) (parts n f m l run) (no-parts (run_start n m l + passing may_stand run))

-- After the mark: a letter x y z `*` or none, where the byte b stands at the front of what is left.
unfoldable pub letter_then : Bool → Fold → Mark → Option Direction → ℕ → List ℕ → Parts
letter_then n f m (Some d) b bs = read_run n f m (Some d) bs
letter_then n f m None b bs = read_run n f m None (b ∷ bs)

unfoldable pub read_letter : Bool → Fold → Mark → List ℕ → Parts
read_letter n f m [] = read_run n f m None []
read_letter n f m (b ∷ bs) = letter_then n f m (letter_of b) b bs

-- After the fold: a mark `^` or `=`, or none.
unfoldable pub mark_then : Bool → Fold → Mark → ℕ → List ℕ → Parts
mark_then n f Unmarked b bs = read_letter n f Unmarked (b ∷ bs)
mark_then n f Single b bs = read_letter n f Single bs
mark_then n f Double b bs = read_letter n f Double bs

unfoldable pub read_mark : Bool → Fold → List ℕ → Parts
read_mark n f [] = read_letter n f Unmarked []
read_mark n f (b ∷ bs) = mark_then n f (mark_of b) b bs

-- After the sign: the fold, which must be there.
unfoldable pub fold_then : Bool → Option Fold → List ℕ → Parts
fold_then n (Some f) bs = read_mark n f bs
fold_then n Option.None bs = no-parts (sign_length n)

unfoldable pub read_fold : Bool → List ℕ → Parts
read_fold n [] = no-parts (sign_length n)
read_fold n (b ∷ bs) = fold_then n (fold_of b) bs

-- An optional `-` first.
unfoldable pub read_token : List ℕ → Parts
read_token [] = no-parts 0
read_token (b ∷ bs) = cond (eqb b 45) (read_fold true bs) (read_fold false (b ∷ bs))

-- ---- what the parts say

-- With right digits: refused 17 where a letter repeats an earlier one, or the operation with its fold and axis. The run starts at offset s.
unfoldable pub once_then : ℕ → List ℕ → Result (Operation × Fold × Axis) (ℕ × Refusal) → Result (Operation × Fold × Axis) (ℕ × Refusal)
once_then s run o = cond (ltb (repeat_at run) (length run)) (Err ((s + repeat_at run), Doubled)) o

-- With a matrix: refused 7 at a wrong digit.
unfoldable pub moved_then : ℕ → Bool → Fold → Axis → List ℕ → Rotation → Option Translation → Result (Operation × Fold × Axis) (ℕ × Refusal)
moved_then s n f a run r (Some t) = once_then s run (Ok ((record { rotation = signed n r; translation = t }), f, a))
moved_then s n f a run r Option.None = Err ((s + wrong_digit_at f a run), Digit)

-- With an axis: refused 6 if the fold has no matrix about it.
unfoldable pub turn_then : ℕ → Bool → Fold → Axis → List ℕ → Option Rotation → Result (Operation × Fold × Axis) (ℕ × Refusal)
turn_then s n f a run (Some r) = moved_then s n f a run r (moved_by f a run)
turn_then s n f a run None = Err (0, Unsettled)

-- Refused 6 if the axis is not settled.
unfoldable pub axis_then : ℕ → Bool → Fold → List ℕ → Option Axis → Result (Operation × Fold × Axis) (ℕ × Refusal)
axis_then s n f run (Some a) = turn_then s n f a run (turn_of f a)
axis_then s n f run None = Err (0, Unsettled)

-- Misspelt tokens are refused 5 before all, then primed ones 8.
unfoldable pub operation_of_parts : Parts → Previous → Result (Operation × Fold × Axis) (ℕ × Refusal)
operation_of_parts (parts n f m l run) p =
    cond (every no_prime run) (axis_then (run_start n m l) n f run (axis_of f m l p)) (Err (0, Primed))
operation_of_parts (no-parts k) p = Err (k, Misspelt)

-- The answer to one N token, given what stands to its left.
unfoldable pub operation_token : List ℕ → Previous → Result (Operation × Fold × Axis) (ℕ × Refusal)
operation_token token p = operation_of_parts (read_token token) p
