-- The translation rules of R2.7 and R2.8: the letters of a token's run added in twelfths, and one digit that may stand first.
use Rattle.std.specs.Prelude.{Bool, true, cond, ◌&&◌, List, [], ◌∷◌, ℕ, ◌+◌, ◌*◌, ◌/◌, ◌%◌, ltb, Option, Some}
use Rattle.operation.specs.declared.Translation.{Translation}
use Rattle.hall_axes.specs.declared.Fold.{Fold}
use Rattle.hall_axes.specs.declared.Axis.{Axis}
use Rattle.hall_token.specs.declared.RunByte.{RunByte}
use Rattle.hall_token.specs.declared.RunByte.TheVariants.{Screw, Letter, Prime, Foreign}
use Rattle.hall_axes.specs.Axes.{fold_number, plain_z}
use Rattle.hall_token.specs.Bytes.{run_byte_of}
use Rattle.hall_token.specs.Runs.{every, no_screw}

-- ---- the digit

-- The digit of a byte; other bytes have none, which counts as 0.
abbrev pub screw_digit : RunByte → ℕ
screw_digit (Screw s) = s
screw_digit (Letter t) = 0
screw_digit Prime = 0
screw_digit Foreign = 0

-- A digit s that stands first: on unmarked axis z only, and below the fold.
unfoldable pub screw_right : Fold → Axis → ℕ → Bool
screw_right f a s = plain_z a.mark a.direction && ltb s (fold_number f)

-- What the byte at the front of a run asks of fold and axis.
unfoldable pub front_right : Fold → Axis → RunByte → Bool
front_right f a v = cond (no_screw v) true (screw_right f a (screw_digit v))

-- The digit rule: one digit may stand first, and no other digit anywhere.
unfoldable pub digits_right : Fold → Axis → List ℕ → Bool
digits_right f a [] = true
digits_right f a (b ∷ bs) = front_right f a (run_byte_of b) && every no_screw bs

-- ---- the sum

-- The translation of a letter; other bytes have none.
abbrev pub letter_vector : RunByte → Translation
letter_vector (Screw s) = record { x = 0; y = 0; z = 0 }
letter_vector (Letter t) = t
letter_vector Prime = record { x = 0; y = 0; z = 0 }
letter_vector Foreign = record { x = 0; y = 0; z = 0 }

unfoldable pub sum_x : List ℕ → ℕ
sum_x [] = 0
sum_x (b ∷ bs) = (letter_vector (run_byte_of b)).x + sum_x bs

unfoldable pub sum_y : List ℕ → ℕ
sum_y [] = 0
sum_y (b ∷ bs) = (letter_vector (run_byte_of b)).y + sum_y bs

unfoldable pub sum_z : List ℕ → ℕ
sum_z [] = 0
sum_z (b ∷ bs) = (letter_vector (run_byte_of b)).z + sum_z bs

-- A digit s at the front adds (0,0,12s/fold).
unfoldable pub rise : Fold → List ℕ → ℕ
rise f [] = 0
rise f (b ∷ bs) = 12 * screw_digit (run_byte_of b) / fold_number f

-- The letters and the digit added, modulo 12.
unfoldable pub translation_of : Fold → List ℕ → Translation
translation_of f run = record { x = sum_x run % 12; y = sum_y run % 12; z = (rise f run + sum_z run) % 12 }

unfoldable pub moved_by : Fold → Axis → List ℕ → Option Translation
moved_by f a run = cond (digits_right f a run) (Some (translation_of f run)) Option.None
