-- The names of the rotation types held against turns: about z a turn of fold n has order n and is Rotation n, and its negative is
-- RotoInversion n. A wrong pair of trace and determinant in the table makes one of these computations fail.
use Rattle.std.specs.Prelude.{◌≡◌, refl, cond, List, [], ◌∷◌, map, ℕ, zero, suc, pos, negsuc}
use Rattle.std.proofs.Math.IntN.{one}
use Rattle.laws.specs.Integer.{◌⊖◌, nought}
use Rattle.laws.specs.Matrix.{Matrix, times, scaled, trace, determinant, unit}
use Rattle.laws.specs.SameMatrix.{same_row, same_matrix}
use Rattle.operation.specs.Answer.{given}
use Rattle.operation.specs.Meaning.{inside, row_inside, all_inside}
use Rattle.operation.specs.RotationType.{rows, pairs, lookup, identified, handedness_by, handedness_of}
use Rattle.operation.specs.declared.rotation_type.RotationType.TheVariants.{Rotation1, Rotation2, Rotation3, Rotation4, Rotation6, RotoInversion1, RotoInversion2, RotoInversion3, RotoInversion4, RotoInversion6}
use Rattle.operation.specs.declared.rotation_type.Handedness.TheVariants.{Proper, Improper}

-- Turns about z of the folds 1, 2, 3, 4 and 6.
unfoldable pub turns : List Matrix
turns =
    rows (pos 1) (pos 0) (pos 0) (pos 0) (pos 1) (pos 0) (pos 0) (pos 0) (pos 1) ∷
    rows (negsuc 0) (pos 0) (pos 0) (pos 0) (negsuc 0) (pos 0) (pos 0) (pos 0) (pos 1) ∷
    rows (pos 0) (negsuc 0) (pos 0) (pos 1) (negsuc 0) (pos 0) (pos 0) (pos 0) (pos 1) ∷
    rows (pos 0) (negsuc 0) (pos 0) (pos 1) (pos 0) (pos 0) (pos 0) (pos 0) (pos 1) ∷
    rows (pos 1) (negsuc 0) (pos 0) (pos 1) (pos 0) (pos 0) (pos 0) (pos 0) (pos 1) ∷
    []

-- The matrix with every entry negated.
abbrev pub negative : Matrix → Matrix
negative = scaled (negsuc 0)

-- P is A to the power n: the first power from there on that is the unit, or 0 where none is within the steps.
order_from : (steps n : ℕ) → Matrix → Matrix → ℕ
order_from zero n P A = 0
order_from (suc steps) n P A = cond (same_matrix P unit) n (order_from steps (suc n) (times P A) A)

-- The least power from 1 to 6 that is the unit.
pub order : Matrix → ℕ
order A = order_from 6 1 A A

-- The orders of the turns are their folds.
pub turns-orders : map order turns ≡ 1 ∷ 2 ∷ 3 ∷ 4 ∷ 6 ∷ []
unfolding turns order order_from same_matrix same_row times unit one nought
turns-orders = refl

-- Each turn has the type of its fold.
pub turns-identified : map identified turns ≡ given Rotation1 ∷ given Rotation2 ∷ given Rotation3 ∷ given Rotation4 ∷ given Rotation6 ∷ []
unfolding turns identified all_inside row_inside inside trace determinant ◌⊖◌ lookup pairs
turns-identified = refl

-- So has its negative.
pub negatives-identified : map (λ A. identified (negative A)) turns
    ≡ given RotoInversion1 ∷ given RotoInversion2 ∷ given RotoInversion3 ∷ given RotoInversion4 ∷ given RotoInversion6 ∷ []
unfolding turns identified all_inside row_inside inside trace determinant ◌⊖◌ lookup pairs scaled
negatives-identified = refl

-- A turn keeps the handedness.
pub turns-proper : map handedness_of turns ≡ Proper ∷ Proper ∷ Proper ∷ Proper ∷ Proper ∷ []
unfolding turns handedness_of handedness_by all_inside row_inside inside determinant ◌⊖◌ one
turns-proper = refl

-- Its negative reverses it.
pub negatives-improper : map (λ A. handedness_of (negative A)) turns ≡ Improper ∷ Improper ∷ Improper ∷ Improper ∷ Improper ∷ []
unfolding turns handedness_of handedness_by all_inside row_inside inside determinant ◌⊖◌ one scaled
negatives-improper = refl
