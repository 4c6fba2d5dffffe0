-- The rotation types by the ten pairs of trace and determinant, and the handedness by the determinant, both of integer matrices
-- with entries in −1..1. At the end: each contract leaves one answer, and what a handedness says of the matrix.
use Rattle.std.specs.Prelude.{◌≡◌, refl, Bool, true, false, cond, ◌&&◌, List, [], ◌∷◌, ℕ, ℤ, pos, neg_ℤ, None, Option, Some}
use Rattle.std.proofs.Math.IntN.{one}
use Rattle.laws.specs.Matrix.{Matrix, trace, determinant}
use Rattle.laws.specs.SameMatrix.{same_integer, integer-exact}
use Rattle.operation.specs.Meaning.{all_inside}
use Rattle.operation.specs.Answer.{Answer, Nothing, given, refused}
use Rattle.operation.specs.declared.rotation_type.RotationType.{RotationType}
use Rattle.operation.specs.declared.rotation_type.RotationType.TheVariants.{Rotation1, Rotation2, Rotation3, Rotation4, Rotation6, RotoInversion1, RotoInversion2, RotoInversion3, RotoInversion4, RotoInversion6}
use Rattle.operation.specs.declared.rotation_type.Handedness.{Handedness}
use Rattle.operation.specs.declared.rotation_type.Handedness.TheVariants.{Proper, Improper, Neither}

-- The matrix of nine numbers, by rows.
abbrev pub rows : ℤ → ℤ → ℤ → ℤ → ℤ → ℤ → ℤ → ℤ → ℤ → Matrix
rows xx xy xz yx yy yz zx zy zz =
    record { xx = xx; xy = xy; xz = xz; yx = yx; yy = yy; yz = yz; zx = zx; zy = zy; zz = zz }

-- ---- the rotation type
-- A pair of trace and determinant, and its type.
pub record Pair : Type 0 where
  pub trace : ℤ
  pub determinant : ℤ
  pub type : RotationType

-- One line of the table.
abbrev pair : ℤ → ℤ → RotationType → Pair
pair t d k = record { trace = t; determinant = d; type = k }

-- −n
abbrev minus : ℕ → ℤ
minus n = neg_ℤ (pos n)

-- The ten pairs of R4.2.
unfoldable pub pairs : List Pair
pairs =
    pair (pos 3) (pos 1) Rotation1 ∷
    pair (minus 1) (pos 1) Rotation2 ∷
    pair (pos 0) (pos 1) Rotation3 ∷
    pair (pos 1) (pos 1) Rotation4 ∷
    pair (pos 2) (pos 1) Rotation6 ∷
    pair (minus 3) (minus 1) RotoInversion1 ∷
    pair (pos 1) (minus 1) RotoInversion2 ∷
    pair (pos 0) (minus 1) RotoInversion3 ∷
    pair (minus 1) (minus 1) RotoInversion4 ∷
    pair (minus 2) (minus 1) RotoInversion6 ∷
    []

-- Refusal 15 of R8: an entry or a pair that is unknown.
abbrev pub unknown : Answer RotationType Nothing
unknown = refused 15 0 tt

-- The type that a list of pairs gives for trace t and determinant d.
unfoldable pub lookup : ℤ → ℤ → List Pair → Answer RotationType Nothing
lookup t d [] = unknown
lookup t d (p ∷ ps) = cond (same_integer t p.trace && same_integer d p.determinant) (given p.type) (lookup t d ps)

-- The type by the ten pairs.
abbrev pub type_of : ℤ → ℤ → Answer RotationType Nothing
type_of t d = lookup t d pairs

-- What is right for a matrix of any integers.
unfoldable pub identified : Matrix → Answer RotationType Nothing
identified A = cond (all_inside A) (type_of (trace A) (determinant A)) unknown

-- What each answer of the code says in the numbers of R8.
unfoldable pub type_answer : Option RotationType → Answer RotationType Nothing
type_answer (Some k) = given k
type_answer None = unknown

-- ---- the handedness
-- 1 keeps the handedness, −1 reverses it.
unfoldable pub handedness_by : ℤ → Handedness
handedness_by d = cond (same_integer d one) Proper (cond (same_integer d (neg_ℤ one)) Improper Neither)

-- What is right for a matrix of any integers.
unfoldable pub handedness_of : Matrix → Handedness
handedness_of A = cond (all_inside A) (handedness_by (determinant A)) Neither

-- A determinant of 1 or −1.
abbrev pub is_turn : Handedness → Bool
is_turn Proper = true
is_turn Improper = true
is_turn Neither = false

-- What must hold of the three tests of `handedness_of` for each answer.
abbrev Passed : Bool → Bool → Bool → Handedness → Type 0
Passed small plus minus Proper = (small ≡ true) × (plus ≡ true)
Passed small plus minus Improper = (small ≡ true) × (minus ≡ true)
Passed small plus minus Neither = Unit {0}

-- The answer tells which tests passed.
tests-passed : (small plus minus : Bool) → Passed small plus minus (cond small (cond plus Proper (cond minus Improper Neither)) Neither)
tests-passed true true minus = (refl, refl)
tests-passed true false true = (refl, refl)
tests-passed true false false = tt
tests-passed false plus minus = tt

-- The same of a matrix.
tests-of : (A : Matrix) → Passed (all_inside A) (same_integer (determinant A) one) (same_integer (determinant A) (neg_ℤ one)) (handedness_of A)
unfolding handedness_of handedness_by
tests-of A = tests-passed (all_inside A) (same_integer (determinant A) one) (same_integer (determinant A) (neg_ℤ one))

-- A proper matrix is in range and has determinant 1, an improper one is in range and has determinant −1.
pub proper-determinant : (A : Matrix) → handedness_of A ≡ Proper → (all_inside A ≡ true) × (determinant A ≡ one)
proper-determinant A e =
    let t = rw e at (tests-of A) in
    (t.0, (integer-exact (determinant A) one).0 t.1)

pub improper-determinant : (A : Matrix) → handedness_of A ≡ Improper → (all_inside A ≡ true) × (determinant A ≡ neg_ℤ one)
improper-determinant A e =
    let t = rw e at (tests-of A) in
    (t.0, (integer-exact (determinant A) (neg_ℤ one)).0 t.1)

-- And the other way round.
pub determinant-proper : (A : Matrix) → all_inside A ≡ true → determinant A ≡ one → handedness_of A ≡ Proper
unfolding handedness_of handedness_by one
determinant-proper A s d = rw (s, d)

pub determinant-improper : (A : Matrix) → all_inside A ≡ true → determinant A ≡ neg_ℤ one → handedness_of A ≡ Improper
unfolding handedness_of handedness_by one
determinant-improper A s d = rw (s, d)

-- ---- one answer
-- Two answers of the code that say the same are the same.
pub one-type-answer : (r s : Option RotationType) → type_answer r ≡ type_answer s → r ≡ s
unfolding type_answer
one-type-answer (Some k) (Some l) h = cc
one-type-answer (Some k) None h = cc
one-type-answer None (Some l) h = cc
one-type-answer None None h = refl
