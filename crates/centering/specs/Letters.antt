-- The letters and their centring points in twelfths, as R3.4 lists them: the one place where a letter is data.
use Rattle.std.specs.Prelude.{cond, List, [], ◌∷◌, ℕ, eqb, None, Option, Some}
use Rattle.laws.specs.Residue.{Triple}
use Rattle.centering.specs.declared.Centering.{Centering}
use Rattle.centering.specs.declared.Centering.TheVariants.{P, A, B, C, I, R, F, H}

abbrev pub point : ℕ → ℕ → ℕ → Triple
point a b c = record { x = a; y = b; z = c }

-- The letter's byte.
abbrev pub byte_of : Centering → ℕ
byte_of P = 80
byte_of A = 65
byte_of B = 66
byte_of C = 67
byte_of I = 73
byte_of R = 82
byte_of F = 70
byte_of H = 72

-- Its points, each list with (0,0,0).
abbrev pub points_of : Centering → List Triple
points_of P = point 0 0 0 ∷ []
points_of A = point 0 0 0 ∷ point 0 6 6 ∷ []
points_of B = point 0 0 0 ∷ point 6 0 6 ∷ []
points_of C = point 0 0 0 ∷ point 6 6 0 ∷ []
points_of I = point 0 0 0 ∷ point 6 6 6 ∷ []
points_of R = point 0 0 0 ∷ point 8 4 4 ∷ point 4 8 8 ∷ []
points_of F = point 0 0 0 ∷ point 0 6 6 ∷ point 6 0 6 ∷ point 6 6 0 ∷ []
points_of H = point 0 0 0 ∷ point 8 4 0 ∷ point 4 8 0 ∷ []

-- Every letter.
abbrev pub letters : List Centering
letters = P ∷ A ∷ B ∷ C ∷ I ∷ R ∷ F ∷ H ∷ []

-- The letter among some that a byte spells.
unfoldable pub letter_among : ℕ → List Centering → Option Centering
letter_among b [] = None
letter_among b (c ∷ cs) = cond (eqb b (byte_of c)) (Some c) (letter_among b cs)

unfoldable pub letter_of : ℕ → Option Centering
letter_of b = letter_among b letters
