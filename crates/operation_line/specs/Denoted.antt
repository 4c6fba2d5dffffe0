-- What the terms of a line denote: each part a row of the matrix and twelfths of an edge, and the value that it takes at a vector.
use Rattle.std.specs.Prelude.{Bool, true, false, cond, List, [], ◌∷◌, ℕ, ◌*◌, ◌-◌, ◌/◌, ℤ, pos, neg_ℤ, ◌+ℤ◌}
use Rattle.laws.specs.Matrix.{Vector}
use Rattle.operation.specs.declared.Rotation.{Rotation}
use Rattle.operation.specs.declared.Translation.{Translation}
use Rattle.operation.specs.declared.Operation.{Operation}
use Rattle.operation_line.specs.declared.Letter.{Letter}
use Rattle.operation_line.specs.declared.Letter.TheVariants.{X, Y, Z}
use Rattle.operation_line.specs.Spelling.{Body, letter, fraction, Term, Line, same_letter}

-- ---- the operation

-- The digit of an entry: 0, 1, 2 for −1, 0, 1.
abbrev pub sign_digit : Bool → ℕ
sign_digit true = 0
sign_digit false = 2

-- A letter's entry in the row: its sign where it stands, otherwise 0.
unfoldable pub digit_then : Letter → Bool → Body → ℕ → ℕ
digit_then l n (letter k) below = cond (same_letter l k) (sign_digit n) below
digit_then l n (fraction p q) below = below

unfoldable pub digit_in : Letter → List Term → ℕ
digit_in l [] = 1
digit_in l (t ∷ ts) = digit_then l t.negative t.body (digit_in l ts)

-- p/q of an edge is 12p/q twelfths, and −p/q is 12 less that.
abbrev pub fraction_twelfths : Bool → ℕ → ℕ → ℕ
fraction_twelfths true p q = 12 - 12 * p / q
fraction_twelfths false p q = 12 * p / q

unfoldable pub twelfths_then : Bool → Body → ℕ → ℕ
twelfths_then n (letter k) below = below
twelfths_then n (fraction p q) below = fraction_twelfths n p q

-- The part's translation in twelfths, 0 where it has no fraction.
unfoldable pub twelfths_in : List Term → ℕ
twelfths_in [] = 0
twelfths_in (t ∷ ts) = twelfths_then t.negative t.body (twelfths_in ts)

-- Parts are rows, letters columns.
unfoldable pub rotation_of_line : Line → Rotation
rotation_of_line l =
    record {
      xx = digit_in X l.x;
      xy = digit_in Y l.x;
      xz = digit_in Z l.x;
      yx = digit_in X l.y;
      yy = digit_in Y l.y;
      yz = digit_in Z l.y;
      zx = digit_in X l.z;
      zy = digit_in Y l.z;
      zz = digit_in Z l.z;
    }

unfoldable pub translation_of_line : Line → Translation
translation_of_line l = record { x = twelfths_in l.x; y = twelfths_in l.y; z = twelfths_in l.z }

unfoldable pub operation_of_line : Line → Operation
operation_of_line l = record { rotation = rotation_of_line l; translation = translation_of_line l }

-- ---- the value at a vector, in twelfths

abbrev pub coordinate : Letter → Vector → ℤ
coordinate X v = v.x
coordinate Y v = v.y
coordinate Z v = v.z

-- A letter stands for its coordinate, p/q for 12p/q.
abbrev pub body_value : Vector → Body → ℤ
body_value v (letter l) = coordinate l v
body_value v (fraction p q) = pos (12 * p / q)

abbrev pub signed_value : Bool → ℤ → ℤ
signed_value true e = neg_ℤ e
signed_value false e = e

-- A part's value is the sum of its terms'.
unfoldable pub value_at : Vector → List Term → ℤ
value_at v [] = pos 0
value_at v (t ∷ ts) = signed_value t.negative (body_value v t.body) +ℤ value_at v ts
