-- Lines to try, in one table: what the definitions answer for each. They are the worked cases of R10.
use Rattle.std.specs.Prelude.{◌≡◌, refl, List, [], ◌∷◌, map, ℕ}
use Prim.Native.String.{String}
use Prim.Native.Char.{code}
use Rattle.std.proofs.Math.IntN.{one}
use Rattle.laws.specs.Integer.{◌⊖◌}
use Rattle.laws.specs.Matrix.{determinant}
use Rattle.operation.specs.Answer.{Answer, given, refused, Nothing}
use Rattle.operation.specs.Code.{code_of}
use Rattle.operation.specs.Meaning.{entry_of, matrix_of, inside, row_inside, all_inside}
use Rattle.operation.specs.RotationType.{handedness_by, handedness_of}
use Rattle.operation.specs.declared.Operation.{Operation}
use Rattle.operation_line.specs.Spelling.{used}
use Rattle.operation_line.specs.Denoted.{digit_then, digit_in, twelfths_then, twelfths_in, rotation_of_line, translation_of_line, operation_of_line}
use Rattle.operation_line.specs.Reading as reading
use Rattle.operation_line.specs.Reading.{read_line}
use Rattle.operation_line.specs.Answers.{answer_of}

-- A quoted text as bytes.
abbrev bytes : String → List ℕ
bytes String.[] = []
bytes (String.◌∷◌ c s) = code c ∷ bytes s

-- An operation as its rotation's code and its translation in twelfths.
pub record Shown : Type 0 where
  pub turn : ℕ
  pub x : ℕ
  pub y : ℕ
  pub z : ℕ

abbrev shown : Operation → Shown
shown o = record { turn = code_of o.rotation; x = o.translation.x; y = o.translation.y; z = o.translation.z }

abbrev shown_by : Answer Operation Nothing → Answer Shown Nothing
shown_by (given f) = given (shown f)
shown_by (refused number place none) = refused number place none

-- What a line is answered with.
unfoldable pub told : String → Answer Shown Nothing
told s = shown_by (answer_of (read_line (bytes s)))

abbrev at : ℕ → ℕ → ℕ → ℕ → Answer Shown Nothing
at turn x y z = given (record { turn = turn; x = x; y = y; z = z })

abbrev refusal : ℕ → ℕ → Answer Shown Nothing
refusal number place = refused number place tt

pub record Case : Type 0 where
  pub line : String
  pub answer : Answer Shown Nothing

infix 70 ◌is◌
abbrev ◌is◌ : String → Answer Shown Nothing → Case
line is answer = record { line = line; answer = answer }

-- 16484 is the code of the identity, 3200 of −x, −y, z, and 3362 of −x, y, z.
abbrev cases : List Case
cases =
    "-x,-y+1/2,z" is at 3200 0 6 0
    ∷ "x,y,z" is at 16484 0 0 0
    ∷ " x , y , z " is at 16484 0 0 0
    ∷ "-  x,y,z" is at 3362 0 0 0
    ∷ "1/2+x,y,z" is at 16484 6 0 0
    ∷ "x+2/4,y + 10/12,z-1/3" is at 16484 6 10 8
    ∷ "x,y" is refusal 41 3
    ∷ "x,y,z," is refusal 41 5
    ∷ "x,,z" is refusal 41 2
    ∷ "xx,y,z" is refusal 41 1
    ∷ "x y,y,z" is refusal 41 2
    ∷ "x+x,y,z" is refusal 41 2
    ∷ "x,y,z+1/ 2" is refusal 41 8
    ∷ "x,y,z+1 1/12" is refusal 41 7
    ∷ "x+1/2+1/3,y,z" is refusal 41 6
    ∷ "x+y+z+1/2+,y,z" is refusal 41 9
    ∷ "x,y,z+0/2" is refusal 41 6
    ∷ "x,y,z+1/5" is refusal 41 8
    ∷ "x,y,z+7/6" is refusal 41 8
    ∷ "x,y,z+12/12" is refusal 41 7
    ∷ "x,y,z+3/" is refusal 41 8
    ∷ "x,y,z+5/1" is refusal 41 9
    ∷ "X,y,z" is refusal 41 0
    ∷ "\tx,y,z" is refusal 41 0
    ∷ "" is refusal 41 0
    ∷ "x,x,z" is refusal 42 0
    ∷ "x,y,1/2" is refusal 42 0
    ∷ "xxxxxxxxxxxxxxxxxxxxxxxxxxxxxxxxxxxxxxxxxxxxxxxxxxxxxxxxxxxxxxxxx" is refusal 40 0
    ∷ []

pub lines-to-try : map (λ (c : Case). told c.line) cases ≡ map (λ (c : Case). c.answer) cases
unfolding told code_of entry_of matrix_of inside row_inside all_inside handedness_by handedness_of determinant one ◌⊖◌ used digit_then digit_in twelfths_then
    twelfths_in rotation_of_line translation_of_line operation_of_line reading.symbol_in reading.digit_or reading.symbol_of reading.with_letter
    reading.with_fraction reading.with_numerator reading.begun reading.at_start reading.full reading.after_term reading.after_numerator reading.one_digit
    reading.over_digit reading.after_slash reading.after_one reading.step_by reading.onwards reading.reach reading.passed reading.readable reading.turned
    reading.whole_line reading.ended reading.answered read_line
lines-to-try = refl
