-- What the reader's code holds for a reading: the code of the rows and the twelfths as one number each. The same steps on these numbers: a letter is
-- used where its digit is not 1, a fraction where the last twelfths are not 0.
use Rattle.std.specs.Prelude.{◌≡◌, refl, Bool, true, false, cond, not, ℕ, ◌+◌, ◌*◌, ◌-◌, ◌/◌, ◌%◌, ◌<◌, ◌≤◌, eqb, ltb, Err, Result}
use Rattle.std.proofs.Common.{sym, ◌∙◌, ap, arith, eqb-true}
use Rattle.operation.specs.Code.{decoded_of}
use Rattle.operation.specs.Meaning.{matrix_of}
use Rattle.operation.specs.RotationType.{handedness_of}
use Rattle.operation.specs.declared.Rotation.{Rotation}
use Rattle.operation.specs.declared.Operation.{Operation}
use Rattle.operation.specs.declared.rotation_type.Handedness.{Handedness}
use Rattle.operation_line.specs.declared.Letter.{Letter}
use Rattle.operation_line.specs.declared.Letter.TheVariants.{X, Y, Z}
use Rattle.operation_line.specs.declared.reader.Symbol.{Symbol}
use Rattle.operation_line.specs.declared.reader.Symbol.TheVariants.{Space, Sign, Named, Digit, Slash, Comma, Foreign}
use Rattle.operation_line.specs.declared.reader.Mode.{Mode}
use Rattle.operation_line.specs.declared.reader.Mode.TheVariants.{Start, Owed, Told, Numerator, Behind, Twelfth}
use Rattle.operation_line.specs.declared.reader.State.{State}
use Rattle.std.specs.Prelude.{Option, Some, None}
use Rattle.operation_line.specs.Reading.{symbol_of, turned, decided}
use Rattle.operation_line.specs.declared.ReadingRefusal.TheVariants.{Determinant, Misspelt}
use Rattle.operation_line.specs.declared.ReadingRefusal.{ReadingRefusal}

-- A letter's place in a row of three digits.
abbrev pub weight_of : Letter → ℕ
weight_of X = 9
weight_of Y = 3
weight_of Z = 1

-- Its digit in the last row of a code.
unfoldable pub column_of : ℕ → Letter → ℕ
column_of c X = c / 9 % 3
column_of c Y = c / 3 % 3
column_of c Z = c % 3

abbrev pub ending_numbers : State → Mode → Option State
ending_numbers s m = Some (record { part = s.part; mode = m; code = s.code; rank = s.rank })

abbrev pub told_numbers : State → ℕ → ℕ → Option State
told_numbers s c r = Some (record { part = s.part; mode = Told; code = c; rank = r })

unfoldable pub letter_numbers : State → Bool → Letter → Option State
letter_numbers s n l =
    cond (eqb (column_of s.code l) 1) (told_numbers s (cond n (s.code - weight_of l) (s.code + weight_of l)) s.rank) None

unfoldable pub fraction_numbers : State → Bool → ℕ → Option State
fraction_numbers s n t = told_numbers s s.code (s.rank + cond n (12 - t) t)

unfoldable pub numerator_numbers : State → Bool → ℕ → Option State
numerator_numbers s n m = cond (eqb m 0) None (cond (eqb (s.rank % 12) 0) (ending_numbers s (Numerator n m)) None)

abbrev pub begun_numbers : State → Bool → Symbol → Option State
begun_numbers s n Space = Some s
begun_numbers s n (Sign m) = None
begun_numbers s n (Named l) = letter_numbers s n l
begun_numbers s n (Digit m) = numerator_numbers s n m
begun_numbers s n Slash = None
begun_numbers s n Comma = None
begun_numbers s n Foreign = None

abbrev pub start_numbers : State → Symbol → Option State
start_numbers s Space = begun_numbers s false Space
start_numbers s (Sign n) = ending_numbers s (Owed n)
start_numbers s (Named l) = begun_numbers s false (Named l)
start_numbers s (Digit m) = begun_numbers s false (Digit m)
start_numbers s Slash = None
start_numbers s Comma = None
start_numbers s Foreign = None

unfoldable pub full_numbers : ℕ → ℕ → Bool
full_numbers c r =
    cond (eqb (column_of c X) 1) false (cond (eqb (column_of c Y) 1) false (cond (eqb (column_of c Z) 1) false (not (eqb (r % 12) 0))))

-- A new row of 0s, and no twelfths.
unfoldable pub next_numbers : State → Option State
next_numbers s =
    cond (ltb s.part 2) (Some (record { part = s.part + 1; mode = Start; code = s.code * 27 + 13; rank = s.rank * 12 })) None

abbrev pub term_numbers : State → Symbol → Option State
term_numbers s Space = Some s
term_numbers s (Sign n) = cond (full_numbers s.code s.rank) None (ending_numbers s (Owed n))
term_numbers s (Named l) = None
term_numbers s (Digit m) = None
term_numbers s Slash = None
term_numbers s Comma = next_numbers s
term_numbers s Foreign = None

unfoldable pub second_numbers : State → Bool → ℕ → ℕ → Option State
second_numbers s n m d = cond (eqb m 1) (cond (ltb d 2) (ending_numbers s (Numerator n (10 + d))) None) None

abbrev pub after_numbers : State → Bool → ℕ → Symbol → Option State
after_numbers s n m Space = None
after_numbers s n m (Sign k) = None
after_numbers s n m (Named l) = None
after_numbers s n m (Digit d) = second_numbers s n m d
after_numbers s n m Slash = ending_numbers s (Behind n m)
after_numbers s n m Comma = None
after_numbers s n m Foreign = None

-- How many twelfths one over a digit is, 0 where the digit is no denominator.
unfoldable pub unit_of : ℕ → ℕ
unit_of d = cond (eqb d 2) 6 (cond (eqb d 3) 4 (cond (eqb d 4) 3 (cond (eqb d 6) 2 0)))

-- The same where the digit is one.
unfoldable pub unit_found : ℕ → Option ℕ
unit_found d = cond (eqb (unit_of d) 0) None (Some (unit_of d))

pub unit-there : (d u : ℕ) → unit_found d ≡ Some u → (eqb (unit_of d) 0 ≡ false) × (u ≡ unit_of d)
unfolding unit_found
unit-there d u e = go (eqb (unit_of d) 0) e
  where
    go : (b : Bool) → cond b None (Some (unit_of d)) ≡ Some u → (b ≡ false) × (u ≡ unit_of d)
    go true h = cc
    go false h = (refl, cc)

pub unit-missing : (d : ℕ) → unit_found d ≡ None → eqb (unit_of d) 0 ≡ true
unfolding unit_found
unit-missing d e = go (eqb (unit_of d) 0) e
  where
    go : (b : Bool) → cond b None (Some (unit_of d)) ≡ None → b ≡ true
    go true h = refl
    go false h = cc

unfoldable pub over_numbers : State → Bool → ℕ → ℕ → Option State
over_numbers s n m d =
    cond (eqb d 1) (ending_numbers s (Twelfth n m)) (cond (eqb (unit_of d) 0) None (cond (ltb m d) (fraction_numbers s n (m * unit_of d)) None))

abbrev pub slash_numbers : State → Bool → ℕ → Symbol → Option State
slash_numbers s n m Space = None
slash_numbers s n m (Sign k) = None
slash_numbers s n m (Named l) = None
slash_numbers s n m (Digit d) = over_numbers s n m d
slash_numbers s n m Slash = None
slash_numbers s n m Comma = None
slash_numbers s n m Foreign = None

unfoldable pub twelve_numbers : State → Bool → ℕ → ℕ → Option State
twelve_numbers s n m d = cond (eqb d 2) (cond (ltb m 12) (fraction_numbers s n m) None) None

abbrev pub one_numbers : State → Bool → ℕ → Symbol → Option State
one_numbers s n m Space = None
one_numbers s n m (Sign k) = None
one_numbers s n m (Named l) = None
one_numbers s n m (Digit d) = twelve_numbers s n m d
one_numbers s n m Slash = None
one_numbers s n m Comma = None
one_numbers s n m Foreign = None

abbrev pub numbers_by : State → Mode → Symbol → Option State
numbers_by s Start b = start_numbers s b
numbers_by s (Owed n) b = begun_numbers s n b
numbers_by s Told b = term_numbers s b
numbers_by s (Numerator n m) b = after_numbers s n m b
numbers_by s (Behind n m) b = slash_numbers s n m b
numbers_by s (Twelfth n m) b = one_numbers s n m b

abbrev pub step_numbers : State → ℕ → Option State
step_numbers s b = numbers_by s s.mode (symbol_of b)

-- A code of three rows and a number of three twelfths: what the sums of a step stay within.
abbrev pub Within : State → Type 0
Within s = (s.code < 19683) × (s.rank < 1728)

-- ---- the end

-- A rotation with three twelfths in one number.
abbrev pub numbered : Rotation → ℕ → Operation
numbered r n = record { rotation = r; translation = record { x = n / 144 % 12; y = n / 12 % 12; z = n % 12 } }

-- The operation of a code and of three twelfths.
unfoldable pub decoded_then : Option Rotation → ℕ → Result Operation ReadingRefusal
decoded_then (Some r) n = decided (numbered r n)
decoded_then None n = Err Determinant

abbrev pub decoded_line : ℕ → ℕ → Result Operation ReadingRefusal
decoded_line c n = decoded_then (decoded_of c) n

-- What the code answers for a rotation that it has decoded.
pub decoded-answer : (c n : ℕ) (d : Option Rotation) (r : Rotation) (h k : Handedness) → d ≡ decoded_of c → d ≡ Some r → h ≡ handedness_of (matrix_of r) → h ≡ k
    → turned (numbered r n) k ≡ decoded_line c n
unfolding decoded_then
decoded-answer c n d r h k code inside handed told =
    ap (turned (numbered r n)) (sym told ∙ handed) ∙ ap (λ (e : Option Rotation). decoded_then e n) (sym inside ∙ code)

unfoldable pub whole_numbers : ℕ → State → Result Operation ReadingRefusal
whole_numbers size s = cond (eqb s.part 2) (decoded_line s.code s.rank) (Err (Misspelt size))

abbrev pub ended_by : ℕ → State → Mode → Result Operation ReadingRefusal
ended_by size s Start = Err (Misspelt size)
ended_by size s (Owed n) = Err (Misspelt size)
ended_by size s Told = whole_numbers size s
ended_by size s (Numerator n m) = Err (Misspelt size)
ended_by size s (Behind n m) = Err (Misspelt size)
ended_by size s (Twelfth n m) = Err (Misspelt size)

abbrev pub ended_numbers : ℕ → State → Result Operation ReadingRefusal
ended_numbers size s = ended_by size s s.mode

-- ---- bounds

-- A code with the digit 1 there is at least that place's weight.
pub weight-within : (c : ℕ) (l : Letter) → column_of c l ≡ 1 → weight_of l ≤ c
unfolding column_of
weight-within c X h = omega arith
weight-within c Y h = omega arith
weight-within c Z h = omega arith

pub weight-small : (l : Letter) → weight_of l ≤ 9
weight-small X = omega arith
weight-small Y = omega arith
weight-small Z = omega arith

-- A numerator below its denominator is less than twelve twelfths.
pub twelfths-within : (m d : ℕ) → m < d → m * unit_of d < 12
unfolding unit_of
twelfths-within m d h = by (eqb d 2) (eqb d 3) (eqb d 4) (eqb d 6) refl refl refl refl
  where
    by : (a b c e : Bool) → eqb d 2 ≡ a → eqb d 3 ≡ b → eqb d 4 ≡ c → eqb d 6 ≡ e → m * cond a 6 (cond b 4 (cond c 3 (cond e 2 0))) < 12
    by true b c e is k l n = omega (arith, eqb-true d 2 is)
    by false true c e j is l n = omega (arith, eqb-true d 3 is)
    by false false true e j k is n = omega (arith, eqb-true d 4 is)
    by false false false true j k l is = omega (arith, eqb-true d 6 is)
    by false false false false j k l n = omega arith
