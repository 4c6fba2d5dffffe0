-- How a line is read, byte by byte: the finished parts, the terms of the part that is read, and what stands at the end of the bytes read.
-- Any byte that cannot go on there stops the reader.
use Rattle.std.specs.Prelude.{Bool, true, false, cond, ◌&&◌, ◌||◌, List, [], ◌∷◌, ℕ, suc, ◌+◌, ◌-◌, eqb, ltb, length, Err, Ok, Result}
use Rattle.operation.specs.Meaning.{matrix_of}
use Rattle.operation.specs.RotationType.{handedness_of}
use Rattle.operation.specs.declared.Operation as operation
use Rattle.operation.specs.declared.rotation_type.Handedness.{Handedness}
use Rattle.operation.specs.declared.rotation_type.Handedness.TheVariants as handed
use Rattle.operation_line.specs.declared.Letter.{Letter}
use Rattle.operation_line.specs.declared.Letter.TheVariants.{X, Y, Z}
use Rattle.operation_line.specs.declared.reader.Symbol.{Symbol}
use Rattle.operation_line.specs.declared.reader.Symbol.TheVariants.{Space, Sign, Named, Digit, Slash, Comma, Foreign}
use Rattle.operation_line.specs.declared.reader.Mode.{Mode}
use Rattle.operation_line.specs.declared.reader.Mode.TheVariants.{Start, Owed, Told, Numerator, Behind, Twelfth}
use Rattle.operation_line.specs.Spelling.{Body, letter, fraction, Term, signed, used, Line}
use Rattle.operation_line.specs.Denoted.{operation_of_line}
use Rattle.operation_line.specs.declared.ReadingRefusal.TheVariants.{Determinant, Misspelt, TooLong}
use Rattle.operation.specs.declared.Operation.{Operation}
use Rattle.operation_line.specs.declared.ReadingRefusal.{ReadingRefusal}

-- ---- bytes

-- A byte and what it says.
pub record Entry : Type 0 where
  pub byte : ℕ
  pub says : Symbol

infix 70 ◌says◌
abbrev pub ◌says◌ : ℕ → Symbol → Entry
b says a = record { byte = b; says = a }

-- What a byte says by a table, or `other` where the table does not have it.
unfoldable pub symbol_in : Symbol → List Entry → ℕ → Symbol
symbol_in other [] b = other
symbol_in other (e ∷ es) b = cond (eqb b e.byte) e.says (symbol_in other es b)

-- Space, `+`, `-`, `,`, `/`, x, y, z
abbrev pub marks : List Entry
marks =
    32 says Space ∷ 43 says Sign false ∷ 45 says Sign true ∷ 44 says Comma ∷ 47 says Slash
    ∷ 120 says Named X ∷ 121 says Named Y ∷ 122 says Named Z ∷ []

-- A digit, bytes 48 to 57, or nothing that stands in a line.
unfoldable pub digit_or : ℕ → Symbol
digit_or b = cond (ltb b 48) Foreign (cond (ltb 57 b) Foreign (Digit (b - 48)))

unfoldable pub symbol_of : ℕ → Symbol
symbol_of b = symbol_in (digit_or b) marks b

-- ---- one byte

-- The parts that are finished, the last first; the terms of the next, the last first; what stands at the end.
pub record Reading : Type 0 where
  pub done : List (List Term)
  pub terms : List Term
  pub mode : Mode

pub data Reached : Type 0 where
  at : Reading → Reached
  stopped : Reached

-- The same part and terms, with this at the end.
abbrev pub ending : Reading → Mode → Reached
ending s m = at (record { done = s.done; terms = s.terms; mode = m })

-- One term more.
abbrev pub told : Reading → Bool → Body → Reached
told s n b = at (record { done = s.done; terms = signed n b ∷ s.terms; mode = Told })

-- A letter that the part does not have yet.
unfoldable pub with_letter : Reading → Bool → Letter → Reached
with_letter s n l = cond (used (letter l) s.terms) stopped (told s n (letter l))

-- A fraction whose denominator ends here, where the part has none yet.
unfoldable pub with_fraction : Reading → Bool → ℕ → ℕ → Reached
with_fraction s n m d = cond (ltb m d) (told s n (fraction m d)) stopped

-- The first digit of a numerator: 1 to 9, where the part has no fraction yet.
unfoldable pub with_numerator : Reading → Bool → ℕ → Reached
with_numerator s n m = cond (eqb m 0) stopped (cond (used (fraction m 12) s.terms) stopped (ending s (Numerator n m)))

-- Where a term begins, with its sign known.
unfoldable pub begun : Reading → Bool → Symbol → Reached
begun s n Space = at s
begun s n (Sign m) = stopped
begun s n (Named l) = with_letter s n l
begun s n (Digit m) = with_numerator s n m
begun s n Slash = stopped
begun s n Comma = stopped
begun s n Foreign = stopped

-- At the start of a part: a sign, or the first term, whose plus is missing.
unfoldable pub at_start : Reading → Symbol → Reached
at_start s Space = begun s false Space
at_start s (Sign n) = ending s (Owed n)
at_start s (Named l) = begun s false (Named l)
at_start s (Digit m) = begun s false (Digit m)
at_start s Slash = stopped
at_start s Comma = stopped
at_start s Foreign = stopped

-- No term can follow: all three letters are used, and a fraction.
unfoldable pub full : List Term → Bool
full ts = used (letter X) ts && (used (letter Y) ts && (used (letter Z) ts && used (fraction 1 2) ts))

-- The next part, where there is one.
abbrev pub next_part : Reading → Reached
next_part s = at (record { done = s.terms ∷ s.done; terms = []; mode = Start })

unfoldable pub after_term : Reading → Symbol → Reached
after_term s Space = at s
after_term s (Sign n) = cond (full s.terms) stopped (ending s (Owed n))
after_term s (Named l) = stopped
after_term s (Digit m) = stopped
after_term s Slash = stopped
after_term s Comma = cond (ltb (length s.done) 2) (next_part s) stopped
after_term s Foreign = stopped

-- Behind 1 a second digit, 0 or 1; behind any numerator `/`.
unfoldable pub after_numerator : Reading → Bool → ℕ → Symbol → Reached
after_numerator s n m Space = stopped
after_numerator s n m (Sign k) = stopped
after_numerator s n m (Named l) = stopped
after_numerator s n m (Digit d) = cond (eqb m 1 && ltb d 2) (ending s (Numerator n (10 + d))) stopped
after_numerator s n m Slash = ending s (Behind n m)
after_numerator s n m Comma = stopped
after_numerator s n m Foreign = stopped

-- A denominator of one digit.
unfoldable pub one_digit : ℕ → Bool
one_digit d = eqb d 2 || (eqb d 3 || (eqb d 4 || eqb d 6))

-- Behind `/`: 1 may go on as 12, and the other denominators have one digit.
unfoldable pub over_digit : Reading → Bool → ℕ → ℕ → Reached
over_digit s n m d = cond (eqb d 1) (ending s (Twelfth n m)) (cond (one_digit d) (with_fraction s n m d) stopped)

unfoldable pub after_slash : Reading → Bool → ℕ → Symbol → Reached
after_slash s n m Space = stopped
after_slash s n m (Sign k) = stopped
after_slash s n m (Named l) = stopped
after_slash s n m (Digit d) = over_digit s n m d
after_slash s n m Slash = stopped
after_slash s n m Comma = stopped
after_slash s n m Foreign = stopped

unfoldable pub after_one : Reading → Bool → ℕ → Symbol → Reached
after_one s n m Space = stopped
after_one s n m (Sign k) = stopped
after_one s n m (Named l) = stopped
after_one s n m (Digit d) = cond (eqb d 2) (with_fraction s n m 12) stopped
after_one s n m Slash = stopped
after_one s n m Comma = stopped
after_one s n m Foreign = stopped

unfoldable pub step_by : Reading → Mode → Symbol → Reached
step_by s Start b = at_start s b
step_by s (Owed n) b = begun s n b
step_by s Told b = after_term s b
step_by s (Numerator n m) b = after_numerator s n m b
step_by s (Behind n m) b = after_slash s n m b
step_by s (Twelfth n m) b = after_one s n m b

abbrev pub step : Reading → ℕ → Reached
step s b = step_by s s.mode (symbol_of b)

-- ---- all bytes

-- What comes of the next reading.
unfoldable pub onwards : Reached → (Reading → Reached) → Reached
onwards (at s) next = next s
onwards stopped next = stopped

-- Where the reader gets to.
unfoldable pub reach : List ℕ → Reading → Reached
reach [] s = at s
reach (b ∷ bs) s = onwards (step s b) (reach bs)

unfoldable pub passed : Reached → (Reading → ℕ) → ℕ
passed (at s) next = suc (next s)
passed stopped next = 0

-- How many bytes it reads before it stops.
unfoldable pub readable : List ℕ → Reading → ℕ
readable [] s = 0
readable (b ∷ bs) s = passed (step s b) (readable bs)

-- Before the first byte.
abbrev pub begin : Reading
begin = record { done = []; terms = []; mode = Start }

-- ---- the answer

-- An operation's determinant must be 1 or −1.
unfoldable pub turned : operation.Operation → Handedness → Result Operation ReadingRefusal
turned f handed.Proper = Ok f
turned f handed.Improper = Ok f
turned f handed.Neither = Err Determinant

abbrev pub decided : operation.Operation → Result Operation ReadingRefusal
decided f = turned f (handedness_of (matrix_of f.rotation))

abbrev pub line_of : List Term → List Term → List Term → Line
line_of x y z = record { x = x; y = y; z = z }

-- The parts behind the first: the line is whole if this is its third.
unfoldable pub whole_line : ℕ → List (List Term) → List Term → Result Operation ReadingRefusal
whole_line size [] z = Err (Misspelt size)
whole_line size (y ∷ []) z = Err (Misspelt size)
whole_line size (y ∷ (x ∷ [])) z = decided (operation_of_line (line_of x y z))
whole_line size (y ∷ (x ∷ (w ∷ ps))) z = Err (Misspelt size)

-- A line ends behind a term.
unfoldable pub ended : ℕ → Reading → Mode → Result Operation ReadingRefusal
ended size s Start = Err (Misspelt size)
ended size s (Owed n) = Err (Misspelt size)
ended size s Told = whole_line size s.done s.terms
ended size s (Numerator n m) = Err (Misspelt size)
ended size s (Behind n m) = Err (Misspelt size)
ended size s (Twelfth n m) = Err (Misspelt size)

-- 41 is told where the reader stops, or of the text's length if the line breaks off.
unfoldable pub answered : List ℕ → Reached → Result Operation ReadingRefusal
answered text (at s) = ended (length text) s s.mode
answered text stopped = Err (Misspelt (readable text begin))

-- 40, 41, 42, in this order.
unfoldable pub read_line : List ℕ → Result Operation ReadingRefusal
read_line text = cond (ltb 64 (length text)) (Err TooLong) (answered text (reach text begin))
