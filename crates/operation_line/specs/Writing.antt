-- How an operation is written as a line, by R10: in each part the letters ascend, no plus leads, a fraction in lowest terms comes last
-- if the translation is not 0; no spaces.
use Rattle.std.specs.Prelude.{Bool, true, false, cond, List, [], ◌∷◌, ◌++◌, ℕ, zero, suc, ltb, length, get_or, drop, Err, None, Ok, Option, Result, Some}
use Rattle.operation.specs.Answer.{Answer, given, refused, Nothing}
use Rattle.operation.specs.Meaning.{matrix_of}
use Rattle.operation.specs.RotationType.{handedness_of, is_turn}
use Rattle.operation.specs.declared.Operation.{Operation}
use Rattle.five_bytes.specs.FiveBytes.{five_bytes_of}
use Rattle.operation_line.specs.declared.Letter.{Letter}
use Rattle.operation_line.specs.declared.Letter.TheVariants.{X, Y, Z}
use Rattle.operation_line.specs.Spelling.{Body, letter, fraction, Term, signed, body_bytes, Line}
use Rattle.operation_line.specs.declared.WritingRefusal.TheVariants.{Determinant, NoOperation, NoRoom}
use Rattle.operation_line.specs.declared.WritingRefusal.{WritingRefusal}

-- ---- the terms, the last of a part first, as the spelling rules list them

-- The term of an entry, given by its digit: none for 0.
abbrev pub letter_term : Letter → ℕ → List Term
letter_term l zero = signed true (letter l) ∷ []
letter_term l (suc zero) = []
letter_term l (suc (suc d)) = signed false (letter l) ∷ []

-- k twelfths in lowest terms, by k.
abbrev pub numerators : List ℕ
numerators = 0 ∷ 1 ∷ 1 ∷ 1 ∷ 1 ∷ 5 ∷ 1 ∷ 7 ∷ 2 ∷ 3 ∷ 5 ∷ 11 ∷ []

abbrev pub divisors : List ℕ
divisors = 1 ∷ 12 ∷ 6 ∷ 4 ∷ 3 ∷ 12 ∷ 2 ∷ 12 ∷ 3 ∷ 4 ∷ 6 ∷ 12 ∷ []

abbrev pub twelfths : ℕ → Body
twelfths k = fraction (get_or numerators k 0) (get_or divisors k 0)

-- The term of a translation: none for 0.
abbrev pub fraction_term : ℕ → List Term
fraction_term zero = []
fraction_term (suc k) = signed false (twelfths (suc k)) ∷ []

unfoldable pub letters_of : ℕ → ℕ → ℕ → List Term
letters_of a b c = letter_term Z c ++ (letter_term Y b ++ letter_term X a)

-- The terms of a row of digits and its twelfths.
unfoldable pub row_terms : ℕ → ℕ → ℕ → ℕ → List Term
row_terms a b c k = fraction_term k ++ letters_of a b c

unfoldable pub line_of : Operation → Line
line_of f =
    let r = f.rotation in
    let t = f.translation in
    record {
      x = row_terms r.xx r.xy r.xz t.x;
      y = row_terms r.yx r.yy r.yz t.y;
      z = row_terms r.zx r.zy r.zz t.z;
    }

-- ---- their text

-- A part's first plus is not written.
abbrev pub sign_bytes : Bool → Bool → List ℕ
sign_bytes first true = 45 ∷ []
sign_bytes true false = []
sign_bytes false false = 43 ∷ []

abbrev pub is_empty : List Term → Bool
is_empty [] = true
is_empty (t ∷ ts) = false

-- Terms one behind the other, each with its sign.
unfoldable pub plain_bytes : List Term → List ℕ
plain_bytes [] = []
plain_bytes (t ∷ ts) = plain_bytes ts ++ (sign_bytes (is_empty ts) t.negative ++ body_bytes t.body)

unfoldable pub plain_line : Line → List ℕ
plain_line l = plain_bytes l.x ++ (44 ∷ (plain_bytes l.y ++ (44 ∷ plain_bytes l.z)))

unfoldable pub written_line : Operation → List ℕ
written_line f = plain_line (line_of f)

-- ---- the answer, and the lent buffer

-- Number, place and value of each case.
abbrev pub written_answer : Result ℕ WritingRefusal → Answer ℕ Nothing
written_answer (Ok n) = given n
written_answer (Err NoOperation) = refused 34 0 tt
written_answer (Err Determinant) = refused 42 0 tt
written_answer (Err NoRoom) = refused 20 0 tt

-- A line that fits is written at the start; what stands behind it stays, and so does all if it does not fit.
abbrev pub fitted_answer : List ℕ → ℕ → Result ℕ WritingRefusal
fitted_answer line room = cond (ltb room (length line)) (Err NoRoom) (Ok (length line))

abbrev pub fitted : List ℕ → List ℕ → List ℕ
fitted line out = cond (ltb (length out) (length line)) out (line ++ drop (length line) out)

unfoldable pub writable : Operation → Bool
writable f = is_turn (handedness_of (matrix_of f.rotation))

-- 34, then 42, then 20.
abbrev pub written_by : Option Operation → ℕ → Result ℕ WritingRefusal
written_by (Some f) room = cond (writable f) (fitted_answer (written_line f) room) (Err Determinant)
written_by None room = Err NoOperation

abbrev pub buffer_by : Option Operation → List ℕ → List ℕ
buffer_by (Some f) out = cond (writable f) (fitted (written_line f) out) out
buffer_by None out = out

unfoldable pub write_of : List ℕ → ℕ → Result ℕ WritingRefusal
write_of bytes room = written_by (five_bytes_of bytes) room

unfoldable pub buffer_of : List ℕ → List ℕ → List ℕ
buffer_of bytes out = buffer_by (five_bytes_of bytes) out
