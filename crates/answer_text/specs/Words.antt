-- How numbers, words and lines are written, in the bytes of the example of R9.
use Rattle.std.specs.Prelude.{◌≡◌, refl, Bool, true, false, cond, List, [], ◌∷◌, ◌++◌, ℕ, zero, suc, ◌+◌, ◌/◌, ◌%◌, ◌<◌, ◌≤◌, ltb, ℤ, pos, negsuc, length}
use Rattle.std.proofs.Common.{sym, ◌∙◌, ap, arith, lt-ltb, le-ltb, ltb-true, ltb-false}
use Rattle.std.proofs.Math.IntN.{one}
use Rattle.operation.specs.Meaning.{entry_of}

-- The byte between words.
abbrev pub space : ℕ
space = 32

-- The byte behind a line.
abbrev pub newline : ℕ
newline = 10

-- The byte of a decimal digit: `0` is 48.
abbrev pub digit_byte : ℕ → ℕ
digit_byte d = 48 + d

-- A number below ten is its digit; a larger one is the number of its tens, and its last digit behind that. No number has more digits than itself.
unfoldable pub decimal_within : ℕ → ℕ → List ℕ
decimal_within zero n = digit_byte n ∷ []
decimal_within (suc more) n =
    cond (ltb n 10) (digit_byte n ∷ []) (decimal_within more (n / 10) ++ (digit_byte (n % 10) ∷ []))

-- The digits of a number.
unfoldable pub decimal : ℕ → List ℕ
decimal n = decimal_within n n

-- A negative number has the byte 45, `-`, before it.
unfoldable pub signed : ℤ → List ℕ
signed (pos n) = decimal n
signed (negsuc n) = 45 ∷ decimal (suc n)

-- Words separated by single spaces, and the line's end.
unfoldable pub line_of : List (List ℕ) → List ℕ
line_of [] = newline ∷ []
line_of (w ∷ []) = w ++ (newline ∷ [])
line_of (w ∷ v ∷ words) = w ++ (space ∷ line_of (v ∷ words))

-- ---- the rule of decimal numbers, and numbers of one and of two digits
-- A number below ten is its digit,
within-ten : (more n : ℕ) → n < 10 → decimal_within more n ≡ digit_byte n ∷ []
unfolding decimal_within
within-ten zero n h = refl
within-ten (suc more) n h = rw (lt-ltb n 10 h)

-- and a larger one its tens and its last digit.
within-tens : (more n : ℕ) → 10 ≤ n → decimal_within (suc more) n ≡ decimal_within more (n / 10) ++ (digit_byte (n % 10) ∷ [])
unfolding decimal_within
within-tens more n h = rw (le-ltb n 10 h)

-- With enough room for its digits it does not matter how much.
within-enough : (more most n : ℕ) → n ≤ more → n ≤ most → decimal_within more n ≡ decimal_within most n
unfolding decimal_within
within-enough zero most n h k = sym (within-ten most n (omega arith))
within-enough (suc more) zero n h k = within-ten (suc more) n (omega arith)
within-enough (suc more) (suc most) n h k = by_size (ltb n 10) refl (λ large. within-enough more most (n / 10) (omega arith) (omega arith))
  where
    by_size : (b : Bool) → ltb n 10 ≡ b → (10 ≤ n → decimal_within more (n / 10) ≡ decimal_within most (n / 10)) → decimal_within (suc more) n
        ≡ decimal_within (suc most) n
    by_size true e tens = within-ten (suc more) n (ltb-true n 10 e) ∙ sym (within-ten (suc most) n (ltb-true n 10 e))
    by_size false e tens = within-tens more n (ltb-false n 10 e) ∙ ap (λ (w : List ℕ). w ++ (digit_byte (n % 10) ∷ [])) (tens (ltb-false n 10 e))
        ∙ sym (within-tens most n (ltb-false n 10 e))

-- From ten on: the number of tens, and the last digit behind it.
pub tens-and-digit : (n : ℕ) → 10 ≤ n → decimal n ≡ decimal (n / 10) ++ (digit_byte (n % 10) ∷ [])
unfolding decimal
tens-and-digit zero h = absurd (omega arith)
tens-and-digit (suc n) h =
    within-tens n (suc n) h ∙ ap (λ (w : List ℕ). w ++ (digit_byte (suc n % 10) ∷ [])) (within-enough n (suc n / 10) (suc n / 10) (omega arith) (omega arith))

-- Below ten: the digit.
pub one-digit : (n : ℕ) → n < 10 → decimal n ≡ digit_byte n ∷ []
unfolding decimal
one-digit n h = within-ten n n h

-- Below a hundred: two digits.
pub two_digits : (n : ℕ) → 10 ≤ n → n < 100 → decimal n ≡ digit_byte (n / 10) ∷ digit_byte (n % 10) ∷ []
two_digits n h k = tens-and-digit n h ∙ ap (λ (w : List ℕ). w ++ (digit_byte (n % 10) ∷ [])) (one-digit (n / 10) (omega arith))

-- They take that many bytes.
pub number_short : (n : ℕ) → n < 100 → length (decimal n) ≤ 2
number_short n h = by_size (ltb n 10) refl
  where
    by_size : (b : Bool) → ltb n 10 ≡ b → length (decimal n) ≤ 2
    by_size true e = rw (one-digit n (ltb-true n 10 e)) (omega arith)
    by_size false e = rw (two_digits n (ltb-false n 10 e) h) (omega arith)

-- ---- entries, by their digits
-- −1 is written with its sign,
pub entry-negative : signed (entry_of 0) ≡ 45 ∷ 49 ∷ []
unfolding signed entry_of one decimal decimal_within
entry-negative = refl

-- 0 and 1 as they are.
pub entry-plain : (d : ℕ) → ¬ (d ≡ 0) → d ≤ 2 → signed (entry_of d) ≡ (47 + d) ∷ []
unfolding signed entry_of one decimal decimal_within
entry-plain zero n h = absurd (n refl)
entry-plain (suc zero) n h = refl
entry-plain (suc (suc zero)) n h = refl
entry-plain (suc (suc (suc d))) n h = absurd (omega arith)

-- An entry takes two bytes at most.
pub entry-short : (d : ℕ) → d ≤ 2 → length (signed (entry_of d)) ≤ 2
unfolding signed entry_of one decimal decimal_within
entry-short zero h = omega arith
entry-short (suc zero) h = omega arith
entry-short (suc (suc zero)) h = omega arith
entry-short (suc (suc (suc d))) h = absurd (omega arith)
