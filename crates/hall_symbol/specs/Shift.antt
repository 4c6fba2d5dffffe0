-- The shift by R1.6: `(`, three numbers separated by whitespace, `)`, and then only whitespace.
use Rattle.std.specs.Prelude.{◌≡◌, refl, Bool, cond, ◌&&◌, List, [], ◌∷◌, ℕ, suc, ◌-◌, eqb, leb, ltb, length, get_or, take, drop, Option, Some, None}
use Rattle.std.proofs.Common.{arith}
use Rattle.operation.specs.declared.Translation.{Translation}
use Rattle.hall_symbol.specs.Bytes.{whitespace, unclosed}
use Rattle.hall_symbol.specs.Runs.{run}
use Rattle.hall_symbol.specs.Tokens.{first_word, behind_word, word_from}

-- ---- the numbers that a shift may hold: −11 to 11, no `-0`, no leading zero, each modulo 12
-- One digit is the byte 48 to 57.
unfoldable pub one_digit : ℕ → Option ℕ
one_digit b = cond (leb 48 b && leb b 57) (Some (b - 48)) None

-- Two digits are 10 or 11.
unfoldable pub two_digits : ℕ → ℕ → Option ℕ
two_digits a b = cond (eqb a 49 && (leb 48 b && leb b 49)) (Some (b - 38)) None

-- A number is of one digit or of two.
unfoldable pub digits_of : List ℕ → Option ℕ
digits_of w =
    cond (eqb (length w) 1) (one_digit (get_or w 0 0))
    (cond (eqb (length w) 2) (two_digits (get_or w 0 0) (get_or w 1 0)) None)

-- −n is 12 − n after reduction, for n from 1 to 11.
unfoldable pub below_zero : ℕ → Option ℕ
below_zero n = cond (leb 1 n && leb n 11) (Some (12 - n)) None

abbrev pub opposed : Option ℕ → Option ℕ
opposed (Some n) = below_zero n
opposed None = None

-- The byte 45, `-`, may stand directly before the digits.
unfoldable pub shift_number : List ℕ → Option ℕ
shift_number w = cond (eqb (get_or w 0 0) 45) (opposed (digits_of (drop 1 w))) (digits_of w)

-- An empty word is none.
pub no_word : (w : List ℕ) → length w ≡ 0 → None ≡ shift_number w
unfolding shift_number digits_of
no_word [] h = refl
no_word (b ∷ w) h = absurd (omega arith)

-- A number as a word of a longer text, from place p on, and the place behind it.
abbrev pub number_ending : ℕ → Option ℕ → Option (ℕ × ℕ)
number_ending e (Some n) = Some (n, e)
number_ending e None = None

abbrev pub number_from : ℕ → List ℕ → Option (ℕ × ℕ)
number_from p text = number_ending (word_from p text).end (shift_number (first_word (drop p text)))

-- ---- three of them
abbrev pub triple : Option ℕ → Option ℕ → Option ℕ → Option Translation
triple (Some x) (Some y) (Some z) = Some (record { x = x; y = y; z = z })
triple (Some x) (Some y) None = None
triple (Some x) None n = None
triple None m n = None

-- Only whitespace.
abbrev pub blank : List ℕ → Bool
blank s = leb (length s) (run whitespace s)

-- Between the brackets: three numbers separated by whitespace, and whitespace around them.
unfoldable pub numbers_of : List ℕ → Option Translation
numbers_of s =
    cond (blank (behind_word (behind_word (behind_word s))))
    (triple (shift_number (first_word s)) (shift_number (first_word (behind_word s))) (shift_number (first_word (behind_word (behind_word s)))))
    None

-- The text behind `(`: what stands before the first `)`, and only whitespace after it.
unfoldable pub closed_shift : List ℕ → Option Translation
closed_shift s =
    let close = run unclosed s in
    cond (ltb close (length s) && blank (drop (suc close) s)) (numbers_of (take close s)) None

-- The text from `(` on.
abbrev pub shift_of : List ℕ → Option Translation
shift_of s = closed_shift (drop 1 s)

-- No shift is the shift by nothing.
abbrev pub no_shift : Translation
no_shift = record { x = 0; y = 0; z = 0 }
