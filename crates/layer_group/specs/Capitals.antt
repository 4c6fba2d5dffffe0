-- The text with its capital letter: p or c of the first token is P or C, and the first byte of any other first token is `?` if it may stand in a text.
use Rattle.std.specs.Prelude.{Bool, true, false, cond, ◌&&◌, ◌||◌, List, [], ◌∷◌, ℕ, ◌-◌, eqb}
use Rattle.hall_symbol.specs.Bytes.{whitespace, allowed}

-- The bytes 112, `p`, and 99, `c`.
unfoldable pub is_small : ℕ → Bool
is_small b = eqb b 112 || eqb b 99

-- A token ends where the text ends, or before whitespace.
abbrev pub ends_here : List ℕ → Bool
ends_here [] = true
ends_here (b ∷ s) = whitespace b

-- The text goes on with p or c, which ends its token.
abbrev pub letter_here : List ℕ → Bool
letter_here [] = false
letter_here (b ∷ s) = is_small b && ends_here s

-- The byte 63, `?`, for a byte that may stand in a text.
unfoldable pub marked : ℕ → ℕ
marked b = cond (allowed b) 63 b

-- The capital letter is 32 before the small one.
abbrev pub capital : List ℕ → List ℕ
capital [] = []
capital (b ∷ s) = (b - 32) ∷ s

-- From the first token on: the letter alone, or behind the byte 45, `-`; or any other token.
unfoldable pub from_token : List ℕ → List ℕ
from_token [] = []
from_token (b ∷ s) = cond (letter_here (b ∷ s)) (capital (b ∷ s)) (cond (eqb b 45 && letter_here s) (b ∷ capital s) (marked b ∷ s))

-- The whole text: whitespace before the first token stays.
unfoldable pub capitalised : List ℕ → List ℕ
capitalised [] = []
capitalised (b ∷ s) = cond (whitespace b) (b ∷ capitalised s) (from_token (b ∷ s))
