-- The bytes of a symbol by R1 and refusal 2: which separate tokens, and which may stand there at all.
use Rattle.std.specs.Prelude.{Bool, not, ◌&&◌, ◌||◌, ℕ, eqb, leb}

-- Tokens are separated by bytes 9 to 13 and 32.
unfoldable pub whitespace : ℕ → Bool
whitespace b = (leb 9 b && leb b 13) || eqb b 32

-- Any other byte belongs to a token.
unfoldable pub solid : ℕ → Bool
solid b = not (whitespace b)

-- A byte may be 9 to 13 or 32 to 126.
unfoldable pub allowed : ℕ → Bool
allowed b = (leb 9 b && leb b 13) || (leb 32 b && leb b 126)

-- A shift is closed by the byte 41, `)`.
unfoldable pub unclosed : ℕ → Bool
unclosed b = not (eqb b 41)

-- A shift is opened by the byte 40, `(`.
unfoldable pub opening : ℕ → Bool
opening b = eqb b 40
