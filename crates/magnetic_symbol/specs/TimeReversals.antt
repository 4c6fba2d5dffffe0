-- Time reversals by the rules of magnetic symbols, said of the text alone: which N tokens have one, what the text without them is, and the flags of its
-- generators. Nothing here speaks of a reader.
use Rattle.std.specs.Prelude.{◌≡◌, Bool, true, false, cond, not, List, [], ◌∷◌, ◌++◌, ℕ, ◌<◌, eqb, length}
use Rattle.hall_symbol.specs.Bytes.{whitespace, opening}
use Rattle.hall_symbol.specs.Runs.{Every, Stops}
use Rattle.hall_symbol.specs.Cut.{Cut}
use Rattle.hall_symbol.specs.Spelling.{Opens}
use Rattle.hall_symbol.specs.Tokens.{Token, bytes_of}

-- The byte 39, `'`.
unfoldable pub prime : ℕ → Bool
prime b = eqb b 39

-- Any other byte.
abbrev pub unprimed : ℕ → Bool
unprimed b = not (prime b)

-- ---- one N token
-- The token t is u with a time reversal behind it: the only `'` of t is its last byte, and not its only byte.
pub record Reversed (t u : List ℕ) : Type 0 where
  pub text : t ≡ u ++ (39 ∷ [])
  pub some : 0 < length u
  pub only : Every unprimed u

-- The token t is read as u, and its generator has this flag. A `'` that is no time reversal stays, for the reader of plain symbols to refuse.
pub data ReadAs (t : List ℕ) : List ℕ → Bool → Type 0 where
  reversal : (u : List ℕ) → Reversed t u → ReadAs t u true
  same : ((u : List ℕ) → Reversed t u → ⊥) → ReadAs t t false

-- ---- the text
-- A space stands for a time reversal, so that no token changes its place.
abbrev pub gap_of : Bool → List ℕ
gap_of true = 32 ∷ []
gap_of false = []

-- Behind the first token: the text s, the same without time reversals, and the flags of its N tokens. From a token that starts with `(` on nothing changes.
pub data Unreversed : List ℕ → List ℕ → List Bool → Type 0 where
  end : (s : List ℕ) → Every whitespace s → Unreversed s s []
  shift : (s w t after : List ℕ) → Cut s w t after → Opens t → Unreversed s s []
  token : (s w t after u later : List ℕ) (flag : Bool) (flags : List Bool) → Cut s w t after → Stops opening t → ReadAs t u flag → Unreversed after later flags
      → Unreversed s (w ++ (u ++ (gap_of flag ++ later))) (flag ∷ flags)

-- The inversion, which the byte 45, `-`, of the first token adds, has the flag 0.
abbrev pub inversion_flag : List ℕ → List Bool
inversion_flag [] = []
inversion_flag (b ∷ t) = cond (eqb b 45) (false ∷ []) []

-- The whole text, the same without time reversals, and the flags of its generators. The first token stays.
pub data TakenOff (text : List ℕ) : List ℕ → List Bool → Type 0 where
  blank : Every whitespace text → TakenOff text text []
  first : (w t after later : List ℕ) (flags : List Bool) → Cut text w t after → Unreversed after later flags
      → TakenOff text (w ++ (t ++ later)) (inversion_flag t ++ flags)

-- ---- the same of two lists of tokens
-- N tokens and the tokens that they are read as, one by one and at the same places, up to one that starts with `(`.
pub data TokensReadAs : List Token → List Token → List Bool → Type 0 where
  none : TokensReadAs [] [] []
  shift-token : (t : Token) (ts : List Token) → Opens t.rest → TokensReadAs (t ∷ ts) (t ∷ ts) []
  token-read : (t u : Token) (ts us : List Token) (flag : Bool) (flags : List Bool) → u.place ≡ t.place → Stops opening (bytes_of t)
      → ReadAs (bytes_of t) (bytes_of u) flag → TokensReadAs ts us flags → TokensReadAs (t ∷ ts) (u ∷ us) (flag ∷ flags)

-- All tokens of a text, the first as it stands.
pub data TextReadAs : List Token → List Token → List Bool → Type 0 where
  no-token : TextReadAs [] [] []
  first-token : (t u : Token) (ts us : List Token) (flags : List Bool) → u.place ≡ t.place → bytes_of u ≡ bytes_of t → TokensReadAs ts us flags
      → TextReadAs (t ∷ ts) (u ∷ us) (inversion_flag (bytes_of t) ++ flags)
