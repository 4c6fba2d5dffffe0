-- Tokens by R1.2: the longest runs of bytes between whitespace, each with its place.
use Rattle.std.specs.Prelude.{Bool, true, cond, ◌&&◌, List, [], ◌∷◌, ℕ, suc, ◌+◌, take, drop}
use Rattle.hall_symbol.specs.Bytes.{whitespace, solid}
use Rattle.hall_symbol.specs.Runs.{run}
use Rattle.hall_symbol.specs.declared.bytes.Word.{Word}

-- A token: its place, and the text from its first byte on.
pub record Token : Type 0 where
  pub place : ℕ
  pub rest : List ℕ

-- The token at place p of which s is the text from there on.
abbrev pub token_at : ℕ → List ℕ → Token
token_at p s = record { place = p; rest = s }

-- A token's own bytes reach to the next whitespace.
abbrev pub word : List ℕ → List ℕ
word s = take (run solid s) s

-- The bytes that are handed on.
abbrev pub bytes_of : Token → List ℕ
bytes_of t = word t.rest

-- The tokens of a text from place p on. A token starts at a byte that is no whitespace if the byte before it is whitespace or there is none; `free` says so.
unfoldable pub tokens_from : ℕ → Bool → List ℕ → List Token
tokens_from p free [] = []
tokens_from p free (b ∷ s) =
    let later = tokens_from (suc p) (whitespace b) s in
    cond (free && solid b) (token_at p (b ∷ s) ∷ later) later

-- The tokens of a whole text.
abbrev pub tokens : List ℕ → List Token
tokens = tokens_from 0 true

-- The text from its first token on, and the text behind that token.
abbrev pub trimmed : List ℕ → List ℕ
trimmed s = drop (run whitespace s) s

-- The first token's own bytes.
abbrev pub first_word : List ℕ → List ℕ
first_word s = word (trimmed s)

-- The text behind it.
abbrev pub behind_word : List ℕ → List ℕ
behind_word s = drop (run solid (trimmed s)) (trimmed s)

-- Where the first word from place p on starts and ends.
abbrev pub word_from : ℕ → List ℕ → Word
word_from p text =
    let start = p + run whitespace (drop p text) in
    record { start = start; end = start + run solid (drop start text) }
