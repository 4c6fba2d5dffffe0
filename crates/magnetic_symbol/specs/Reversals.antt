-- The copy of a text in which each time reversal is a space, byte by byte, and the flags that the tokens give. What this says of tokens, in the words of
-- the rule, is `blanked-tokens`.
use Rattle.std.specs.Prelude.{Bool, true, false, cond, ◌&&◌, ◌||◌, List, [], ◌∷◌, ℕ, ◌+◌, eqb, leb, set, replicate}
use Rattle.hall_symbol.specs.Bytes.{whitespace, opening}
use Rattle.magnetic_symbol.specs.TimeReversals.{prime}
use Rattle.magnetic_symbol.specs.declared.reversals.Mode.{Mode}
use Rattle.magnetic_symbol.specs.declared.reversals.Mode.TheVariants.{Before, First, Between, Unmarked, Marked, Rest}
use Rattle.magnetic_symbol.specs.declared.reversals.Flags.{Flags}

-- Behind a byte of an N token with no `'` to its left.
abbrev pub marked : ℕ → Mode
marked b = cond (prime b) Marked Unmarked

-- Behind a token's first byte: from a token that starts with `(` on nothing is a time reversal.
abbrev pub starting : ℕ → Mode
starting b = cond (opening b) Rest (marked b)

-- Whitespace ends a token.
abbrev pub within : ℕ → Mode → Mode
within b m = cond (whitespace b) Between m

-- Where the byte behind a byte stands.
abbrev pub after : Mode → ℕ → Mode
after Before b = cond (whitespace b) Before First
after First b = within b First
after Between b = within b (starting b)
after Unmarked b = within b (marked b)
after Marked b = within b Marked
after Rest b = Rest

-- No token goes on.
abbrev pub ends : List ℕ → Bool
ends [] = true
ends (b ∷ s) = whitespace b

-- A time reversal: the last byte of an N token is `'`, behind other bytes and no other `'`.
abbrev pub reverses : Mode → ℕ → Bool → Bool
reverses Before b last = false
reverses First b last = false
reverses Between b last = false
reverses Unmarked b last = prime b && last
reverses Marked b last = false
reverses Rest b last = false

-- In an N token.
abbrev pub in_token : Mode → Bool
in_token Before = false
in_token First = false
in_token Between = false
in_token Unmarked = true
in_token Marked = true
in_token Rest = false

-- The `-` of the first token, which gives the inversion.
abbrev pub leads : Mode → ℕ → Bool
leads Before b = eqb b 45
leads First b = false
leads Between b = false
leads Unmarked b = false
leads Marked b = false
leads Rest b = false

-- The inversion has a flag, and each N token.
abbrev pub gives : Mode → ℕ → Bool → Bool
gives m b last = leads m b || (last && in_token (after m b))

-- A time reversal is the byte 32, a space, in the copy.
abbrev pub copied_byte : ℕ → Bool → ℕ
copied_byte b reversed = cond reversed 32 b

-- The copy of a text from a byte on.
unfoldable pub blanked_from : Mode → List ℕ → List ℕ
blanked_from m [] = []
blanked_from m (b ∷ s) = copied_byte b (reverses m b (ends s)) ∷ blanked_from (after m b) s

-- The flags that the text from a byte on gives.
unfoldable pub flags_from : Mode → List ℕ → List Bool
flags_from m [] = []
flags_from m (b ∷ s) =
    let later = flags_from (after m b) s in
    cond (gives m b (ends s)) (reverses m b (ends s) ∷ later) later

-- The copy of a whole text.
abbrev pub blanked : List ℕ → List ℕ
blanked = blanked_from Before

-- Its flags: false for the inversion, and then those of its N tokens.
abbrev pub flags_of : List ℕ → List Bool
flags_of = flags_from Before

-- ---- nine slots
-- A flag noted if it is given, and if there is room.
abbrev pub noted : Flags → Bool → Bool → Flags
noted l given f =
    cond given (cond (leb 9 l.count) l (record { count = l.count + 1; flags = set l.flags l.count f })) l

-- Flags noted one after the other.
abbrev pub noted_all : Flags → List Bool → List Bool
noted_all l [] = l.flags
noted_all l (f ∷ fs) = noted_all (noted l true f) fs

-- None yet.
abbrev pub no_flags : Flags
no_flags = record { count = 0; flags = replicate 9 false }

abbrev pub flag_slots : List ℕ → List Bool
flag_slots text = noted_all no_flags (flags_of text)
