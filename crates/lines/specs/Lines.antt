-- The lines of a text, by R9.1: byte 10 ends a line, and a last line without it counts unless it holds no byte.
use Rattle.std.proofs.Common.{arith, ◌∙◌, ap, append-nil, append_assoc, eqb-true}
use Rattle.std.specs.Prelude.{length, ◌≡◌, refl, Bool, true, false, cond, List, [], ◌∷◌, ◌++◌, ℕ, ◌≤◌, eqb}

-- A last line that byte 10 does not end counts unless it holds no byte.
unfoldable pub last_line : List ℕ → List (List ℕ)
last_line [] = []
last_line (b ∷ line) = (b ∷ line) ∷ []

-- Byte 10 ends a line. `line` holds the bytes since the last end.
unfoldable pub lines_from : List ℕ → List ℕ → List (List ℕ)
lines_from line [] = last_line line
lines_from line (b ∷ text) = cond (eqb b 10) (line ∷ lines_from [] text) (lines_from (line ++ (b ∷ [])) text)

-- The lines of a whole text.
abbrev pub lines_of : List ℕ → List (List ℕ)
lines_of text = lines_from [] text

-- Texts, one behind the other.
unfoldable pub in_a_row : List (List ℕ) → List ℕ
in_a_row [] = []
in_a_row (text ∷ texts) = text ++ in_a_row texts

-- ---- said of the text alone
-- No byte of a line is 10.
abbrev pub Unended : List ℕ → Type 0
Unended [] = Unit {0}
Unended (b ∷ line) = (eqb b 10 ≡ false) × Unended line

-- The text is its lines, each with byte 10 behind it, but for a last one that holds a byte.
pub data Spelled : List ℕ → List (List ℕ) → Type 0 where
  none : Spelled [] []
  last : (b : ℕ) (line : List ℕ) → Unended (b ∷ line) → Spelled (b ∷ line) ((b ∷ line) ∷ [])
  next : {text : List ℕ} {lines : List (List ℕ)} (line : List ℕ) → Unended line → Spelled text lines → Spelled (line ++ (10 ∷ text)) (line ∷ lines)

-- A byte that is not 10 ends no line.
unended-next : (line : List ℕ) (b : ℕ) → Unended line → eqb b 10 ≡ false → Unended (line ++ (b ∷ []))
unended-next [] b u e = (e, tt)
unended-next (a ∷ line) b u e = (u.0, unended-next line b u.1 e)

-- The last line.
last-spelled : (line : List ℕ) → Unended line → Spelled line (last_line line)
unfolding last_line
last-spelled [] u = none
last-spelled (b ∷ line) u = last b line u

-- From any point of a line on.
from-spelled : (line text : List ℕ) → Unended line → Spelled (line ++ text) (lines_from line text)
unfolding lines_from
from-spelled line [] u = rw (append-nil line) (last-spelled line u)
from-spelled line (b ∷ text) u = by_byte (eqb b 10) refl (from-spelled [] text tt) (λ e. from-spelled (line ++ (b ∷ [])) text (unended-next line b u e))
  where
    by_byte : (t : Bool) → eqb b 10 ≡ t → Spelled text (lines_from [] text)
        → (eqb b 10 ≡ false → Spelled ((line ++ (b ∷ [])) ++ text) (lines_from (line ++ (b ∷ [])) text))
        → Spelled (line ++ (b ∷ text)) (lines_from line (b ∷ text))
    by_byte true e ended joined = let ten = eqb-true b 10 e in rw (e, ten) (next line u ended)
    by_byte false e ended joined = rw (e, ← append_assoc line (b ∷ []) text) (joined e)

-- Every text is spelled by its lines,
pub lines-spelled : (text : List ℕ) → Spelled text (lines_of text)
lines-spelled text = from-spelled [] text tt

-- A line with no end behind it.
unended-from : (before line : List ℕ) → Unended line → lines_from before line ≡ last_line (before ++ line)
unfolding lines_from
unended-from before [] u = rw (append-nil before)
unended-from before (b ∷ line) u = rw u.0 (unended-from (before ++ (b ∷ [])) line u.1 ∙ ap last_line (append_assoc before (b ∷ []) line))

-- A line with byte 10 behind it.
ended-from : (before line text : List ℕ) → Unended line → lines_from before (line ++ (10 ∷ text)) ≡ (before ++ line) ∷ lines_from [] text
unfolding lines_from
ended-from before [] text u = rw (append-nil before)
ended-from before (b ∷ line) text u =
    rw u.0 (ended-from (before ++ (b ∷ [])) line text u.1 ∙ ap (λ (l : List ℕ). l ∷ lines_from [] text) (append_assoc before (b ∷ []) line))

-- and by no others.
pub spelled-lines : {text : List ℕ} {lines : List (List ℕ)} → Spelled text lines → lines_of text ≡ lines
unfolding lines_from last_line
spelled-lines none = refl
spelled-lines (last b line u) = unended-from [] (b ∷ line) u
spelled-lines (next {text} {lines} line u rest) = ended-from [] line text u ∙ ap (λ (l : List (List ℕ)). line ∷ l) (spelled-lines rest)

-- A text's last line is one line or none.
pub last-once : (line : List ℕ) → length (last_line line) ≤ 1
unfolding last_line
last-once [] = omega arith
last-once (b ∷ line) = omega arith
