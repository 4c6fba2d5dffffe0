-- Bytes fed one by one, of which the first 80 of a line are kept: the lines that are handed over are those of the text, however it is cut into pieces.
use Rattle.std.specs.Prelude.{◌≡◌, refl, Bool, true, false, cond, List, [], ◌∷◌, ◌++◌, map, ℕ, suc, ◌≤◌, ◌<◌, eqb, leb, length, take}
use Rattle.std.proofs.Common.{sym, ◌∙◌, ap, ap₂, append_assoc, arith, length-append, take_all, take-take, length-take-le, leb-true, leb-false, le-leb}
use Rattle.std.proofs.lemmas.List.{take-append-le}
use Rattle.std.proofs.lemmas.Bool.{lt-leb}
use Rattle.lines.specs.Lines.{last_line, lines_from, lines_of, in_a_row}

-- How many bytes of a line are kept: as many as a symbol may have.
abbrev pub most : ℕ
most = 80

-- A line as it is handed over: a longer one by its first 80 bytes, and one byte 0 in place of the others, so that its length still tells.
unfoldable pub shortened : List ℕ → List ℕ
shortened line = cond (leb (length line) most) line (take most line ++ (0 ∷ []))

-- A byte joins the line.
unfoldable pub joined : List ℕ → ℕ → List ℕ
joined kept b = shortened (kept ++ (b ∷ []))

-- What is kept after a byte: byte 10 ends the line, and nothing of it is kept.
unfoldable pub kept_after : List ℕ → ℕ → List ℕ
kept_after kept b = cond (eqb b 10) [] (joined kept b)

-- What is kept after bytes.
unfoldable pub kept_behind : List ℕ → List ℕ → List ℕ
kept_behind kept [] = kept
kept_behind kept (b ∷ bytes) = kept_behind (kept_after kept b) bytes

-- The lines that are handed over on the way: at each byte 10, what is kept.
unfoldable pub handed_over : List ℕ → List ℕ → List (List ℕ)
handed_over kept [] = []
handed_over kept (b ∷ bytes) = let more = handed_over (kept_after kept b) bytes in cond (eqb b 10) (kept ∷ more) more

-- All that is handed over for bytes and their end: at the end, a last line that holds a byte.
unfoldable pub all_handed_over : List ℕ → List ℕ → List (List ℕ)
all_handed_over kept text = handed_over kept text ++ last_line (kept_behind kept text)

-- The same for a text that comes in pieces: what is handed over on each, and the last line behind them.
unfoldable pub over_pieces : List ℕ → List (List ℕ) → List (List ℕ)
over_pieces kept [] = last_line kept
over_pieces kept (piece ∷ pieces) = handed_over kept piece ++ over_pieces (kept_behind kept piece) pieces

-- How many bytes of a piece are taken at a time: those up to its first byte 10, with it, or all.
unfoldable pub taken_of : List ℕ → ℕ
taken_of [] = 0
taken_of (b ∷ piece) = cond (eqb b 10) 1 (suc (taken_of piece))

-- ---- shortened lines
-- Up to 80 bytes a line is handed over whole,
pub short-whole : (line : List ℕ) → length line ≤ most → shortened line ≡ line
unfolding shortened
short-whole line h = rw (le-leb (length line) most h)

-- and a longer one is not.
pub long-shortened : (line : List ℕ) → most < length line → shortened line ≡ take most line ++ (0 ∷ [])
unfolding shortened
long-shortened line h = rw (lt-leb (length line) most h)

-- There are 81 bytes of a longer one.
pub long-length : (line : List ℕ) → most < length line → length (take most line ++ (0 ∷ [])) ≡ 81
long-length line h = length-append (take most line) (0 ∷ []) ∙ omega (arith, length-take-le most line (omega arith))

-- So no more than 81 of any,
pub shortened-length : (line : List ℕ) → length (shortened line) ≤ 81
shortened-length line = by_length (leb (length line) most) refl
  where
    by_length : (t : Bool) → leb (length line) most ≡ t → length (shortened line) ≤ 81
    by_length true e = let short = leb-true (length line) most e in rw (short-whole line short) (omega arith)
    by_length false e = let long = leb-false (length line) most e in rw (long-shortened line long) (omega (arith, long-length line long))

-- and shortening again changes nothing.
pub shortened-again : (line : List ℕ) → shortened (shortened line) ≡ shortened line
shortened-again line = by_length (leb (length line) most) refl
  where
    by_length : (t : Bool) → leb (length line) most ≡ t → shortened (shortened line) ≡ shortened line
    by_length true e = ap shortened (short-whole line (leb-true (length line) most e))
    by_length false e =
        let long = leb-false (length line) most e in
        let whole = length-take-le most line (omega arith) in
        let front = take most line in
        ap shortened (long-shortened line long)
        ∙ long-shortened (front ++ (0 ∷ [])) (omega (arith, long-length line long))
        ∙ ap (λ (l : List ℕ). l ++ (0 ∷ [])) (take-append-le most front (0 ∷ []) (omega arith) ∙ take_all most front (omega arith))
        ∙ sym (long-shortened line long)

-- ---- parts of a text, fed one behind the other
-- What is kept behind two parts.
pub kept-parts : (kept part rest : List ℕ) → kept_behind (kept_behind kept part) rest ≡ kept_behind kept (part ++ rest)
unfolding kept_behind
kept-parts kept [] rest = refl
kept-parts kept (b ∷ part) rest = kept-parts (kept_after kept b) part rest

-- What is handed over on two parts.
pub handed-parts : (kept part rest : List ℕ) → handed_over kept part ++ handed_over (kept_behind kept part) rest ≡ handed_over kept (part ++ rest)
unfolding kept_behind handed_over
handed-parts kept [] rest = refl
handed-parts kept (b ∷ part) rest = by_byte (eqb b 10) refl (handed-parts (kept_after kept b) part rest)
  where
    by_byte : (t : Bool) → eqb b 10 ≡ t
        → handed_over (kept_after kept b) part ++ handed_over (kept_behind (kept_after kept b) part) rest ≡ handed_over (kept_after kept b) (part ++ rest)
        → handed_over kept (b ∷ part) ++ handed_over (kept_behind kept (b ∷ part)) rest ≡ handed_over kept ((b ∷ part) ++ rest)
    by_byte true e more = rw e (ap (λ (l : List (List ℕ)). kept ∷ l) more)
    by_byte false e more = rw e more

-- All that is handed over on a part and on what comes behind it.
pub all-parts : (kept part rest : List ℕ) → handed_over kept part ++ all_handed_over (kept_behind kept part) rest ≡ all_handed_over kept (part ++ rest)
unfolding all_handed_over
all-parts kept part rest =
    let behind = kept_behind kept part in
    sym (append_assoc (handed_over kept part) (handed_over behind rest) (last_line (kept_behind behind rest)))
    ∙ ap₂ (λ (l : List (List ℕ)) (last : List ℕ). l ++ last_line last) (handed-parts kept part rest) (kept-parts kept part rest)

-- ---- the lines handed over are those of the text
-- Shortening a line and then joining a byte is joining it and shortening.
joined-first : (line : List ℕ) (b : ℕ) → joined (shortened line) b ≡ shortened (line ++ (b ∷ []))
unfolding joined
joined-first line b = by_length (leb (length line) most) refl
  where
    by_length : (t : Bool) → leb (length line) most ≡ t → shortened (shortened line ++ (b ∷ [])) ≡ shortened (line ++ (b ∷ []))
    by_length true e = ap (λ (l : List ℕ). shortened (l ++ (b ∷ []))) (short-whole line (leb-true (length line) most e))
    by_length false e =
        let long = leb-false (length line) most e in
        let front = take most line in
        let whole = length-take-le most line (omega arith) in
        let kept = front ++ (0 ∷ []) in
        ap (λ (l : List ℕ). shortened (l ++ (b ∷ []))) (long-shortened line long)
        ∙ long-shortened (kept ++ (b ∷ [])) (omega (arith, length-append kept (b ∷ []), long-length line long))
        ∙ ap (λ (l : List ℕ). l ++ (0 ∷ []))
        (ap (take most) (append_assoc front (0 ∷ []) (b ∷ [])) ∙ take-append-le most front (0 ∷ b ∷ []) (omega arith) ∙ take-take most most line (omega arith)
        ∙ sym (take-append-le most line (b ∷ []) (omega arith)))
        ∙ sym (long-shortened (line ++ (b ∷ [])) (omega (arith, length-append line (b ∷ []))))

-- A last line counts or not, whether it is shortened or not.
last_none : last_line (shortened []) ≡ map shortened (last_line [])
unfolding last_line shortened
last_none = refl

last-first : (line : List ℕ) → last_line (shortened line) ≡ map shortened (last_line line)
unfolding last_line
last-first [] = last_none
last-first (b ∷ line) = by_length (leb (length (b ∷ line)) most) refl
  where
    by_length : (t : Bool) → leb (length (b ∷ line)) most ≡ t → last_line (shortened (b ∷ line)) ≡ map shortened (last_line (b ∷ line))
    by_length true e = rw (short-whole (b ∷ line) (leb-true (length (b ∷ line)) most e)) refl
    by_length false e = rw (long-shortened (b ∷ line) (leb-false (length (b ∷ line)) most e)) refl

-- From any point of a line on.
pub from-lines : (line text : List ℕ) → all_handed_over (shortened line) text ≡ map shortened (lines_from line text)
unfolding all_handed_over handed_over kept_behind kept_after lines_from shortened
from-lines line [] = last-first line
from-lines line (b ∷ text) = by_byte (eqb b 10) refl (from-lines [] text) (from-lines (line ++ (b ∷ [])) text)
  where
    by_byte : (t : Bool) → eqb b 10 ≡ t → all_handed_over (shortened []) text ≡ map shortened (lines_from [] text)
        → all_handed_over (shortened (line ++ (b ∷ []))) text ≡ map shortened (lines_from (line ++ (b ∷ [])) text)
        → all_handed_over (shortened line) (b ∷ text) ≡ map shortened (lines_from line (b ∷ text))
    by_byte true e ended longer = rw e (ap (λ (l : List (List ℕ)). shortened line ∷ l) ended)
    by_byte false e ended longer = rw (e, joined-first line b) longer

-- What is handed over are the lines of the text, each shortened.
pub handed-lines : (text : List ℕ) → all_handed_over [] text ≡ map shortened (lines_of text)
unfolding shortened
handed-lines text = from-lines [] text

none_over : (kept : List ℕ) → last_line kept ≡ all_handed_over kept []
unfolding all_handed_over handed_over kept_behind
none_over kept = refl

-- From any point of a line on.
from_pieces : (kept : List ℕ) (pieces : List (List ℕ)) → over_pieces kept pieces ≡ all_handed_over kept (in_a_row pieces)
unfolding over_pieces in_a_row
from_pieces kept [] = none_over kept
from_pieces kept (piece ∷ pieces) =
    ap (λ (l : List (List ℕ)). handed_over kept piece ++ l) (from_pieces (kept_behind kept piece) pieces) ∙ all-parts kept piece (in_a_row pieces)

-- However a text is cut into pieces, what is handed over are its lines.
pub pieces-lines : (pieces : List (List ℕ)) → over_pieces [] pieces ≡ map shortened (lines_of (in_a_row pieces))
pieces-lines pieces = from_pieces [] pieces ∙ handed-lines (in_a_row pieces)

-- ---- what is taken of a piece
-- No more than there is,
pub taken-within : (piece : List ℕ) → taken_of piece ≤ length piece
unfolding taken_of
taken-within [] = omega arith
taken-within (b ∷ piece) = by_byte (eqb b 10) refl (taken-within piece)
  where
    by_byte : (t : Bool) → eqb b 10 ≡ t → taken_of piece ≤ length piece → taken_of (b ∷ piece) ≤ length (b ∷ piece)
    by_byte true e more = rw e (omega arith)
    by_byte false e more = rw e (omega arith)

-- and some of what there is: so a piece is taken whole in the end.
pub taken-some : (piece : List ℕ) → 0 < length piece → 0 < taken_of piece
unfolding taken_of
taken-some [] h = h
taken-some (b ∷ piece) h = by_byte (eqb b 10) refl
  where
    by_byte : (t : Bool) → eqb b 10 ≡ t → 0 < taken_of (b ∷ piece)
    by_byte true e = rw e (omega arith)
    by_byte false e = rw e (omega arith)
