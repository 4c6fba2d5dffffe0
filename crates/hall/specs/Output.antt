-- What is written for a whole input, and that it is written however the input is cut into pieces.
use Rattle.std.specs.Prelude.{◌≡◌, refl, Bool, true, false, List, [], ◌∷◌, ◌++◌, map, ℕ, leb, length, take}
use Rattle.std.proofs.Common.{◌∙◌, ap, ap₂, append_assoc, arith, take_at, length-take-le, leb-true, leb-false}
use Rattle.answer_text.specs.Text.{text_of}
use Rattle.answer_text.specs.FirstBytes.{long-alike}
use Rattle.lines.specs.Lines.{lines_of, in_a_row}
use Rattle.lines.specs.Feeding.{shortened, over_pieces, short-whole, long-shortened, long-length, pieces-lines}

-- The texts of lines.
abbrev pub texts_of : List (List ℕ) → List ℕ
texts_of lines = in_a_row (map text_of lines)

-- What is to be written for a whole input.
unfoldable pub output_of : List ℕ → List ℕ
output_of text = texts_of (lines_of text)

-- Texts of lines, one behind the other.
rows-joined : (a b : List (List ℕ)) → in_a_row a ++ in_a_row b ≡ in_a_row (a ++ b)
unfolding in_a_row
rows-joined [] b = refl
rows-joined (t ∷ a) b = append_assoc t (in_a_row a) (in_a_row b) ∙ ap (λ (l : List ℕ). t ++ l) (rows-joined a b)

map-joined : (a b : List (List ℕ)) → map text_of a ++ map text_of b ≡ map text_of (a ++ b)
map-joined [] b = refl
map-joined (t ∷ a) b = ap (λ (l : List (List ℕ)). text_of t ∷ l) (map-joined a b)

pub texts-joined : (a b : List (List ℕ)) → texts_of a ++ texts_of b ≡ texts_of (a ++ b)
texts-joined a b = rows-joined (map text_of a) (map text_of b) ∙ ap in_a_row (map-joined a b)

-- The text of a line that is shortened is the text of the line.
shortened-text : (line : List ℕ) → text_of (shortened line) ≡ text_of line
shortened-text line = by_length (leb (length line) 80) refl
  where
    by_length : (t : Bool) → leb (length line) 80 ≡ t → text_of (shortened line) ≡ text_of line
    by_length true e = ap text_of (short-whole line (leb-true (length line) 80 e))
    by_length false e =
        let long = leb-false (length line) 80 e in
        let size = ap length (long-shortened line long) ∙ long-length line long in
        let full = length-take-le 80 line (omega arith) in
        long-alike (shortened line) line (omega arith) long (ap (take 80) (long-shortened line long) ∙ take_at (take 80 line) (0 ∷ []) 80 full)

pub shortened-texts : (lines : List (List ℕ)) → texts_of (map shortened lines) ≡ texts_of lines
unfolding in_a_row
shortened-texts [] = refl
shortened-texts (line ∷ lines) = ap₂ ◌++◌ (shortened-text line) (shortened-texts lines)

-- However a text is cut into pieces, the texts of what is handed over are its output.
pub pieces-output : (pieces : List (List ℕ)) → texts_of (over_pieces [] pieces) ≡ output_of (in_a_row pieces)
unfolding output_of
pieces-output pieces = ap texts_of (pieces-lines pieces) ∙ shortened-texts (lines_of (in_a_row pieces))
