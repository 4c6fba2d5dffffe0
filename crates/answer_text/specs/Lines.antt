-- The lines as the code writes them, word by word, and how long they are.
use Rattle.std.specs.Prelude.{◌≡◌, refl, ℕ, ◌*◌, ◌<◌, ◌≤◌, length}
use Rattle.std.proofs.Common.{ap, arith, length-append}
use mathlib.Core.List.Memᴰ.{head as here}
use mathlib.Core.List.Memᴰ.{tail as there}
use mathlib.Core.List.{List, [], ◌∷◌, ◌++◌, append_assoc, Memᴰ as Mem}
use Rattle.operation.specs.Meaning.{entry_of, matrix_of, vector_of, motion_of, Digits}
use Rattle.operation.specs.declared.Operation.{Operation}
use Rattle.symbol_group.specs.Refusals.{number_of, place_of}
use Rattle.symbol_group.specs.declared.refusal.Refusal.{Refusal}
use Rattle.group_record.specs.Items.{bytes_of}
use Rattle.answer_text.specs.Words.{space, newline, decimal, signed, line_of, entry-short, number_short}
use Rattle.answer_text.specs.Text.{bytes, operation_line, refusal_text}

-- What is asked of an operation so that its words are short: entries in −1..1, and coordinates of two digits at most.
pub record Plain (f : Operation) : Type 0 where
  pub digits : Digits f.rotation
  pub x : f.translation.x < 100
  pub y : f.translation.y < 100
  pub z : f.translation.z < 100

-- An entry with a space behind it.
abbrev pub entry_word : ℕ → List ℕ
entry_word d = signed (entry_of d) ++ (space ∷ [])

-- The three of a row.
unfoldable pub row_words : ℕ → ℕ → ℕ → List ℕ
row_words a b c = entry_word a ++ (entry_word b ++ entry_word c)

-- A number with a byte behind it.
abbrev pub number_word : ℕ → ℕ → List ℕ
number_word n end = decimal n ++ (end ∷ [])

-- ---- how long they are
-- An entry's word has three bytes at most,
pub entry-word-short : (d : ℕ) → d ≤ 2 → length (entry_word d) ≤ 3
entry-word-short d h = simp length-append (omega (arith, entry-short d h))

-- and so has a number's;
pub number-word-short : (n end : ℕ) → n < 100 → length (number_word n end) ≤ 3
number-word-short n end h = simp length-append (omega (arith, number_short n h))

-- a row has nine.
row-short : (a b c : ℕ) → a ≤ 2 → b ≤ 2 → c ≤ 2 → length (row_words a b c) ≤ 9
unfolding row_words
row-short a b c p q r = simp length-append (omega (arith, entry-short a p, entry-short b q, entry-short c r))

-- The parts of an operation's line.
pub record Short (f : Operation) : Type 0 where
  pub first : length (row_words f.rotation.xx f.rotation.xy f.rotation.xz) ≤ 9
  pub second : length (row_words f.rotation.yx f.rotation.yy f.rotation.yz) ≤ 9
  pub third : length (row_words f.rotation.zx f.rotation.zy f.rotation.zz) ≤ 9
  pub x : length (number_word f.translation.x space) ≤ 3
  pub y : length (number_word f.translation.y space) ≤ 3
  pub z : length (number_word f.translation.z newline) ≤ 3

-- So it is for a plain operation.
pub plain-short : (f : Operation) → Plain f → Short f
plain-short f p =
    let d = p.digits in
    record {
      first = row-short _ _ _ d.xx d.xy d.xz;
      second = row-short _ _ _ d.yx d.yy d.yz;
      third = row-short _ _ _ d.zx d.zy d.zz;
      x = number-word-short _ _ p.x;
      y = number-word-short _ _ p.y;
      z = number-word-short _ _ p.z;
    }

-- ---- an operation's line is its parts
-- Three rows and three coordinates.
unfoldable pub line_parts : Operation → List ℕ
line_parts f =
    row_words f.rotation.xx f.rotation.xy f.rotation.xz
    ++ (row_words f.rotation.yx f.rotation.yy f.rotation.yz
    ++ (row_words f.rotation.zx f.rotation.zy f.rotation.zz
    ++ (number_word f.translation.x space ++ (number_word f.translation.y space ++ number_word f.translation.z newline))))

-- They are the line.
pub line-parts : (f : Operation) → line_parts f ≡ operation_line f
unfolding line_parts row_words operation_line line_of motion_of matrix_of vector_of signed
line-parts f = simp append_assoc

-- It has 36 bytes at most.
pub line-short : (f : Operation) → Plain f → length (operation_line f) ≤ 36
unfolding line_parts
line-short f p = let s = plain-short f p in rw (← line-parts f) (simp length-append (omega (arith, number_short _ p.x, number_short _ p.y, number_short _ p.z)))

-- ---- a refusal's line is its parts
-- The word, the number and the place.
pub refusal-parts : (r : Refusal) → bytes "refused " ++ (number_word (number_of r) space ++ number_word (place_of r) newline) ≡ refusal_text r
unfolding refusal_text line_of
refusal-parts r = ap (λ (l : List ℕ). bytes "refused " ++ l) (append_assoc (decimal (number_of r)) (space ∷ []) (number_word (place_of r) newline))

-- ---- how long the lines of a list are
-- At most 36 bytes each.
pub lines-short : (l : List Operation) → ((f : Operation) → Mem f l → Plain f) → length (bytes_of operation_line l) ≤ 36 * length l
unfolding bytes_of
lines-short [] plain = omega arith
lines-short (f ∷ l) plain =
    let first = line-short f (plain f (here refl)) in
    let rest = lines-short l (λ g m. plain g (there m)) in
    rw (length-append (operation_line f) (bytes_of operation_line l)) (omega arith)
