-- However a catalogue is cut, the answers are those for the lines of the uncut text. The idea: what one call takes and hands over is a part of what all of
-- the rest would hand over, and a line is answered alike whether it is shortened or not.
use Rattle.std.specs.Prelude.{◌≡◌, Bool, true, false, cond, List, [], ◌∷◌, ◌++◌, map, ℕ, suc, ◌+◌, ◌<◌, ◌≤◌, leb, ltb, length, drop, Err, Ok, Result}
use Rattle.std.proofs.Math.Path.{refl}
use Rattle.std.proofs.Common.{sym, ◌∙◌, ap, ap₂, subst, append_assoc, arith, length-drop, take-append-drop, drop_of_length-le, leb-true, leb-false, ltb-false}
use Rattle.hall_symbol.specs.declared.refusal.Refusal.TheVariants.{TooLong}
use Rattle.symbol_group.specs.Answers.{long-refused}
use Rattle.symbol_group.specs.declared.refusal.Refusal.TheVariants.{Text}
use Rattle.record_writing.specs.SymbolRecords.{symbol_record_of, symbol_buffer_of}
use Rattle.lines.specs.Lines.{last_line, lines_of, in_a_row, last-once}
use Rattle.lines.specs.Feeding.{shortened, kept_behind, handed_over, all_handed_over, taken_of, short-whole, long-shortened, long-length, all-parts, handed-lines}
use Rattle.lines.specs.Keeping.{held, stored}
use Rattle.lines.specs.Storing.{Handy, handy-length, stored-whole, held-stored, held-handy}
use Rattle.lines.specs.Taking.{kept-handy, handed-once}
use Rattle.catalogue.specs.Answers.{most_at_once, kept_in, keeping, line_so_far, fresh, told_by, room_by, part_of, piece_step, piece_room, end_step, end_room}
use Rattle.catalogue.specs.Steps.{piece-open, end-open}
use Rattle.catalogue.specs.declared.Catalogue.{Catalogue}
use Rattle.catalogue.specs.declared.Step.{Step}
use Rattle.catalogue.specs.declared.Progress.TheVariants.{NoLine, Told}
use Rattle.catalogue.specs.declared.Refusal.TheVariants.{AfterEnd, LongPiece}
use Rattle.record_writing.specs.declared.Unwritten.TheVariants.{Refused as NotWritten}
use Rattle.catalogue.specs.declared.Progress.{Progress}
use Rattle.catalogue.specs.declared.Refusal.{Refusal}
use Rattle.record_writing.specs.declared.Unwritten.{Unwritten}
use Rattle.symbol_group.specs.declared.refusal.Refusal.{Refusal as SymbolRefusal}

-- ---- a caller's calls
-- How many bytes a call took.
abbrev pub taken_by : Result Progress Refusal → ℕ
taken_by (Ok (NoLine taken)) = taken
taken_by (Ok (Told taken r)) = taken
taken_by (Err LongPiece) = 0
taken_by (Err AfterEnd) = 0

-- What a caller has of a call: the answer for the line that was finished, with the room as the call left it.
abbrev pub heard : Result Progress Refusal → List ℕ → List (Result ℕ (Unwritten SymbolRefusal) × List ℕ)
heard (Ok (NoLine taken)) room = []
heard (Ok (Told taken r)) room = (r, room) ∷ []
heard (Err LongPiece) room = []
heard (Err AfterEnd) room = []

-- The pieces that are still to be handed in: what a call left of the piece goes first.
abbrev pub still_to_come : ℕ → List ℕ → List (List ℕ) → List (List ℕ)
still_to_come taken piece pieces = cond (ltb taken (length piece)) (drop taken piece ∷ pieces) pieces

-- Every piece may be handed in.
abbrev pub AllFit : List (List ℕ) → Type 0
AllFit [] = Unit {0}
AllFit (piece ∷ pieces) = (length piece ≤ most_at_once) × AllFit pieces

-- A caller lends a room for each answer, with anything in it: this is the one for the answer of number i.
module _ (rooms : ℕ → List ℕ) where
  -- The calls of a caller: `piece` on each piece until it is taken whole, and `end` behind them; and what the caller has of them, in order.
  pub data Calls : Catalogue → ℕ → List (List ℕ) → List (Result ℕ (Unwritten SymbolRefusal) × List ℕ) → Type 0 where
    ending : (c : Catalogue) (i : ℕ) → Calls c i [] (heard (end_step c (rooms i)).answer (end_room c (rooms i)))
    handing : (c : Catalogue) (i : ℕ) (piece : List ℕ) (pieces : List (List ℕ)) (later : List (Result ℕ (Unwritten SymbolRefusal) × List ℕ))
        → Calls (piece_step c piece (rooms i)).catalogue (i + length (heard (piece_step c piece (rooms i)).answer (piece_room c piece (rooms i))))
        (still_to_come (taken_by (piece_step c piece (rooms i)).answer) piece pieces) later
        → Calls c i (piece ∷ pieces) (heard (piece_step c piece (rooms i)).answer (piece_room c piece (rooms i)) ++ later)

  -- The answers for lines, from number i on: of each, what the writing of its record answers, and what it leaves in the room.
  abbrev pub answers_from : ℕ → List (List ℕ) → List (Result ℕ (Unwritten SymbolRefusal) × List ℕ)
  answers_from i [] = []
  answers_from i (line ∷ lines) = (symbol_record_of line (rooms i) 0, symbol_buffer_of line (rooms i) 0) ∷ answers_from (suc i) lines

-- ---- lines that are shortened are answered alike

-- So it is answered 1, and nothing is written.
pub long-answer : (line room : List ℕ) → 80 < length line
    → (symbol_record_of line room 0 ≡ Err (NotWritten (Text TooLong))) × (symbol_buffer_of line room 0 ≡ room)
unfolding symbol_record_of symbol_buffer_of
long-answer line room h = (rw (long-refused line h), rw (long-refused line h))

pub shortened-answer : (line room : List ℕ) → (symbol_record_of (shortened line) room 0 ≡ symbol_record_of line room 0)
    × (symbol_buffer_of (shortened line) room 0 ≡ symbol_buffer_of line room 0)
shortened-answer line room = by_length (leb (length line) 80) refl
  where
    by_length : (t : Bool) → leb (length line) 80 ≡ t → (symbol_record_of (shortened line) room 0 ≡ symbol_record_of line room 0)
        × (symbol_buffer_of (shortened line) room 0 ≡ symbol_buffer_of line room 0)
    by_length true e =
        let whole = short-whole line (leb-true (length line) 80 e) in
        (ap (λ (l : List ℕ). symbol_record_of l room 0) whole, ap (λ (l : List ℕ). symbol_buffer_of l room 0) whole)
    by_length false e =
        let long = leb-false (length line) 80 e in
        let size = ap length (long-shortened line long) ∙ long-length line long in
        let cut = long-answer (shortened line) room (omega arith) in
        let all = long-answer line room long in
        (cut.0 ∙ sym all.0, cut.1 ∙ sym all.1)

-- ---- the calls, one by one
-- A catalogue that is not ended, its places there.
pub record Open (c : Catalogue) : Type 0 where
  pub going : c.status ≤ 81
  pub places : length c.bytes ≡ 80

module _ (c : Catalogue) (O : Open c) where
  so-far-handy : Handy (line_so_far c)
  so-far-handy = held-handy (kept_in c) O.places

  module _ (piece : List ℕ) where
    -- The line behind what a call takes,
    abbrev behind : List ℕ
    behind = kept_behind (line_so_far c) (part_of piece)

    behind-handy : Handy behind
    behind-handy = kept-handy (line_so_far c) (part_of piece) so-far-handy

    -- is the line of the catalogue then,
    abbrev next-catalogue : Catalogue
    next-catalogue = keeping (stored c.bytes behind)

    pub next-line : line_so_far next-catalogue ≡ behind
    next-line = held-stored c.bytes O.places behind behind-handy

    -- which is not ended.
    pub next-open : Open next-catalogue
    unfolding stored
    next-open =
        record { going = handy-length behind behind-handy; places = stored-whole c.bytes O.places behind (handy-length behind behind-handy) }

-- ---- answers in order
module _ (rooms : ℕ → List ℕ) where
  answers-parts : (i : ℕ) (lines more : List (List ℕ)) → answers_from rooms i lines ++ answers_from rooms (i + length lines) more
      ≡ answers_from rooms i (lines ++ more)
  answers-parts i [] more = ap (λ (n : ℕ). answers_from rooms n more) (omega arith)
  answers-parts i (line ∷ lines) more =
      ap (λ (l : List (Result ℕ (Unwritten SymbolRefusal) × List ℕ)). (symbol_record_of line (rooms i) 0, symbol_buffer_of line (rooms i) 0) ∷ l)
      (ap (λ (n : ℕ). answers_from rooms (suc i) lines ++ answers_from rooms n more) (omega arith) ∙ answers-parts (suc i) lines more)

  -- What is heard of at most one line.
  heard-lines : (i taken : ℕ) (lines : List (List ℕ)) → length lines ≤ 1 → heard (told_by taken lines (rooms i)) (room_by lines (rooms i))
      ≡ answers_from rooms i lines
  heard-lines i taken [] h = refl
  heard-lines i taken (line ∷ []) h = refl
  heard-lines i taken (line ∷ other ∷ lines) h = absurd (omega arith)

  heard-count : (i taken : ℕ) (lines : List (List ℕ)) → length lines ≤ 1 → length (heard (told_by taken lines (rooms i)) (room_by lines (rooms i)))
      ≡ length lines
  heard-count i taken [] h = refl
  heard-count i taken (line ∷ []) h = refl
  heard-count i taken (line ∷ other ∷ lines) h = absurd (omega arith)

  -- Shortened lines are answered alike.
  answers-shortened : (i : ℕ) (lines : List (List ℕ)) → answers_from rooms i (map shortened lines) ≡ answers_from rooms i lines
  answers-shortened i [] = refl
  answers-shortened i (line ∷ lines) =
      let alike = shortened-answer line (rooms i) in
      ap₂ (λ (r : Result ℕ (Unwritten SymbolRefusal) × List ℕ) (l : List (Result ℕ (Unwritten SymbolRefusal) × List ℕ)). r ∷ l) (λ j. (alike.0 j, alike.1 j))
      (answers-shortened (suc i) lines)

pub taken-told : (taken : ℕ) (lines : List (List ℕ)) (room : List ℕ) → taken_by (told_by taken lines room) ≡ taken
taken-told taken [] room = refl
taken-told taken (line ∷ lines) room = refl

-- ---- however it is cut
-- What is left of a piece and the pieces behind it, in a row.
still-in-a-row : (taken : ℕ) (piece : List ℕ) (pieces : List (List ℕ)) → in_a_row (still_to_come taken piece pieces) ≡ drop taken piece ++ in_a_row pieces
unfolding in_a_row
still-in-a-row taken piece pieces = by-test (ltb taken (length piece)) refl
  where
    by-test : (t : Bool) → ltb taken (length piece) ≡ t → in_a_row (cond t (drop taken piece ∷ pieces) pieces) ≡ drop taken piece ++ in_a_row pieces
    by-test true e = refl
    by-test false e = sym (ap (λ (l : List ℕ). l ++ in_a_row pieces) (drop_of_length-le piece {i = taken} (ltb-false taken (length piece) e)))

-- They may be handed in.
pub still-fit : (taken : ℕ) (piece : List ℕ) (pieces : List (List ℕ)) → AllFit (piece ∷ pieces) → AllFit (still_to_come taken piece pieces)
still-fit taken piece pieces (fits, others) = by-test (ltb taken (length piece))
  where
    by-test : (t : Bool) → AllFit (cond t (drop taken piece ∷ pieces) pieces)
    by-test true = (omega (arith, length-drop taken piece), others)
    by-test false = others

-- Of no pieces the last line is left.
none_left : (line : List ℕ) → last_line line ≡ all_handed_over line (in_a_row [])
unfolding all_handed_over handed_over kept_behind in_a_row
none_left line = refl

in_a_row_lem : (line piece : List ℕ) (pieces : List (List ℕ)) → all_handed_over line (piece ++ in_a_row pieces)
    ≡ all_handed_over line (in_a_row (piece ∷ pieces))
unfolding in_a_row
in_a_row_lem line piece pieces = refl

module _ (rooms : ℕ → List ℕ) where
  -- What is heard of the end,
  end-heard : (c : Catalogue) → Open c → (i : ℕ) → heard (end_step c (rooms i)).answer (end_room c (rooms i)) ≡ answers_from rooms i (last_line (line_so_far c))
  end-heard c O i =
      let (step, room) = end-open c (rooms i) O.going in
      ap₂ (λ (s : Step) (r : List ℕ). heard s.answer r) (sym step) (sym room) ∙ heard-lines rooms i 0 (last_line (line_so_far c)) (last-once (line_so_far c))

  -- and of a piece.
  module _ (c : Catalogue) (O : Open c) (i : ℕ) (piece : List ℕ) (fits : length piece ≤ most_at_once) where
    abbrev finished-lines : List (List ℕ)
    finished-lines = handed_over (line_so_far c) (part_of piece)

    piece-heard : heard (piece_step c piece (rooms i)).answer (piece_room c piece (rooms i)) ≡ answers_from rooms i finished-lines
    piece-heard =
        let (step, room) = piece-open c piece (rooms i) fits O.going in
        ap₂ (λ (s : Step) (r : List ℕ). heard s.answer r) (sym step) (sym room)
        ∙ heard-lines rooms i (taken_of piece) finished-lines (handed-once (line_so_far c) piece)

    piece-count : length (heard (piece_step c piece (rooms i)).answer (piece_room c piece (rooms i))) ≡ length finished-lines
    piece-count =
        let (step, room) = piece-open c piece (rooms i) fits O.going in
        ap₂ (λ (s : Step) (r : List ℕ). length (heard s.answer r)) (sym step) (sym room)
        ∙ heard-count rooms i (taken_of piece) finished-lines (handed-once (line_so_far c) piece)

    pub piece-takes : taken_by (piece_step c piece (rooms i)).answer ≡ taken_of piece
    piece-takes =
        ap (λ (s : Step). taken_by s.answer) (sym (piece-open c piece (rooms i) fits O.going).0) ∙ taken-told (taken_of piece) finished-lines (rooms i)

    pub piece-next : (piece_step c piece (rooms i)).catalogue ≡ next-catalogue c O piece
    piece-next = ap (λ (s : Step). s.catalogue) (sym (piece-open c piece (rooms i) fits O.going).0)

  -- From any state of a catalogue on.
  from-calls : {c : Catalogue} {i : ℕ} {pieces : List (List ℕ)} {answers : List (Result ℕ (Unwritten SymbolRefusal) × List ℕ)} → Calls rooms c i pieces answers
      → Open c
      → AllFit pieces → answers ≡ answers_from rooms i (all_handed_over (line_so_far c) (in_a_row pieces))
  from-calls (ending c i) O fit = end-heard c O i ∙ ap (answers_from rooms i) (none_left (line_so_far c))
  from-calls (handing c i piece pieces later calls) O fit =
      let lines = finished-lines c O i piece fit.0 in
      let behind-it = in_a_row pieces in
      let taken = taken_of piece in
      let left = still_to_come (taken_by (piece_step c piece (rooms i)).answer) piece pieces in
      let goes_on = piece-next c O i piece fit.0 in
      let row : in_a_row left ≡ drop taken piece ++ behind-it = still-in-a-row (taken_by (piece_step c piece (rooms i)).answer) piece pieces
      ∙ ap (λ (n : ℕ). drop n piece ++ behind-it) (piece-takes c O i piece fit.0) in
      let line-then : line_so_far (piece_step c piece (rooms i)).catalogue ≡ behind c O piece = ap line_so_far goes_on ∙ next-line c O piece in
      let rest = from-calls calls (subst Open (sym goes_on) (next-open c O piece)) (still-fit (taken_by (piece_step c piece (rooms i)).answer) piece pieces
      fit) in
      ap₂ ◌++◌ (piece-heard c O i piece fit.0)
      (rest ∙ ap₂ (λ (n : ℕ) (l : List (List ℕ)). answers_from rooms n l) (ap (λ (n : ℕ). i + n) (piece-count c O i piece fit.0))
      (ap₂ all_handed_over line-then row))
      ∙ answers-parts rooms i lines (all_handed_over (behind c O piece) (drop taken piece ++ behind-it))
      ∙ ap (answers_from rooms i)
      (all-parts (line_so_far c) (part_of piece) (drop taken piece ++ behind-it)
      ∙ ap (all_handed_over (line_so_far c)) (sym (append_assoc (part_of piece) (drop taken piece) behind-it)
      ∙ ap (λ (l : List ℕ). l ++ behind-it) (take-append-drop taken piece)) ∙ in_a_row_lem (line_so_far c) piece pieces)

  -- A fresh catalogue holds no byte.
  fresh-line : (bytes : List ℕ) → line_so_far (fresh bytes) ≡ []
  unfolding held
  fresh-line bytes = refl

  -- However a text is cut into pieces, the answers, each with what is left in its room, are in order those for the lines of the uncut text.
  pub cut-anywhere : (bytes : List ℕ) → length bytes ≡ 80 → (pieces : List (List ℕ)) → AllFit pieces
      → (answers : List (Result ℕ (Unwritten SymbolRefusal) × List ℕ))
      → Calls rooms (fresh bytes) 0 pieces answers → answers ≡ answers_from rooms 0 (lines_of (in_a_row pieces))
  cut-anywhere bytes places pieces fit answers calls =
      from-calls calls (record { going = omega arith; places = places }) fit
      ∙ ap (answers_from rooms 0) (ap (λ (l : List ℕ). all_handed_over l (in_a_row pieces)) (fresh-line bytes) ∙ handed-lines (in_a_row pieces))
      ∙ answers-shortened rooms 0 (lines_of (in_a_row pieces))
