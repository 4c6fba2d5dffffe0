-- What is to be written after a part of the input, and at its end: the texts of the lines that are handed over then, in the room of one text.
use Rattle.std.specs.Prelude.{◌≡◌, refl, cond, List, [], ◌∷◌, ◌++◌, ℕ, ◌+◌, ◌-◌, ◌≤◌, ◌<◌, length, take, drop, replicate}
use Rattle.std.proofs.Common.{sym, ◌∙◌, append-nil, append_assoc, arith, length-drop, take-append-drop, take_all, take_at, drop-drop}
use Rattle.std.proofs.Math.Path.{ap, ap₂}
use Rattle.std.proofs.lemmas.List.{length-replicate}
use Rattle.std.proofs.Math.Seq.{drop-length}
use Rattle.answer_text.specs.Text.{text_of, text_answer}
use Rattle.answer_text.specs.Answering.{answer-size}
use Rattle.answer_text.specs.declared.AnswerText.{AnswerText}
use Rattle.lines.specs.Lines.{last_line, in_a_row, last-once}
use Rattle.lines.specs.Feeding.{kept_behind, handed_over, taken_of, kept-parts, handed-parts, taken-within, taken-some}
use Rattle.lines.specs.Keeping.{held, stored, zeros, line_in, any_line, first_line, taken_from, last_of}
use Rattle.lines.specs.Storing.{handy-length, stored-whole, held-stored, held-handy}
use Rattle.lines.specs.Taking.{kept-handy, handed-once}
use Rattle.lines.specs.declared.Kept.{Kept}
use Rattle.lines.specs.declared.Taken.{Taken}
use Rattle.lines.specs.declared.Last.{Last}
use Rattle.hall.specs.Output.{texts_of, texts-joined}
use Rattle.hall.specs.declared.answers.Answered.{Answered}

-- A text in the room of an answer: zeros stand behind it.
unfoldable pub in_room : List ℕ → AnswerText
in_room text = record { length = length text; bytes = text ++ replicate (1814 - length text) 0 }

-- The places of it that are in use.
pub room-text : (a : AnswerText) (text : List ℕ) → a ≡ in_room text → take a.length a.bytes ≡ text
unfolding in_room
room-text a text e =
    ap (λ (r : AnswerText). take r.length r.bytes) e ∙ take_at text (replicate (1814 - length text) 0) (length text) refl

-- The texts of lines.
abbrev pub texts_in_room : List (List ℕ) → AnswerText
texts_in_room lines = in_room (texts_of lines)

-- There are 1814 places, and no more are in use.
pub record Writable (answer : AnswerText) : Type 0 where
  pub few : answer.length ≤ 1814
  pub places : length answer.bytes ≡ 1814

-- What is made of a piece: the text of what is handed over on the part that is taken, and what is kept behind it.
unfoldable pub answered_from : Kept → List ℕ → Answered
answered_from k piece =
    let part = take (taken_of piece) piece in
    record { text = texts_in_room (handed_over (held k) part); kept = stored k.bytes (kept_behind (held k) part); taken = taken_of piece }

-- ---- by the lines that are handed over
-- None.
pub none-in-room : in_room [] ≡ texts_in_room []
unfolding in_a_row
none-in-room = refl

none_writable : Writable (texts_in_room [])
unfolding in_room in_a_row
none_writable = record { few = omega arith; places = length-replicate {A = ℕ} 1814 0 }

-- One.
pub one-in-room : (line : List ℕ) → text_answer line ≡ texts_in_room (line ∷ [])
unfolding text_answer in_room in_a_row
one-in-room line = rw (append-nil (text_of line))

one-writable : (line : List ℕ) (answer : AnswerText) → answer ≡ text_answer line → Writable answer
one-writable line answer e = let (few, places) = answer-size line answer e in record { few = few; places = places }

-- At most one fits.
lines-writable : (lines : List (List ℕ)) → length lines ≤ 1 → Writable (texts_in_room lines)
lines-writable [] h = none_writable
lines-writable (line ∷ []) h = one-writable line (texts_in_room (line ∷ [])) (sym (one-in-room line))
lines-writable (line ∷ other ∷ lines) h = absurd (omega arith)

-- ---- what the lines' room hands over
-- It is the first line of those that are handed over.
handed-line : (lines : List (List ℕ)) → length lines ≤ 1
    → cond (any_line lines) (take (line_in (first_line lines)).length (line_in (first_line lines)).bytes ∷ []) [] ≡ lines
unfolding line_in
handed-line [] h = refl
handed-line (line ∷ []) h = ap (λ (l : List ℕ). l ∷ []) (take_at line (drop (length line) zeros) (length line) refl)
handed-line (line ∷ other ∷ lines) h = absurd (omega arith)

module _ (k : Kept) (piece : List ℕ) where
  -- So the text of a part is that of what is handed over on it,
  pub answered-part : (t : Taken) → t ≡ taken_from k piece → (text : AnswerText)
      → text ≡ texts_in_room (cond t.finished (take t.line.length t.line.bytes ∷ []) [])
      → record { text = text; kept = t.kept; taken = t.taken } ≡ answered_from k piece
  unfolding taken_from answered_from
  answered-part t e text said =
      let lines = handed_over (held k) (take (taken_of piece) piece) in
      ap₂ (λ (a : AnswerText) (u : Taken). record { text = a; kept = u.kept; taken = u.taken })
      (said ∙ ap (λ (u : Taken). texts_in_room (cond u.finished (take u.line.length u.line.bytes ∷ []) [])) e
      ∙ ap texts_in_room (handed-line lines (handed-once (held k) piece)))
      e

  -- and it can be written.
  pub answered-writable : (r : Answered) → r ≡ answered_from k piece → Writable r.text
  unfolding answered_from
  answered-writable r e =
      let lines = handed_over (held k) (take (taken_of piece) piece) in
      rw (ap (λ (a : Answered). a.text) e) (lines-writable lines (handed-once (held k) piece))

-- The same of the last line.
pub last-part : (k : Kept) (l : Last) → l ≡ last_of k → (text : AnswerText)
    → text ≡ texts_in_room (cond l.finished (take l.line.length l.line.bytes ∷ []) []) → text ≡ texts_in_room (last_line (held k))
unfolding last_of
last-part k l e text said =
    said ∙ ap (λ (u : Last). texts_in_room (cond u.finished (take u.line.length u.line.bytes ∷ []) [])) e
    ∙ ap texts_in_room (handed-line (last_line (held k)) (last-once (held k)))

pub last-writable : (k : Kept) (text : AnswerText) → text ≡ texts_in_room (last_line (held k)) → Writable text
last-writable k text e = rw e (lines-writable (last_line (held k)) (last-once (held k)))

-- What is left of a piece from a place on, and the next place.
module _ (piece : List ℕ) (from : ℕ) where
  abbrev pub left : List ℕ
  left = take (length piece - from) (drop from piece)

  left-whole : left ≡ drop from piece
  left-whole = take_all (length piece - from) (drop from piece) (omega (arith, length-drop from piece))

  left-long : length left ≡ length piece - from
  left-long = ap length left-whole ∙ length-drop from piece

  module _ (k : Kept) (places : length k.bytes ≡ 80) (r : Answered) (e : r ≡ answered_from k left) where
    abbrev part : List ℕ
    part = take (taken_of left) left

    counted : r.taken ≡ taken_of left
    unfolding answered_from
    counted = ap (λ (a : Answered). a.taken) e

    kept_then : r.kept ≡ stored k.bytes (kept_behind (held k) part)
    unfolding answered_from
    kept_then = ap (λ (a : Answered). a.kept) e

    pub next-places : length r.kept.bytes ≡ 80
    next-places =
        let behind = kept_behind (held k) part in
        let handy = kept-handy (held k) part (held-handy k places) in
        ap (λ (m : Kept). length m.bytes) kept_then ∙ stored-whole k.bytes places behind (handy-length behind handy)

    pub next-within : from ≤ length piece → from + r.taken ≤ length piece
    next-within h = omega (arith, counted, taken-within left, left-long)

    pub next-later : from < length piece → from < from + r.taken
    next-later h =
        let rest = left-long in
        let some = taken-some left (omega arith) in
        omega (arith, counted)

    text_then : r.text ≡ texts_in_room (handed_over (held k) part)
    unfolding answered_from
    text_then = ap (λ (a : Answered). a.text) e

    held-then : held r.kept ≡ kept_behind (held k) part
    held-then =
        let behind = kept_behind (held k) part in
        let handy = kept-handy (held k) part (held-handy k places) in
        ap held kept_then ∙ held-stored k.bytes places behind handy

    rest-then : drop (from + r.taken) piece ≡ drop (taken_of left) left
    rest-then = sym (drop-drop r.taken from piece) ∙ ap₂ drop counted (sym left-whole)

    whole-again : part ++ drop (taken_of left) left ≡ drop from piece
    whole-again = take-append-drop (taken_of left) left ∙ left-whole

    -- What is kept of the part goes on as what was kept before it.
    pub next-kept : kept_behind (held r.kept) (drop (from + r.taken) piece) ≡ kept_behind (held k) (drop from piece)
    next-kept =
        ap₂ kept_behind held-then rest-then
        ∙ kept-parts (held k) part (drop (taken_of left) left) ∙ ap (kept_behind (held k)) whole-again

    -- The part's text, and the texts of what is left behind it, are those of what was left before it,
    next-texts : take r.text.length r.text.bytes ++ texts_of (handed_over (held r.kept) (drop (from + r.taken) piece))
        ≡ texts_of (handed_over (held k) (drop from piece))
    next-texts =
        let rest = drop (taken_of left) left in
        ap₂ (λ (t : List ℕ) (lines : List (List ℕ)). t ++ texts_of lines)
        (room-text r.text (texts_of (handed_over (held k) part)) text_then)
        (ap₂ handed_over held-then rest-then)
        ∙ texts-joined (handed_over (held k) part) (handed_over (kept_behind (held k) part) rest)
        ∙ ap texts_of (handed-parts (held k) part rest ∙ ap (handed_over (held k)) whole-again)

    -- so what is written, with what is left, stays the same.
    pub next-written : (written all : List ℕ) → written ++ texts_of (handed_over (held k) (drop from piece)) ≡ all
        → (written ++ take r.text.length r.text.bytes) ++ texts_of (handed_over (held r.kept) (drop (from + r.taken) piece)) ≡ all
    next-written written all e =
        append_assoc written (take r.text.length r.text.bytes) (texts_of (handed_over (held r.kept) (drop (from + r.taken) piece)))
        ∙ ap (λ (l : List ℕ). written ++ l) next-texts ∙ e

-- Nothing of it is left.
pub kept_whole : (piece : List ℕ) (from : ℕ) (kept : List ℕ) → from ≡ length piece → kept ≡ kept_behind kept (drop from piece)
unfolding kept_behind
kept_whole piece from kept e = rw (e, drop-length piece)

-- So all is written.
no-texts : (piece : List ℕ) (from : ℕ) (kept : List ℕ) → from ≡ length piece → texts_of (handed_over kept (drop from piece)) ≡ []
unfolding handed_over in_a_row
no-texts piece from kept e = rw (e, drop-length piece)

pub written_whole : (piece : List ℕ) (from : ℕ) (kept written all : List ℕ) → from ≡ length piece → written ++ texts_of (handed_over kept (drop from piece))
    ≡ all
    → written ≡ all
written_whole piece from kept written all e f =
    sym (append-nil written) ∙ ap (λ (l : List ℕ). written ++ l) (sym (no-texts piece from kept e)) ∙ f
