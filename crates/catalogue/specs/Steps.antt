-- From what the lines' room hands over to the answer of a call.
use Rattle.std.specs.Prelude.{◌≡◌, refl, List, [], ◌∷◌, ℕ, ◌<◌, ◌≤◌, length, take, drop, Err, Ok, Result}
use Rattle.std.proofs.Common.{◌∙◌, take_at}
use Rattle.std.proofs.Math.Path.{ap, ap₂}
use Rattle.std.proofs.Math.Bool.{cond}
use borrow.Author.Tests.{lt-ltb, le-ltb}
use Rattle.lines.specs.Lines.{last_line}
use Rattle.lines.specs.Feeding.{kept_behind, handed_over, taken_of}
use Rattle.lines.specs.Keeping.{stored, zeros, line_in, any_line, first_line, taken_from, last_of}
use Rattle.lines.specs.declared.Taken.{Taken}
use Rattle.lines.specs.declared.Last.{Last}
use Rattle.record_writing.specs.SymbolRecords.{symbol_record_of, symbol_buffer_of}
use Rattle.catalogue.specs.Answers.{most_at_once, kept_in, keeping, line_so_far, ended_in, told_by, room_by, refusing, part_of, piece_step, piece_room, end_step, end_room}
use Rattle.catalogue.specs.declared.Catalogue.{Catalogue}
use Rattle.catalogue.specs.declared.Progress.TheVariants.{NoLine, Told}
use Rattle.catalogue.specs.declared.Refusal.TheVariants.{AfterEnd, LongPiece}
use Rattle.catalogue.specs.declared.Progress.{Progress}
use Rattle.catalogue.specs.declared.Refusal.{Refusal}

-- ---- the bytes of a line that is handed over
-- They are the line.
pub line-bytes : (line : List ℕ) → take (line_in line).length (line_in line).bytes ≡ line
unfolding line_in
line-bytes line = take_at line (drop (length line) zeros) (length line) refl

-- What is answered for them, and the room, by the lines that are handed over.
module _ (taken : ℕ) (out : List ℕ) where
  told-lines : (lines : List (List ℕ)) → cond (any_line lines) (Ok (Told taken (symbol_record_of
      (take (line_in (first_line lines)).length (line_in (first_line lines)).bytes) out 0))) (Ok (NoLine taken)) ≡ told_by taken lines out
  told-lines [] = refl
  told-lines (line ∷ lines) = ap (λ (l : List ℕ). (Ok (Told taken (symbol_record_of l out 0)))) (line-bytes line)

  room-lines : (lines : List (List ℕ)) → cond (any_line lines) (symbol_buffer_of (take (line_in (first_line lines)).length (line_in (first_line lines)).bytes)
      out 0) out ≡ room_by lines out
  room-lines [] = refl
  room-lines (line ∷ lines) = ap (λ (l : List ℕ). symbol_buffer_of l out 0) (line-bytes line)

-- ---- a piece, by the tests
module _ (c : Catalogue) (piece out : List ℕ) where
  -- It is too long.
  pub long-piece : most_at_once < length piece → (refusing (Err LongPiece) c ≡ piece_step c piece out) × (out ≡ piece_room c piece out)
  unfolding piece_step piece_room
  long-piece h = (rw (lt-ltb most_at_once (length piece) h), rw (lt-ltb most_at_once (length piece) h))

  module _ (short : length piece ≤ most_at_once) where
    -- It comes after the end.
    pub piece-after : 81 < c.status → (refusing (Err AfterEnd) c ≡ piece_step c piece out) × (out ≡ piece_room c piece out)
    unfolding piece_step piece_room
    piece-after h = (
      rw (le-ltb most_at_once (length piece) short, lt-ltb 81 c.status h),
      rw (le-ltb most_at_once (length piece) short, lt-ltb 81 c.status h),
    )

    -- It is taken.
    pub piece-open : c.status ≤ 81 → (record {
      answer = told_by (taken_of piece) (handed_over (line_so_far c) (part_of piece)) out;
      catalogue = keeping (stored c.bytes (kept_behind (line_so_far c) (part_of piece)));
    } ≡ piece_step c piece out) × (room_by (handed_over (line_so_far c) (part_of piece)) out
        ≡ piece_room c piece out)
    unfolding piece_step piece_room
    piece-open h = (
      rw (le-ltb most_at_once (length piece) short, le-ltb 81 c.status h),
      rw (le-ltb most_at_once (length piece) short, le-ltb 81 c.status h),
    )

    -- By what the lines' room says of it.
    pub piece-taken : c.status ≤ 81 → (t : Taken) → t ≡ taken_from (kept_in c) piece → (a : Result Progress Refusal) (left : List ℕ) → a
        ≡ cond t.finished (Ok (Told t.taken (symbol_record_of (take t.line.length t.line.bytes) out 0))) (Ok (NoLine t.taken)) → left
        ≡ cond t.finished (symbol_buffer_of (take t.line.length t.line.bytes) out 0) out → (next : Catalogue) → next ≡ keeping t.kept
        → (record { answer = a; catalogue = next } ≡ piece_step c piece out) × (left ≡ piece_room c piece out)
    unfolding taken_from
    piece-taken h t e a left told room next kept =
        let (step, behind) = piece-open h in
        let lines = handed_over (line_so_far c) (part_of piece) in (
          ap₂ (λ (b : Result Progress Refusal) (d : Catalogue). record { answer = b; catalogue = d })
              (told ∙ ap (λ (u : Taken). cond u.finished (Ok (Told u.taken (symbol_record_of (take u.line.length u.line.bytes) out 0))) (Ok (NoLine u.taken))) e
              ∙ told-lines (taken_of piece) out lines)
              (kept ∙ ap (λ (u : Taken). keeping u.kept) e)
              ∙ step,
          room ∙ ap (λ (u : Taken). cond u.finished (symbol_buffer_of (take u.line.length u.line.bytes) out 0) out) e ∙ room-lines (taken_of piece) out lines
              ∙ behind,
        )

-- ---- the end, by the test
module _ (c : Catalogue) (out : List ℕ) where
  -- It comes after the end.
  pub end_after : 81 < c.status → (refusing (Err AfterEnd) c ≡ end_step c out) × (out ≡ end_room c out)
  unfolding end_step end_room
  end_after h = (rw (lt-ltb 81 c.status h), rw (lt-ltb 81 c.status h))

  -- It is announced.
  pub end-open : c.status ≤ 81 → (record { answer = told_by 0 (last_line (line_so_far c)) out; catalogue = ended_in c.bytes } ≡ end_step c out)
      × (room_by (last_line (line_so_far c)) out ≡ end_room c out)
  unfolding end_step end_room
  end-open h = (rw (le-ltb 81 c.status h), rw (le-ltb 81 c.status h))

  -- By what the lines' room says of the last line.
  pub end-told : c.status ≤ 81 → (l : Last) → l ≡ last_of (kept_in c) → (a : Result Progress Refusal) (left : List ℕ) → a
      ≡ cond l.finished (Ok (Told 0 (symbol_record_of (take l.line.length l.line.bytes) out 0))) (Ok (NoLine 0)) → left
      ≡ cond l.finished (symbol_buffer_of (take l.line.length l.line.bytes) out 0) out → (record { answer = a; catalogue = ended_in c.bytes } ≡ end_step c out)
      × (left ≡ end_room c out)
  unfolding last_of
  end-told h l e a left told room =
      let (step, behind) = end-open h in
      let lines = last_line (line_so_far c) in (
        ap (λ (b : Result Progress Refusal). record { answer = b; catalogue = ended_in c.bytes })
            (told ∙ ap (λ (u : Last). cond u.finished (Ok (Told 0 (symbol_record_of (take u.line.length u.line.bytes) out 0))) (Ok (NoLine 0))) e
            ∙ told-lines 0 out lines)
            ∙ step,
        room ∙ ap (λ (u : Last). cond u.finished (symbol_buffer_of (take u.line.length u.line.bytes) out 0) out) e ∙ room-lines 0 out lines ∙ behind,
      )
