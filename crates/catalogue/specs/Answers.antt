-- What a call on a catalogue answers, what the catalogue is behind it, and what the lent room holds then, by R12.
use Rattle.std.specs.Prelude.{Bool, cond, List, [], ◌∷◌, ℕ, ltb, length, take, Err, Ok, Result}
use Rattle.operation.specs.Answer as answer
use Rattle.lines.specs.Lines.{last_line}
use Rattle.lines.specs.Feeding.{kept_behind, handed_over, taken_of}
use Rattle.lines.specs.Keeping.{held, stored}
use Rattle.lines.specs.declared.Kept.{Kept}
use Rattle.record_writing.specs.SymbolRecords.{symbol_record_answer, symbol_record_of, symbol_buffer_of}
use Rattle.catalogue.specs.declared.Catalogue.{Catalogue}
use Rattle.catalogue.specs.declared.Step.{Step}
use Rattle.catalogue.specs.declared.Progress.TheVariants.{NoLine, Told}
use Rattle.catalogue.specs.declared.Refusal.TheVariants.{AfterEnd, LongPiece}
use Rattle.catalogue.specs.declared.Progress.{Progress}
use Rattle.catalogue.specs.declared.Refusal.{Refusal}

-- How many bytes a piece may have.
abbrev pub most_at_once : ℕ
most_at_once = 4096

-- The status behind the end.
abbrev pub ended_status : ℕ
ended_status = 82

-- ---- what a catalogue is
-- The line that goes on, as lines are kept, and the catalogue that keeps it.
abbrev pub kept_in : Catalogue → Kept
kept_in c = record { status = c.status; bytes = c.bytes }

abbrev pub keeping : Kept → Catalogue
keeping k = record { status = k.status; bytes = k.bytes }

-- The bytes of the line that goes on.
abbrev pub line_so_far : Catalogue → List ℕ
line_so_far c = held (kept_in c)

-- A fresh start, and the end: the bytes stay where they are.
abbrev pub fresh : List ℕ → Catalogue
fresh bytes = record { status = 0; bytes = bytes }

abbrev pub ended_in : List ℕ → Catalogue
ended_in bytes = record { status = ended_status; bytes = bytes }

-- Whether the end was announced.
abbrev pub is_ended : Catalogue → Bool
is_ended c = ltb 81 c.status

-- ---- what is answered
-- At most one line is finished by a call: it is answered by the writing of its record from the start of the room.
abbrev pub told_by : ℕ → List (List ℕ) → List ℕ → Result Progress Refusal
told_by taken [] out = Ok (NoLine taken)
told_by taken (line ∷ lines) out = Ok (Told taken (symbol_record_of line out 0))

abbrev pub room_by : List (List ℕ) → List ℕ → List ℕ
room_by [] out = out
room_by (line ∷ lines) out = symbol_buffer_of line out 0

-- A refusal leaves the catalogue as it was.
abbrev pub refusing : Result Progress Refusal → Catalogue → Step
refusing a c = record { answer = a; catalogue = c }

-- The part of a piece that one call takes: up to the first byte 10, with it, or all.
abbrev pub part_of : List ℕ → List ℕ
part_of piece = take (taken_of piece) piece

-- A piece: 45 goes first, then 46.
unfoldable pub piece_step : Catalogue → List ℕ → List ℕ → Step
piece_step c piece out =
    cond (ltb most_at_once (length piece)) (refusing (Err LongPiece) c)
    (cond (is_ended c) (refusing (Err AfterEnd) c)
    (record {
      answer = told_by (taken_of piece) (handed_over (line_so_far c) (part_of piece)) out;
      catalogue = keeping (stored c.bytes (kept_behind (line_so_far c) (part_of piece)));
    }))

-- The room behind it.
unfoldable pub piece_room : Catalogue → List ℕ → List ℕ → List ℕ
piece_room c piece out =
    cond (ltb most_at_once (length piece)) out (cond (is_ended c) out (room_by (handed_over (line_so_far c) (part_of piece)) out))

-- The end: no byte is taken, and a last line counts unless it holds no byte.
unfoldable pub end_step : Catalogue → List ℕ → Step
end_step c out =
    cond (is_ended c) (refusing (Err AfterEnd) c) (record { answer = told_by 0 (last_line (line_so_far c)) out; catalogue = ended_in c.bytes })

unfoldable pub end_room : Catalogue → List ℕ → List ℕ
end_room c out = cond (is_ended c) out (room_by (last_line (line_so_far c)) out)

-- ---- each answer in numbers
-- What is said of a line: nothing, where none was finished, or what the writing of its record answered.
pub data Said : Type 0 where
  nothing : Said
  line : answer.Answer ℕ answer.Nothing → Said

-- How many bytes were taken and what is said, or the refusal's number and place.
abbrev pub catalogue_answer : Result Progress Refusal → answer.Answer (ℕ × Said) answer.Nothing
catalogue_answer (Ok (NoLine taken)) = answer.given (taken, nothing)
catalogue_answer (Ok (Told taken r)) = answer.given (taken, line (symbol_record_answer r))
catalogue_answer (Err LongPiece) = answer.refused 45 0 tt
catalogue_answer (Err AfterEnd) = answer.refused 46 0 tt
