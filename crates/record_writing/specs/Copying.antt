-- A record from a stated place of a lent buffer, by R5.6 and refusal 20; and what was read, written there: a copy in its own edition, or moved to the other.
use Rattle.std.specs.Prelude.{◌≡◌, Bool, true, false, cond, List, ℕ, length, take, Err, Ok, Result}
use Rattle.std.proofs.Common.{sym, ◌∙◌}
use Rattle.std.proofs.Math.Path.{ap}
use Rattle.operation.specs.Answer.{Answer, given, refused, Nothing}
use Rattle.group_record.specs.BothEditions.{edition_of, width_in, other_edition}
use Rattle.group_record.specs.Record.{item_width, total_length, record_in}
use Rattle.group_record.specs.Signs.{letter_byte}
use Rattle.group_record.specs.Reading.{read_of, refusal_number}
use Rattle.record_writing.specs.Places.{room_from, placed_in}
use Rattle.group_record.specs.declared.Edition.{Edition as Known}
use Rattle.group_record.specs.declared.Reading.{Reading}
use Rattle.group_record.specs.declared.Reading.TheVariants.{Accepted, Refused}
use Rattle.group_record.specs.declared.RecordGroup.{RecordGroup}
use Rattle.record_writing.specs.declared.Unwritten.TheVariants.{NoRoom, Refused as NotCopied}
use Rattle.record_writing.specs.declared.Unwritten.{Unwritten}
use Rattle.group_record.specs.declared.Refusal.{Refusal}

-- Refusal 20 is given unless there is room for a record of so many operations, by its edition;
abbrev pub room_by : Known → ℕ → ℕ → ℕ → Bool
room_by edition start n size = room_from start (total_length (width_in edition) n) size

-- for a symbol's, edition 1.
abbrev pub room_for : ℕ → ℕ → ℕ → Bool
room_for start n size = room_from start (total_length item_width n) size

-- Which edition is written: the other one where a record is moved, else that which was read.
abbrev pub chosen_edition : Bool → Known → Known
chosen_edition true edition = other_edition edition
chosen_edition false edition = edition

-- ---- the answer
-- What a copy answers: the count, or a refusal.
abbrev pub copy_answer : Result ℕ (Unwritten Refusal) → Answer ℕ Nothing
copy_answer (Ok n) = given n
copy_answer (Err NoRoom) = refused 20 0 tt
copy_answer (Err (NotCopied r)) = refused (refusal_number r) 0 tt

-- By what was read, and by the edition that is written.
abbrev pub copied_by : Reading → Known → ℕ → ℕ → ℕ → Result ℕ (Unwritten Refusal)
copied_by Accepted edition n start size = cond (room_by edition start n size) (Ok n) (Err NoRoom)
copied_by (Refused r) edition n start size = Err (NotCopied r)

-- What the bytes hold, written in the edition that is chosen.
unfoldable pub written_as : Bool → List ℕ → List ℕ → ℕ → Result ℕ (Unwritten Refusal)
written_as moved bytes out start = let g = read_of bytes in copied_by g.answer (chosen_edition moved g.edition) g.count start (length out)

-- The copy, and the move.
abbrev pub copied_of : List ℕ → List ℕ → ℕ → Result ℕ (Unwritten Refusal)
copied_of bytes out start = written_as false bytes out start

abbrev pub moved_of : List ℕ → List ℕ → ℕ → Result ℕ (Unwritten Refusal)
moved_of bytes out start = written_as true bytes out start

-- ---- the buffer
-- What the lent buffer holds afterwards.
abbrev pub buffer_by : Reading → List ℕ → ℕ → List ℕ → List ℕ
buffer_by Accepted out start bytes = placed_in out start bytes
buffer_by (Refused r) out start bytes = out

-- What a reading holds, as a record of an edition.
abbrev pub group_bytes : Known → RecordGroup → List ℕ
group_bytes edition g = record_in (edition_of edition) (letter_byte g.layer g.centering) g.centering (take g.count g.operations)

unfoldable pub buffer_as : Bool → List ℕ → List ℕ → ℕ → List ℕ
buffer_as moved bytes out start = let g = read_of bytes in buffer_by g.answer out start (group_bytes (chosen_edition moved g.edition) g)

-- After the copy, and after the move.
abbrev pub buffer_of : List ℕ → List ℕ → ℕ → List ℕ
buffer_of bytes out start = buffer_as false bytes out start

abbrev pub moved_buffer_of : List ℕ → List ℕ → ℕ → List ℕ
moved_buffer_of bytes out start = buffer_as true bytes out start

-- ---- by what was read
module _ (moved : Bool) (bytes out : List ℕ) (start : ℕ) (g : RecordGroup) (e : g ≡ read_of bytes) where
  -- The answer, by what was read.
  pub copied-by : (a : Reading) → g.answer ≡ a → copied_by a (chosen_edition moved g.edition) g.count start (length out) ≡ written_as moved bytes out start
  unfolding written_as
  copied-by a p =
      ap (λ (b : Reading). copied_by b (chosen_edition moved g.edition) g.count start (length out)) (sym p)
      ∙ ap (λ (h : RecordGroup). copied_by h.answer (chosen_edition moved h.edition) h.count start (length out)) e

  -- The buffer, by what was read.
  pub buffer-by : (a : Reading) → g.answer ≡ a → buffer_by a out start (group_bytes (chosen_edition moved g.edition) g) ≡ buffer_as moved bytes out start
  unfolding buffer_as
  buffer-by a p =
      ap (λ (b : Reading). buffer_by b out start (group_bytes (chosen_edition moved g.edition) g)) (sym p)
      ∙ ap (λ (h : RecordGroup). buffer_by h.answer out start (group_bytes (chosen_edition moved h.edition) h)) e
