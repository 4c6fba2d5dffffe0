-- What is answered for a record can be packed: it lists at most 48 operations, and its refusals are at 0.
use Rattle.std.specs.Prelude.{◌≡◌, Bool, true, false, cond, List, ℕ, ◌≤◌, length, Err, Ok}
use Rattle.std.proofs.Math.Path.{refl}
use Rattle.std.proofs.Common.{arith}
use Rattle.centering.specs.declared.Centering.{Centering}
use Rattle.layer_group.specs.Slots.{small-fits}
use Rattle.group_record.specs.Acceptance.{Bytes}
use Rattle.group_record.specs.Signs.{letter_byte}
use Rattle.group_record.specs.BothEditions.{edition_of}
use Rattle.record_writing.specs.Copying.{room_by, chosen_edition, copy_answer, copied_by, written_as}
use Rattle.group_record.specs.Reading.{refusal_number, order_by, record_order, record_letter, record_edition, read_of}
use Rattle.record_writing.specs.RoundTrips.{read-writable}
use Rattle.group_record.specs.declared.Edition.{Edition}
use Rattle.group_record.specs.declared.Edition.TheVariants.{First, Third}
use Rattle.group_record.specs.declared.Reading.{Reading}
use Rattle.group_record.specs.declared.Reading.TheVariants.{Accepted, Refused}
use Rattle.group_record.specs.declared.RecordGroup.{RecordGroup}
use Rattle.group_record.specs.declared.Refusal.{Refusal}
use Rattle.group_record.specs.declared.Refusal.TheVariants.{Short, WrongEdition, WrongLetter, WrongLength, WrongItem, NotAllowed}
use Rattle.answer_numbers.specs.Packing.{Told, near, Within, Low}
use Rattle.record_writing.specs.declared.Unwritten.TheVariants.{NoRoom}

-- 30 to 35, at 0;
pub record-told : (r : Refusal) → Told (refusal_number r) 0
record-told Short = near (omega arith) (omega arith) (omega arith)
record-told WrongEdition = near (omega arith) (omega arith) (omega arith)
record-told WrongLetter = near (omega arith) (omega arith) (omega arith)
record-told WrongLength = near (omega arith) (omega arith) (omega arith)
record-told WrongItem = near (omega arith) (omega arith) (omega arith)
record-told NotAllowed = near (omega arith) (omega arith) (omega arith)

-- and 20.
pub room-told : Told 20 0
room-told = near (omega arith) (omega arith) (omega arith)

-- A record that is read counts at most 48 operations.
pub record-count : (bytes : List ℕ) → Bytes bytes → (read_of bytes).answer ≡ Accepted → (read_of bytes).count ≤ 48
record-count bytes b e = (read-writable bytes (read_of bytes) b refl e).few

module _ (bytes : List ℕ) (b : Bytes bytes) where
  -- By what was read.
  order-by : (a : Reading) → (read_of bytes).answer ≡ a → Within Low (order_by a (read_of bytes).count)
  order-by Accepted e = let few = record-count bytes b e in omega arith
  order-by (Refused r) e = record-told r

  -- A record's order can be packed.
  pub order-within : Within Low (record_order (read_of bytes))
  order-within = order-by (read_of bytes).answer refl

  -- By what was read, and by the room for it in an edition.
  copy-by : (a : Reading) (edition : Edition) (start size : ℕ) → (read_of bytes).answer ≡ a
      → Within Low (copy_answer (copied_by a edition (read_of bytes).count start size))
  copy-by Accepted edition start size e = by-room (room_by edition start (read_of bytes).count size)
    where
      by-room : (r : Bool) → Within Low (copy_answer (cond r (Ok (read_of bytes).count) (Err NoRoom)))
      by-room true = let few = record-count bytes b e in omega arith
      by-room false = room-told
  copy-by (Refused r) edition start size e = record-told r

  -- So can the answer of a copy and of a move.
  pub copy_within : (moved : Bool) (out : List ℕ) (start : ℕ) → Within Low (copy_answer (written_as moved bytes out start))
  unfolding written_as
  copy_within moved out start = copy-by (read_of bytes).answer (chosen_edition moved (read_of bytes).edition) start (length out) refl

-- By what was read.
edition-by : (a : Reading) (edition : Edition) → Within Low (order_by a (edition_of edition).number)
edition-by Accepted First = omega arith
edition-by Accepted Third = omega arith
edition-by (Refused r) edition = record-told r

-- So can a record's edition.
pub edition-within : (g : RecordGroup) → Within Low (record_edition g)
edition-within g = edition-by g.answer g.edition

-- By what was read.
letter-by : (a : Reading) (layer : Bool) (c : Centering) → Within Low (order_by a (letter_byte layer c))
letter-by Accepted true c = omega (arith, small-fits c)
letter-by Accepted false c = omega (arith, small-fits c)
letter-by (Refused r) layer c = record-told r

-- So can a record's letter.
pub letter-within : (g : RecordGroup) → Within Low (record_letter g)
letter-within g = letter-by g.answer g.layer g.centering
