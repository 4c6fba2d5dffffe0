-- What is answered for the record of a magnetic symbol, and for a buffer that ends with one, can be packed: it holds at most 96 operations, and its refusals
-- are those of the symbol, or are at 0.
use Rattle.std.specs.Prelude.{◌≡◌, Bool, true, false, cond, List, ℕ, length, Err, Ok, Result}
use Rattle.std.proofs.Math.Path.{refl}
use Rattle.std.proofs.Common.{arith}
use Rattle.std.proofs.lemmas.List.{length-map}
use Rattle.centering.specs.declared.Centering.{Centering}
use Rattle.record_writing.specs.Copying.{copy_answer}
use Rattle.group_record.specs.Editions.{total_length}
use Rattle.group_record.specs.Items.{Bytes}
use Rattle.record_writing.specs.Places.{room_from}
use Rattle.group_record.specs.Rules.{Told as ToldBy, holds, told_by}
use Rattle.group_record.specs.Rules.{refused as not-held}
use Rattle.record_writing.specs.SymbolRecords.{symbol_record_answer}
use Rattle.magnetic_group.specs.Generated.{group, refused}
use Rattle.magnetic_group.specs.Symbols.{SymbolOutcome, made, misread, magnetic_outcome}
use Rattle.magnetic_record.specs.Answers.{reading_by, reading_of, magnetic_order_answer, magnetic_letter_answer}
use Rattle.magnetic_record.specs.Copying.{copied_by, magnetic_copied_of}
use Rattle.magnetic_record.specs.Groups.{flagged_motion}
use Rattle.magnetic_record.specs.Reading.{magnetic_rules}
use Rattle.magnetic_record.specs.RoundTrips.{magnetic-written-again}
use Rattle.magnetic_record.specs.SecondEdition.{MagneticItem}
use Rattle.magnetic_record.specs.TextRecords.{written_by, magnetic_record_of}
use Rattle.magnetic_numbers.specs.MagneticBounds.{few, refused-told, misread-told}
use Rattle.answer_numbers.specs.Packing.{Within, Low, letters}
use Rattle.record_numbers.specs.RecordBounds.{record-told, room-told}
use Rattle.record_writing.specs.declared.Unwritten.TheVariants.{NoRoom}
use Rattle.record_writing.specs.declared.Unwritten.TheVariants as Copy
use Rattle.group_record.specs.declared.Refusal.{Refusal}

-- ---- written
record-by : (text : List ℕ) (start size : ℕ) (o : SymbolOutcome) → magnetic_outcome text ≡ o → Within Low (symbol_record_answer (written_by o start size))
record-by text start size (made c (group listed steps)) e = by-room (room_from start (total_length 6 (length listed)) size)
  where
    by-room : (b : Bool) → Within Low (symbol_record_answer (cond b (Ok (length listed)) (Err NoRoom)))
    by-room true = omega (arith, few text c listed steps e)
    by-room false = room-told
record-by text start size (made c (refused r)) e = refused-told text c r e
record-by text start size (misread r) e = misread-told text r e

-- The answer of a magnetic symbol's record can be packed.
pub record-within : (text out : List ℕ) (start : ℕ) → Within Low (symbol_record_answer (magnetic_record_of text out start))
unfolding magnetic_record_of
record-within text out start = record-by text start (length out) (magnetic_outcome text) refl

-- ---- read
module _ (bytes : List ℕ) (b : Bytes bytes) where
  order-by : (t : ToldBy MagneticItem Centering (Unit {0})) → told_by magnetic_rules bytes ≡ t → Within Low (magnetic_order_answer (reading_by t))
  order-by (holds k c items) e =
      let count = (magnetic-written-again bytes b c items e).allowed.count in
      omega (arith, count.1, length-map items flagged_motion)
  order-by (not-held why) e = record-told why

  -- So can the order of a magnetic record,
  pub order-within : Within Low (magnetic_order_answer (reading_of bytes))
  order-within = order-by (told_by magnetic_rules bytes) refl

  copy-by : (t : ToldBy MagneticItem Centering (Unit {0})) → told_by magnetic_rules bytes ≡ t → (start size : ℕ)
      → Within Low (copy_answer (copied_by t start size))
  copy-by (holds k c items) e start size = by-room (room_from start (total_length 6 (length items)) size)
    where
      by-room : (r : Bool) → Within Low (copy_answer (cond r (Ok (length items)) (Err Copy.NoRoom)))
      by-room true = order-by (holds k c items) e
      by-room false = room-told
  copy-by (not-held why) e start size = record-told why

  -- the answer of a copy,
  pub copy_within : (out : List ℕ) (start : ℕ) → Within Low (copy_answer (magnetic_copied_of bytes out start))
  unfolding magnetic_copied_of
  copy_within out start = copy-by (told_by magnetic_rules bytes) refl start (length out)

-- and its letter.
pub letter-within : (a : Result (Centering × ℕ) Refusal) → Within Low (magnetic_letter_answer a)
letter-within (Ok (c, n)) = letters.low c tt
letter-within (Err why) = record-told why
