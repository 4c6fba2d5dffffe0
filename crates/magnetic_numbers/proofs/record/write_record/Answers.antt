-- The answer, packed, and the lent buffer as it was left.
use Rattle.record_writing.specs.SymbolRecords.{symbol_record_answer}
use Rattle.answer_numbers.specs.Packing.{told-as}
use Rattle.magnetic_numbers.specs.MagneticRecordBounds.{record-within}
use Rattle.magnetic_numbers.proofs.record.write_record.Goals as goal

pub returns : goal.returns
returns c =
    (told-as symbol_record_answer c.written.ensures c.write_record.ensures.0 (record-within _ _ _), c.write_record.ensures.1)
