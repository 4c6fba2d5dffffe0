-- The answer, packed, and the lent buffer as it was left.
use Rattle.record_writing.specs.SymbolRecords.{symbol_record_answer}
use Rattle.answer_numbers.specs.Packing.{told-as}
use Rattle.symbol_numbers.specs.SymbolBounds.{record-within}
use Rattle.symbol_numbers.proofs.symbol.write_record.Goals as goal

pub returns : goal.returns
returns c =
    (told-as symbol_record_answer c.written.ensures c.write_record.ensures.0 (record-within _ _ _), c.write_record.ensures.1)
