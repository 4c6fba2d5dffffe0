-- The record of a magnetic symbol's text, written from a stated place of a lent buffer: what is answered, and what the buffer holds afterwards.
use Rattle.std.specs.Prelude.{cond, List, [], ℕ, length, Err, Ok, Result}
use Rattle.symbol_group.specs.declared.refusal.Refusal.TheVariants.{Text, Group as NoGroup}
use Rattle.magnetic_group.specs.Generated.{group, refused}
use Rattle.magnetic_group.specs.Symbols.{SymbolOutcome, made, misread, magnetic_outcome}
use Rattle.group_record.specs.Editions.{total_length}
use Rattle.record_writing.specs.Places.{room_from, placed_in}
use Rattle.magnetic_record.specs.SecondEdition.{second_edition}
use Rattle.magnetic_record.specs.Record.{magnetic_record}
use Rattle.record_writing.specs.declared.Unwritten.TheVariants.{NoRoom, Refused as NotWritten}
use Rattle.record_writing.specs.declared.Unwritten.{Unwritten}
use Rattle.symbol_group.specs.declared.refusal.Refusal.{Refusal}

-- The record of an accepted text.
abbrev pub record_by : SymbolOutcome → List ℕ
record_by (made c (group operations steps)) = magnetic_record c operations
record_by (made c (refused r)) = []
record_by (misread r) = []

unfoldable pub magnetic_text_record : List ℕ → List ℕ
magnetic_text_record text = record_by (magnetic_outcome text)

-- The symbol's refusal goes first; then there is room for its record, or 20.
abbrev pub written_by : SymbolOutcome → ℕ → ℕ → Result ℕ (Unwritten Refusal)
written_by (made c (group operations steps)) start size =
    cond (room_from start (total_length second_edition.width (length operations)) size) (Ok (length operations)) (Err NoRoom)
written_by (made c (refused r)) start size = Err (NotWritten (NoGroup r))
written_by (misread r) start size = Err (NotWritten (Text r))

-- What is answered for a text.
unfoldable pub magnetic_record_of : List ℕ → List ℕ → ℕ → Result ℕ (Unwritten Refusal)
magnetic_record_of text out start = written_by (magnetic_outcome text) start (length out)

-- A symbol's refusal touches nothing.
abbrev pub placed_by : SymbolOutcome → List ℕ → ℕ → List ℕ
placed_by (made c (group operations steps)) out start = placed_in out start (magnetic_record c operations)
placed_by (made c (refused r)) out start = out
placed_by (misread r) out start = out

-- What the lent buffer holds afterwards.
unfoldable pub magnetic_buffer_of : List ℕ → List ℕ → ℕ → List ℕ
magnetic_buffer_of text out start = placed_by (magnetic_outcome text) out start
