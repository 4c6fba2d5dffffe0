-- What is compared of a record: the byte of its letter, its lattice, and the items of its operations. The one place that says how a record is read here:
-- edition 1, the record that ends where its buffer ends.
use Rattle.std.specs.Prelude.{List, map, ℕ, take}
use Rattle.operation.specs.declared.Operation.{Operation}
use Rattle.centering.specs.declared.Centering.{Centering}
use Rattle.group_record.specs.Editions.{from_end}
use Rattle.group_record.specs.OperationItems.{item_of}
use Rattle.group_record.specs.declared.items.Item.{Item}
use Rattle.group_record.specs.Reading.{read_first_of}
use Rattle.group_record.specs.declared.Reading.{Reading}

pub record Sheet : Type 0 where
  pub letter : ℕ
  pub lattice : Centering
  pub items : List Item

-- Whether a record is read, or why not.
unfoldable pub reading_of : List ℕ → Reading
reading_of bytes = (read_first_of bytes).answer

-- The operations that it lists.
unfoldable pub operations_in : List ℕ → List Operation
operations_in bytes = take (read_first_of bytes).count (read_first_of bytes).operations

-- The letter is the first byte of the trailer, five from the end.
unfoldable pub sheet_of : List ℕ → Sheet
sheet_of bytes = record { letter = from_end bytes 5; lattice = (read_first_of bytes).centering; items = map item_of (operations_in bytes) }
