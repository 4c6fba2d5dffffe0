-- The bytes of a record: each operation by its item, ascending by code, each translation the smallest of its class; then the trailer.
-- In any edition and under any letter's byte; the record of a symbol is edition 1 under its lattice's letter.
use Rattle.std.specs.Prelude.{Bool, List, ◌++◌, map, ℕ, ltb, length}
use Rattle.laws.specs.Sorted.{sort}
use Rattle.operation.specs.Code.{code_of}
use Rattle.operation.specs.declared.Operation.{Operation}
use Rattle.centering.specs.Letters.{byte_of}
use Rattle.centering.specs.Lattices.{smallest_of}
use Rattle.centering.specs.declared.Centering.{Centering}
use Rattle.group_record.specs.Items.{bytes_of}
pub use Rattle.group_record.specs.Editions.{total_length}
use Rattle.group_record.specs.Editions.{Edition, trailer_bytes}
pub use Rattle.group_record.specs.OperationItems.{Item, item≡, item_of}
unfoldable pub use Rattle.group_record.specs.FirstEdition.{item_width, edition_number, item_bytes}
use Rattle.group_record.specs.FirstEdition.{first_edition}
use Rattle.group_record.specs.BothEditions.{edition_of}
use Rattle.group_record.specs.Signs.{lattice_of, sign_byte}
use Rattle.group_record.specs.declared.Edition.{Edition as Known}
use Rattle.group_record.specs.declared.sign.Sign.{Sign}

-- ---- the bytes
-- The bytes of operations as they stand, and of the trailer after them.
unfoldable pub written_in : Edition Item → ℕ → List Operation → List ℕ
written_in E letter l = bytes_of (λ f. E.write (item_of f)) l ++ trailer_bytes E.width E.number letter (length l)

-- ---- the operations
-- An operation with the smallest triple of its translation's class.
unfoldable pub smallest_operation : Centering → Operation → Operation
smallest_operation c f = record { rotation = f.rotation; translation = smallest_of c f.translation }

-- Operations ascend by code.
abbrev pub before_by_code : Operation → Operation → Bool
before_by_code f g = ltb (code_of f.rotation) (code_of g.rotation)

-- Operations in the form in which a record lists them.
unfoldable pub listed_form : Centering → List Operation → List Operation
listed_form c l = sort before_by_code (map (smallest_operation c) l)

-- ---- the record
-- The record of a group: of its operations in any order, with any translations modulo L.
unfoldable pub record_in : Edition Item → ℕ → Centering → List Operation → List ℕ
record_in E letter c l = written_in E letter (listed_form c l)

-- In an edition that is read and written, under any letter of a record;
unfoldable pub signed_record : Known → Sign → List Operation → List ℕ
signed_record k s l = record_in (edition_of k) (sign_byte s) (lattice_of s) l

-- under its lattice's letter.
unfoldable pub record_by : Known → Centering → List Operation → List ℕ
record_by k c l = record_in (edition_of k) (byte_of c) c l

-- In edition 1.
unfoldable pub record_of : Centering → List Operation → List ℕ
record_of c l = record_in first_edition (byte_of c) c l
