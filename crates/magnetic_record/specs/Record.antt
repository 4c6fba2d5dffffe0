-- The record of a magnetic group, of its flagged operations in any order and with any translations modulo L: each by its item in edition 2, ascending by code
-- and then by flag, each translation the smallest of its class; then the trailer.
use Rattle.std.specs.Prelude.{Bool, List, map, ℕ, ltb}
use Rattle.laws.specs.Sorted.{sort}
use Rattle.group_growth.specs.Flagged.{Flagged, image_flagged}
use Rattle.operation.specs.declared.Operation.{Operation}
use Rattle.centering.specs.Letters.{byte_of}
use Rattle.centering.specs.declared.Centering.{Centering}
use Rattle.group_record.specs.Editions.{framed}
use Rattle.group_record.specs.OperationItems.{item_of}
use Rattle.group_record.specs.Record.{smallest_operation}
use Rattle.magnetic_record.specs.SecondEdition.{MagneticItem, magnetic_key, second_edition}
use Rattle.magnetic_record.specs.Halves.{flag_number}

-- The item of a flagged operation.
abbrev pub magnetic_item : Flagged Operation → MagneticItem
magnetic_item f = record { plain = item_of f.element; flag = flag_number f.flag }

-- Its item with the smallest triple of its translation's class.
abbrev pub smallest_item : Centering → Flagged Operation → MagneticItem
smallest_item c f = magnetic_item (image_flagged (smallest_operation c) f)

abbrev pub key_before : MagneticItem → MagneticItem → Bool
key_before i j = ltb (magnetic_key i) (magnetic_key j)

-- The items in the form in which a record lists them.
unfoldable pub magnetic_form : Centering → List (Flagged Operation) → List MagneticItem
magnetic_form c l = sort key_before (map (smallest_item c) l)

-- The bytes of the record.
unfoldable pub magnetic_record : Centering → List (Flagged Operation) → List ℕ
magnetic_record c l = framed second_edition (byte_of c) (magnetic_form c l)
