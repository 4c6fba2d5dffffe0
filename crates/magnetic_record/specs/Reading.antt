-- How a buffer is read as the record of a magnetic group: edition 2 alone, the letters of the lattices, 1 to 96 operations; which items a record may have
-- (34), and which of them together (35).
use Rattle.std.specs.Prelude.{Bool, cond, ◌&&◌, List, [], ◌∷◌, refl, ℕ, ◌+◌, ◌%◌, eqb, leb}
use Rattle.laws.specs.Distinct.{has}
use Rattle.laws.specs.Truth.{all}
use Rattle.operation.specs.Product.{identity_operation}
use Rattle.centering.specs.Letters.{byte_of}
use Rattle.centering.specs.declared.Centering.{Centering}
use Rattle.group_record.specs.OperationItems.{item_of}
use Rattle.group_record.specs.declared.items.Item.{Item}
use Rattle.group_record.specs.Reading.{is_item, alike_items, pair_listed, keeps_item, one_number, one_number_lem}
use Rattle.group_record.specs.Signs.{lattice_letters}
use Rattle.group_record.specs.Rules.{Rules}
use Rattle.magnetic_record.specs.SecondEdition.{MagneticItem, second_edition}

-- ---- items
-- Refusal 34 is given unless the first five bytes are an item as in edition 1 and the flag is at most 1; and where code and flag do not ascend.
unfoldable pub is_magnetic_item : Centering → MagneticItem → Bool
is_magnetic_item c i = is_item c i.plain && leb i.flag 1

-- ---- the group
-- The items that have a flag, without it.
unfoldable pub half : ℕ → List MagneticItem → List Item
half flag [] = []
half flag (i ∷ items) = cond (eqb i.flag flag) (i.plain ∷ half flag items) (half flag items)

-- The flag of a product: exclusive or.
abbrev pub product_flag : ℕ → ℕ → ℕ
product_flag a b = (a + b) % 2

-- The product of two items is listed modulo L, with its flag.
unfoldable pub flagged_pair_listed : List MagneticItem → Centering → MagneticItem → MagneticItem → Bool
flagged_pair_listed items c i j = pair_listed c (half (product_flag i.flag j.flag) items) i.plain j.plain

-- The rotation maps L onto L, and every product with this left factor is listed.
unfoldable pub flagged_member : Centering → List MagneticItem → MagneticItem → Bool
flagged_member c items i = keeps_item c i.plain && all (flagged_pair_listed items c i) items

-- Refusal 35 is given unless the identity is listed without the flag and each member is so. Triples being the smallest of their classes here, the
-- identity's is (0,0,0).
unfoldable pub is_magnetic_group : Centering → List MagneticItem → Bool
is_magnetic_group c items = has (alike_items c) (item_of identity_operation) (half 0 items) && all (flagged_member c items) items

-- ---- the reading
abbrev pub magnetic_rules : Rules MagneticItem Centering (Unit {0})
magnetic_rules =
    record {
      least = 10;
      edition = λ k. second_edition;
      editions = record { from = one_number 2; there = λ k. refl; back = one_number_lem 2 };
      byte = byte_of;
      letters = lattice_letters;
      limit = 96;
      is_item = is_magnetic_item;
      is_allowed = is_magnetic_group;
    }
