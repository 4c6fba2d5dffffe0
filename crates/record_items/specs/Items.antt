-- The items of n operations in the bytes of a record: which they are, and what is said of one of them.
use Rattle.std.specs.Prelude.{◌≡◌, Bool, cond, List, map, ℕ, ◌+◌, ◌*◌, ◌<◌, ◌≤◌, leb, length, drop}
use Rattle.std.proofs.Common.{sym, ◌∙◌, ap, arith, le-leb}
use Rattle.operation.specs.Product.{identity_operation}
use Rattle.operation.specs.declared.Operation.{Operation}
use Rattle.centering.specs.Keeps.{keeps_of}
use Rattle.centering.specs.declared.Centering.{Centering}
use Rattle.group_record.specs.Items.{items_in, items-length, item-at}
use Rattle.group_record.specs.BothEditions.{edition_of, width_in, item-inside}
use Rattle.group_record.specs.Record.{item_of}
use Rattle.group_record.specs.Closing.{listed_at, listed-item}
use Rattle.group_record.specs.Reading.{operation_of_item, keeps_item}
use Rattle.group_record.specs.declared.Edition.{Edition as Known}
use Rattle.group_record.specs.declared.Edition.TheVariants.{First, Third}
use Rattle.group_record.specs.declared.items.Item.{Item}

-- The items of n operations, and the item at a place.
abbrev pub items_of : Known → ℕ → List ℕ → List Item
items_of edition n bytes = items_in (width_in edition) (edition_of edition).read n bytes

unfoldable pub item_at : Known → List ℕ → ℕ → Item
item_at edition bytes i = (edition_of edition).read (drop (width_in edition * i) bytes)

-- The operation of the item at a place; the identity where the bytes have no item there.
unfoldable pub operation_in : Known → List ℕ → ℕ → Operation
operation_in edition bytes i =
    cond (leb (width_in edition * i + width_in edition) (length bytes)) (operation_of_item (item_at edition bytes i)) identity_operation

-- It is what the item says where all of n items are there.
pub operation-there : (edition : Known) (n i : ℕ) (bytes : List ℕ) → i < n → width_in edition * n ≤ length bytes
    → operation_in edition bytes i ≡ operation_of_item (item_at edition bytes i)
unfolding operation_in
operation-there edition n i bytes h wide = rw (le-leb _ (length bytes) (item-inside edition i n (length bytes) h wide))

-- Where an item ends is no large number.
pub item-short : (edition : Known) (i : ℕ) → i < 256 → width_in edition * i + width_in edition ≤ 1280
item-short First i h = omega arith
item-short Third i h = omega arith

-- There are n items.
pub items-count : (edition : Known) (n : ℕ) (bytes : List ℕ) → length (items_of edition n bytes) ≡ n
items-count edition n bytes = items-length (width_in edition) (edition_of edition).read n bytes

-- What the code's answers say of an item.
pub kept-item : (c : Centering) (i : Item) (f : Operation) (b : Bool) → f ≡ operation_of_item i → b ≡ keeps_of c f.rotation → keeps_item c i ≡ b
unfolding keeps_item
kept-item c i f b e k = ap (λ (g : Operation). keeps_of c g.rotation) (sym e) ∙ sym k

-- The operations of n items.
abbrev pub operations_of : Known → ℕ → List ℕ → List Operation
operations_of edition n bytes = map operation_of_item (items_of edition n bytes)

-- The operation of an item of the bytes is the listed one at its index.
pub operation-listed : (edition : Known) (n : ℕ) (bytes : List ℕ) (i : ℕ) → i < n
    → operation_of_item (item_at edition bytes i) ≡ listed_at (operations_of edition n bytes) i
unfolding item_at
operation-listed edition n bytes i h =
    sym (listed-item (items_of edition n bytes) i
    ∙ ap operation_of_item (item-at (width_in edition) (edition_of edition).read n bytes i (item_of identity_operation) h))
