-- What a record says of one operation, in any edition: the code of its rotation, and a translation; and the operation that such an item stands for.
use Rattle.std.specs.Prelude.{◌≡◌, ◌<◌, None, Option, Some}
use Rattle.operation.specs.Code.{code_of, decoded_of}
use Rattle.operation.specs.Product.{identity_operation}
use Rattle.operation.specs.declared.Operation.{Operation}
use Rattle.operation.specs.declared.Rotation.{Rotation}
pub use Rattle.group_record.specs.declared.items.Item.{Item}

-- Items are equal where their parts are.
pub item≡ : {i j : Item} → i.code ≡ j.code → i.translation ≡ j.translation → i ≡ j
item≡ p q = λ k. record { code = p k; translation = q k }

-- The item of an operation.
abbrev pub item_of : Operation → Item
item_of f = record { code = code_of f.rotation; translation = f.translation }

-- The rotation of a code; a code over 19682 has none, and gives the identity.
abbrev pub rotation_of_decoded : Option Rotation → Rotation
rotation_of_decoded (Some r) = r
rotation_of_decoded None = identity_operation.rotation

-- The operation that an item stands for.
unfoldable pub operation_of_item : Item → Operation
operation_of_item i = record { rotation = rotation_of_decoded (decoded_of i.code); translation = i.translation }

-- A code at most 19682, and coordinates at most 11: what every edition can say.
abbrev pub InRange : Item → Type 0
InRange i = (i.code < 19683) × ((i.translation.x < 12) × (i.translation.y < 12) × (i.translation.z < 12))
