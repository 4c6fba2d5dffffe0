-- The items of a magnetic record as numbers, by which products are made: each number says its item's operation and flag, so what is found of the product of
-- two numbers is what the test of 35 asks of the two items.
use Rattle.std.specs.Prelude.{◌≡◌, refl, List, ℕ, ◌+◌, ◌%◌, ◌<◌, ◌≤◌, length, get_or, set, None, Option, Some}
use Rattle.std.proofs.Common.{◌∙◌, ap, arith, lt-ltb, get_or-set_same, get_or-set_other}
use Rattle.std.proofs.Math.Decide.{ℕ_discrete}
use Rattle.operation.specs.Code.{rotation-digits}
use Rattle.operation.specs.Meaning.{Digits, rotation≡}
use Rattle.operation.specs.Product.{product_of}
use Rattle.operation.specs.declared.Operation.{Operation}
use Rattle.packed_operation.specs.Number.{said_by, flag_of, packed_of, narrowed, numbered}
use Rattle.packed_operation.specs.RoundTrip.{number-says, flag-said}
use Rattle.space_group.specs.NumberGrowth.{narrowed-narrow, narrowed-short}
use Rattle.centering.specs.Keeps.{keeps_of}
use Rattle.centering.specs.declared.Centering.{Centering}
use Rattle.group_record.specs.OperationItems.{operation_of_item, InRange}
use Rattle.group_record.specs.declared.items.Item.{Item}
use Rattle.group_record.specs.Reading.{product_listed, pair_listed, keeps_item}
use Rattle.magnetic_record.specs.SecondEdition.{MagneticItem}
use Rattle.magnetic_record.specs.Reading.{half, flagged_pair_listed}
use Rattle.magnetic_record_reading.specs.Search.{item_at}

-- A number says an item's operation and flag.
abbrev pub Says : MagneticItem → ℕ → Type 0
Says i number = (said_by number ≡ operation_of_item i.plain) × (flag_of number ≡ i.flag)

-- The first numbers are those of the items at the same places.
abbrev pub Packed : ℕ → List ℕ → List ℕ → Type 0
Packed n bytes numbers = (i : ℕ) → i < n → Says (item_at bytes i) (get_or numbers i 0)

-- ---- a number
narrowed-same : (o : Operation) → Digits o.rotation → (o.translation.x < 12) × (o.translation.y < 12) × (o.translation.z < 12) → narrowed o ≡ o
narrowed-same o d h =
    let rotation =
    rotation≡ {r = (narrowed o).rotation} {s = o.rotation} (kept _ d.xx) (kept _ d.xy) (kept _ d.xz) (kept _ d.yx) (kept _ d.yy) (kept _ d.yz)
    (kept _ d.zx) (kept _ d.zy) (kept _ d.zz) in
    λ i. record { rotation = rotation i; translation = record { x = short _ h.0 i; y = short _ h.1 i; z = short _ h.2 i } }
  where
    kept : (a : ℕ) → a ≤ 2 → a % 4 ≡ a
    kept a h = omega arith

    short : (a : ℕ) → a < 12 → a % 16 ≡ a
    short a h = omega arith

item-digits : (i : Item) → i.code < 19683 → Digits (operation_of_item i).rotation
unfolding operation_of_item
item-digits i h = rw (lt-ltb i.code 19683 h) (rotation-digits i.code)

-- The number that is made of an item that fits says it.
pub item-said : (i : MagneticItem) → InRange i.plain → i.flag ≤ 1 → (number : ℕ)
    → number ≡ packed_of (narrowed (operation_of_item i.plain)) (i.flag % 2) → Says i number
unfolding operation_of_item
item-said i (code, triple) small number e =
    let o = operation_of_item i.plain in
    let bit : i.flag % 2 ≤ 1 = omega arith in
    let flag : i.flag % 2 ≡ i.flag = omega arith in (
      ap said_by e ∙ number-says (narrowed o) (i.flag % 2) (narrowed-narrow o) (narrowed-short o) ∙ narrowed-same o (item-digits i.plain code) triple,
      ap flag_of e ∙ flag-said (narrowed o) (i.flag % 2) (narrowed-narrow o) (narrowed-short o) bit ∙ flag,
    )

-- One more.
pub packed-next : (bytes numbers : List ℕ) (i number : ℕ) → i < length numbers → Packed i bytes numbers → Says (item_at bytes i) number
    → Packed (i + 1) bytes (set numbers i number)
packed-next bytes numbers i number inside before said j h = elim (ℕ_discrete j i) [
  | yes e ↦ rw (e, get_or-set_same numbers i number 0 inside) said
  | no e ↦ rw (get_or-set_other numbers i j number 0 e) (before j (omega arith))
]

-- ---- products
-- A product without a number is none.
pub no_number : (p : Option Operation) (flag : ℕ) → numbered p flag ≡ None → p ≡ None
unfolding numbered
no_number (Some o) flag e = let z : ◌≡◌ {A = ℕ} 0 1 = cc in absurd (omega arith)
no_number None flag e = refl

-- What is asked of a product of numbers is asked of the items,
pub pair-said : (c : Centering) (items : List MagneticItem) (i j : MagneticItem) (f g : ℕ) → Says i f → Says j g
    → product_listed c (half ((flag_of f + flag_of g) % 2) items) (product_of (said_by f) (said_by g)) ≡ flagged_pair_listed items c i j
unfolding flagged_pair_listed pair_listed
pair-said c items i j f g (p, q) (r, s) = rw (p, q, r, s)

-- and of the rotation that a number says.
pub keeps-said : (c : Centering) (i : MagneticItem) (f : ℕ) → Says i f → keeps_of c (said_by f).rotation ≡ keeps_item c i.plain
unfolding keeps_item
keeps-said c i f (p, q) = ap (λ (o : Operation). keeps_of c o.rotation) p
