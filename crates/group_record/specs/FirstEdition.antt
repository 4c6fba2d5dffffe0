-- Edition 1 of the record: five bytes an operation, the code, high byte first, then x y z. Every item can be said in them.
use Rattle.std.specs.Prelude.{◌≡◌, refl, List, [], ◌∷◌, ◌++◌, ℕ, ◌+◌, ◌*◌, ◌/◌, ◌%◌, ◌<◌, ◌≤◌, length, get_or, take, drop}
use Rattle.std.proofs.Common.{ap₂, arith, get_or-drop}
use Rattle.group_record.specs.Items.{Bytes}
use Rattle.group_record.specs.Editions.{Edition}
use Rattle.group_record.specs.OperationItems.{Item, item≡}

abbrev pub item_width : ℕ
item_width = 5

abbrev pub edition_number : ℕ
edition_number = 1

-- The bytes of an item.
unfoldable pub item_bytes : Item → List ℕ
item_bytes i = i.code / 256 ∷ i.code % 256 ∷ i.translation.x ∷ i.translation.y ∷ i.translation.z ∷ []

-- The item of the first five bytes.
unfoldable pub item_in : List ℕ → Item
item_in bytes =
    record {
      code = get_or bytes 0 0 * 256 + get_or bytes 1 0;
      translation = record { x = get_or bytes 2 0; y = get_or bytes 3 0; z = get_or bytes 4 0 };
    }

-- So the bytes from a place on say it, each by its own place.
pub first-item-bytes : (bytes : List ℕ) (at : ℕ)
    → record {
      code = get_or bytes at 0 * 256 + get_or bytes (at + 1) 0;
      translation = record { x = get_or bytes (at + 2) 0; y = get_or bytes (at + 3) 0; z = get_or bytes (at + 4) 0 };
    }
    ≡ item_in (drop at bytes)
unfolding item_in
first-item-bytes bytes at =
    let first : at + 0 ≡ at = omega arith in
    rw (get_or-drop at bytes 0 0, get_or-drop at bytes 1 0, get_or-drop at bytes 2 0, get_or-drop at bytes 3 0, get_or-drop at bytes 4 0, first)

-- An item takes five bytes,
pub item-wide : (i : Item) → length (item_bytes i) ≡ item_width
unfolding item_bytes
item-wide i = refl

-- which say the item.
pub item-again : (i : Item) (more : List ℕ) → item_in (item_bytes i ++ more) ≡ i
unfolding item_in item_bytes
item-again i more = item≡ (omega arith) refl

-- Bytes that were read as an item are written as they were.
pub item-bytes-again : (b : List ℕ) → Bytes b → item_width ≤ length b → item_bytes (item_in b) ≡ take item_width b
unfolding item_bytes item_in
item-bytes-again [] g h = absurd (omega arith)
item-bytes-again (p ∷ []) g h = absurd (omega arith)
item-bytes-again (p ∷ q ∷ []) g h = absurd (omega arith)
item-bytes-again (p ∷ q ∷ r ∷ []) g h = absurd (omega arith)
item-bytes-again (p ∷ q ∷ r ∷ s ∷ []) g h = absurd (omega arith)
item-bytes-again (p ∷ q ∷ r ∷ s ∷ t ∷ b) g h =
    let small : q < 256 = g 1 in
    let high : (p * 256 + q) / 256 ≡ p = omega arith in
    let low : (p * 256 + q) % 256 ≡ q = omega arith in
    ap₂ (λ (a e : ℕ). a ∷ e ∷ r ∷ s ∷ t ∷ []) high low

abbrev pub first_edition : Edition Item
first_edition =
    record {
      number = edition_number;
      width = item_width;
      write = item_bytes;
      read = item_in;
      Fits = λ i. Unit {0};
      key = λ i. i.code;
      wide = item-wide;
      again = λ i more f. item-again i more;
      back = λ b g h f. item-bytes-again b g h;
    }
