-- An edition of the record: its number, how many bytes an item takes, how it is written into them and read from them, and by which key items ascend.
-- And the bytes of items with their trailer behind them, for any edition and any kind of item.
use Rattle.std.specs.Prelude.{◌≡◌, ℕ, ◌+◌, ◌*◌, ◌-◌, ◌/◌, ◌%◌, ◌≤◌, length, get_or, take}
use Rattle.std.proofs.Math.Path.{refl}
use Rattle.std.proofs.Common.{sym, ◌∙◌, ap, ap₂, arith, length-append, get_or-append-add}
use mathlib.Core.List.{List, [], ◌∷◌, ◌++◌, Memᴰ as Mem}
use Rattle.group_record.specs.Items.{Bytes, items_in, bytes_of, bytes-length, read-written}

pub record Edition (Item : Type 0) : Type 1 where
  pub number : ℕ
  pub width : ℕ
  pub write : Item → List ℕ
  pub read : List ℕ → Item
  -- Which items the bytes can say.
  pub Fits : Item → Type 0
  pub key : Item → ℕ
  -- An item takes its width;
  pub wide : (i : Item) → length (write i) ≡ width
  -- what was written is read, whatever follows it;
  pub again : (i : Item) (more : List ℕ) → Fits i → read (write i ++ more) ≡ i
  -- what was read is written as the bytes it was read from.
  pub back : (bytes : List ℕ) → Bytes bytes → width ≤ length bytes → Fits (read bytes) → write (read bytes) ≡ take width bytes

-- ---- the trailer
-- How long a record of n items is, its trailer included.
abbrev pub total_length : ℕ → ℕ → ℕ
total_length width n = width * n + 5

-- The last five bytes: letter, edition, count, total length (high byte first).
abbrev pub last_five : ℕ → ℕ → ℕ → ℕ → ℕ → List ℕ
last_five letter edition n high low = letter ∷ edition ∷ n ∷ high ∷ low ∷ []

-- Those of n items.
abbrev pub trailer_bytes : ℕ → ℕ → ℕ → ℕ → List ℕ
trailer_bytes width number letter n = last_five letter number n (total_length width n / 256) (total_length width n % 256)

-- The byte that stands k places before the end.
unfoldable pub from_end : List ℕ → ℕ → ℕ
from_end bytes k = get_or bytes (length bytes - k) 0

-- That byte of a list that ends with the rest.
pub from_end_lem : (front rest : List ℕ) (k j : ℕ) → length rest ≡ j + k → 1 ≤ k → from_end (front ++ rest) k ≡ get_or rest j 0
unfolding from_end
from_end_lem front rest k j h one =
    let place : length (front ++ rest) - k ≡ length front + j = omega (arith, length-append front rest) in
    ap (λ (i : ℕ). get_or (front ++ rest) i 0) place ∙ get_or-append-add front rest j 0

-- ---- items and their trailer
module _ {Item : Type 0} (E : Edition Item) where
  -- The bytes of items under a letter's byte.
  unfoldable pub framed : ℕ → List Item → List ℕ
  framed letter items = bytes_of E.write items ++ trailer_bytes E.width E.number letter (length items)

  -- Each item can be said.
  abbrev pub AllFit : List Item → Type 0
  AllFit items = (i : Item) → Mem i items → E.Fits i

  -- They take so many bytes,
  pub framed-length : (letter : ℕ) (items : List Item) → length (framed letter items) ≡ total_length E.width (length items)
  unfolding framed
  framed-length letter items = rw (length-append, bytes-length E.width E.write E.wide items) refl

  -- and say how many there are,
  pub framed-count : (letter : ℕ) (items : List Item) → from_end (framed letter items) 3 ≡ length items
  unfolding framed
  framed-count letter items = from_end_lem (bytes_of E.write items) (trailer_bytes E.width E.number letter (length items)) 3 2 refl (omega arith)

  -- the letter's byte,
  pub framed-letter : (letter : ℕ) (items : List Item) → from_end (framed letter items) 5 ≡ letter
  unfolding framed
  framed-letter letter items = from_end_lem (bytes_of E.write items) (trailer_bytes E.width E.number letter (length items)) 5 0 refl (omega arith)

  -- and the items.
  pub framed-items : (letter : ℕ) (items : List Item) → AllFit items → items_in E.width E.read (length items) (framed letter items) ≡ items
  unfolding framed
  framed-items letter items fit =
      read-written E.width E.write E.wide E.read items (trailer_bytes E.width E.number letter (length items))
      (λ i more m. E.again i more (fit i m))

  -- So equal bytes have one letter's byte and the same items.
  pub framed-injective : (a b : ℕ) (l k : List Item) → AllFit l → AllFit k → framed a l ≡ framed b k → (a ≡ b) × (l ≡ k)
  framed-injective a b l k p q e = (
    sym (framed-letter a l) ∙ ap (λ (bytes : List ℕ). from_end bytes 5) e ∙ framed-letter b k,
    sym (framed-items a l p) ∙ ap₂ (λ (n : ℕ) (bytes : List ℕ). items_in E.width E.read n bytes) same e ∙ framed-items b k q,
  )
    where
      same : length l ≡ length k
      same = sym (framed-count a l) ∙ ap (λ (bytes : List ℕ). from_end bytes 3) e ∙ framed-count b k
