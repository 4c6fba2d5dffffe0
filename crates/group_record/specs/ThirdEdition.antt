-- Edition 3 of the record: four bytes an operation, which are one number, high byte first: the code, and the rank of the triple among the 1728 below 12.
use Rattle.std.specs.Prelude.{◌≡◌, refl, ◌⊎◌, ◌↔◌, ℕ, ◌+◌, ◌*◌, ◌/◌, ◌%◌, ◌<◌, ◌≤◌, length, get_or, take, drop}
use Rattle.std.proofs.Common.{◌∙◌, ap, ap₂, inl, inr, arith, get_or-drop}
use mathlib.Core.List.Memᴰ.{head as here}
use mathlib.Core.List.Memᴰ.{tail as there}
use mathlib.Core.List.{List, [], ◌∷◌, ◌++◌, Memᴰ as Mem}
use Rattle.std.proofs.Math.Decide.{dec_lt}
use Rattle.laws.specs.Residue.{Triple}
use Rattle.laws.specs.Lattice.{rank, unrank, Before, before-rank, rank_lt, unrank-rank}
use Rattle.laws.specs.Sorted.{Sorted, sorted-nil, sorted-cons}
use Rattle.centering.specs.Lattices.{triple_of, translation_of}
use Rattle.group_record.specs.Items.{Bytes}
use Rattle.group_record.specs.Editions.{Edition}
use Rattle.group_record.specs.OperationItems.{Item, item≡, InRange}

-- The number of an item.
unfoldable pub number_of_item : Item → ℕ
number_of_item i = i.code * 1728 + rank (triple_of i.translation)

-- The item of a number.
unfoldable pub item_of_number : ℕ → Item
item_of_number n = record { code = n / 1728; translation = translation_of (unrank (n % 1728)) }

-- A number as four bytes, high byte first.
unfoldable pub four_bytes : ℕ → List ℕ
four_bytes n = n / 256 / 256 / 256 ∷ n / 256 / 256 % 256 ∷ n / 256 % 256 ∷ n % 256 ∷ []

-- The number that the first four bytes say.
unfoldable pub four_byte_number : List ℕ → ℕ
four_byte_number bytes = (get_or bytes 0 0 * 256 + get_or bytes 1 0) * 65536 + (get_or bytes 2 0 * 256 + get_or bytes 3 0)

-- So the bytes from a place on say it, each by its own place.
pub third-item-bytes : (bytes : List ℕ) (at : ℕ)
    → four_byte_number (drop at bytes) ≡ (get_or bytes at 0 * 256 + get_or bytes (at + 1) 0) * 65536 + (get_or bytes (at + 2) 0 * 256 + get_or bytes (at + 3) 0)
unfolding four_byte_number
third-item-bytes bytes at =
    let first : at + 0 ≡ at = omega arith in
    rw (get_or-drop at bytes 0 0, get_or-drop at bytes 1 0, get_or-drop at bytes 2 0, get_or-drop at bytes 3 0, first)

-- The bytes of an item, and the item of the first four bytes.
unfoldable pub numbered_bytes : Item → List ℕ
numbered_bytes i = four_bytes (number_of_item i)

unfoldable pub numbered_item_in : List ℕ → Item
numbered_item_in bytes = item_of_number (four_byte_number bytes)

-- ---- there and back
pub four-bytes-again : (n : ℕ) (more : List ℕ) → four_byte_number (four_bytes n ++ more) ≡ n
unfolding four_bytes four_byte_number
four-bytes-again n more = omega arith

rank-again : (n : ℕ) → n < 1728 → rank (triple_of (translation_of (unrank n))) ≡ n
unfolding rank unrank
rank-again n h = omega arith

pub number-again : (n : ℕ) → number_of_item (item_of_number n) ≡ n
unfolding number_of_item item_of_number
number-again n = let low = rank-again (n % 1728) (omega arith) in omega (arith, low)

pub item-of-number : (i : Item) → InRange i → item_of_number (number_of_item i) ≡ i
unfolding number_of_item item_of_number
item-of-number i h =
    let r = rank (triple_of i.translation) in
    let small : r < 1728 = rank_lt (triple_of i.translation) h.1 in
    let low : (i.code * 1728 + r) % 1728 ≡ r = omega arith in
    item≡ (omega arith) (ap (λ (n : ℕ). translation_of (unrank n)) low ∙ ap translation_of (unrank-rank (triple_of i.translation) h.1))

-- An item takes four bytes,
pub numbered-wide : (i : Item) → length (numbered_bytes i) ≡ 4
unfolding numbered_bytes four_bytes
numbered-wide i = refl

-- which say the item;
pub numbered-again : (i : Item) (more : List ℕ) → InRange i → numbered_item_in (numbered_bytes i ++ more) ≡ i
unfolding numbered_bytes numbered_item_in
numbered-again i more h = ap item_of_number (four-bytes-again (number_of_item i) more) ∙ item-of-number i h

-- bytes that were read as a number are written as they were.
four-written : (b : List ℕ) → Bytes b → 4 ≤ length b → four_bytes (four_byte_number b) ≡ take 4 b
unfolding four_bytes four_byte_number
four-written [] g h = absurd (omega arith)
four-written (p ∷ []) g h = absurd (omega arith)
four-written (p ∷ q ∷ []) g h = absurd (omega arith)
four-written (p ∷ q ∷ r ∷ []) g h = absurd (omega arith)
four-written (p ∷ q ∷ r ∷ s ∷ b) g h =
    let small-q : q < 256 = g 1 in
    let small_r : r < 256 = g 2 in
    let small-s : s < 256 = g 3 in
    let n = (p * 256 + q) * 65536 + (r * 256 + s) in
    let first : n / 256 / 256 / 256 ≡ p = omega arith in
    let second : n / 256 / 256 % 256 ≡ q = omega arith in
    let third : n / 256 % 256 ≡ r = omega arith in
    let fourth : n % 256 ≡ s = omega arith in
    ap₂ (λ (a e : ℕ). a ∷ e ∷ n / 256 % 256 ∷ n % 256 ∷ []) first second ∙ ap₂ (λ (a e : ℕ). p ∷ q ∷ a ∷ e ∷ []) third fourth

pub numbered-written : (b : List ℕ) → Bytes b → 4 ≤ length b → numbered_bytes (numbered_item_in b) ≡ take 4 b
unfolding numbered_bytes numbered_item_in
numbered-written b g h = ap four_bytes (number-again (four_byte_number b)) ∙ four-written b g h

abbrev pub third_edition : Edition Item
third_edition =
    record {
      number = 3;
      width = 4;
      write = numbered_bytes;
      read = numbered_item_in;
      Fits = InRange;
      key = λ i. i.code;
      wide = numbered-wide;
      again = numbered-again;
      back = λ b g h f. numbered-written b g h;
    }

-- ---- the order of the numbers
-- Numbers are below 34,012,224 exactly for codes at most 19682.
pub number_bound : (n : ℕ) → (n < 34012224) ↔ ((item_of_number n).code < 19683)
unfolding item_of_number
number_bound n = ((λ h. omega arith), λ h. omega arith)

-- They compare as codes do, and for one code as triples do, x first.
pub number-order : (i j : Item) → InRange i → InRange j
    → (number_of_item i < number_of_item j) ↔ ((i.code < j.code) ⊎ ((i.code ≡ j.code) × Before (triple_of i.translation) (triple_of j.translation)))
unfolding number_of_item
number-order i j h k = (forth, back)
  where
    s : Triple
    s = triple_of i.translation

    t : Triple
    t = triple_of j.translation

    forth : i.code * 1728 + rank s < j.code * 1728 + rank t → (i.code < j.code) ⊎ ((i.code ≡ j.code) × Before s t)
    forth r =
        let small-s = rank_lt s h.1 in
        let small-t = rank_lt t k.1 in
        elim (dec_lt i.code j.code) [
          | yes p ↦ inl p
          | no p ↦ inr (omega arith, (before-rank s t h.1 k.1).1 (omega arith))
        ]

    back : (i.code < j.code) ⊎ ((i.code ≡ j.code) × Before s t) → i.code * 1728 + rank s < j.code * 1728 + rank t
    back (inl p) = let small-s = rank_lt s h.1 in omega arith
    back (inr (p, b)) = let less = (before-rank s t h.1 k.1).0 b in omega arith

abbrev pub CodesAscend : List Item → Type 0
CodesAscend items = Sorted (λ (i j : Item). i.code < j.code) items

abbrev pub NumbersAscend : List Item → Type 0
NumbersAscend items = Sorted (λ (i j : Item). number_of_item i < number_of_item j) items

abbrev pub CodesApart : List Item → Type 0
CodesApart items = Sorted (λ (i j : Item). ¬ (i.code ≡ j.code)) items

-- Where no code stands twice, numbers ascend exactly if codes do.
pub numbers-ascend : (items : List Item) → ((i : Item) → Mem i items → InRange i) → CodesAscend items ↔ (NumbersAscend items × CodesApart items)
numbers-ascend items ranged = (forth items ranged, λ (n, a). back items ranged n a)
  where
    forth : (l : List Item) → ((i : Item) → Mem i l → InRange i) → CodesAscend l → NumbersAscend l × CodesApart l
    forth [] r sorted-nil = (sorted-nil, sorted-nil)
    forth (x ∷ l) r (sorted-cons first s) =
        let (n, a) = forth l (λ i m. r i (there m)) s in (
          sorted-cons (λ y m. (number-order x y (r x (here refl)) (r y (there m))).1 (inl (first y m))) n,
          sorted-cons (λ y m (e : x.code ≡ y.code). let less = first y m in omega arith) a,
        )

    back : (l : List Item) → ((i : Item) → Mem i l → InRange i) → NumbersAscend l → CodesApart l → CodesAscend l
    back [] r sorted-nil sorted-nil = sorted-nil
    back (x ∷ l) r (sorted-cons first s) (sorted-cons apart a) =
        sorted-cons (λ y m. less x y ((number-order x y (r x (here refl)) (r y (there m))).0 (first y m)) (apart y m)) (back l (λ i m. r i (there m)) s a)
      where
        less : (i j : Item) → (i.code < j.code) ⊎ ((i.code ≡ j.code) × Before (triple_of i.translation) (triple_of j.translation))
            → ¬ (i.code ≡ j.code) → i.code < j.code
        less i j (inl p) never = p
        less i j (inr (p, b)) never = absurd (never p)
