-- How a buffer is read, for any editions, letters and kind of item: the record that ends where the buffer ends, or the first refusal of 30 to 35 that applies.
use Rattle.std.specs.Prelude.{◌≡◌, Bool, cond, ◌&&◌, List, ℕ, ◌+◌, ◌*◌, ◌-◌, ltb, leb, eqb, length, drop}
use Rattle.std.proofs.Math.Option.{Option, none, some}
use Rattle.laws.specs.Sorted.{ascending}
use Rattle.laws.specs.Truth.{all}
use Rattle.group_record.specs.Items.{items_in}
use Rattle.group_record.specs.Editions.{Edition, total_length, from_end}
use Rattle.group_record.specs.declared.Refusal.{Refusal}
use Rattle.group_record.specs.declared.Refusal.TheVariants.{Short, WrongEdition, WrongLetter, WrongLength, WrongItem, NotAllowed}

-- Each has a byte of its own, and this is how the byte is read.
pub record Spelled {A : Type 0} (byte : A → ℕ) : Type 0 where
  pub from : ℕ → Option A
  pub there : (a : A) → from (byte a) ≡ some a
  pub back : (b : ℕ) (a : A) → from b ≡ some a → b ≡ byte a

-- A reading: the least length, the editions that it knows, the letters with their bytes, how many items there may be,
-- what is asked of an item (34) and of all of them (35) under a letter.
pub record Rules (Item Letter Kind : Type 0) : Type 1 where
  pub least : ℕ
  pub edition : Kind → Edition Item
  pub editions : Spelled (λ (k : Kind). (edition k).number)
  pub byte : Letter → ℕ
  pub letters : Spelled byte
  pub limit : ℕ
  pub is_item : Letter → Item → Bool
  pub is_allowed : Letter → List Item → Bool

-- What a reading says: the edition, the letter and the items, or a refusal.
pub data Told (Item Letter Kind : Type 0) : Type 0 where
  refused : Refusal → Told Item Letter Kind
  holds : Kind → Letter → List Item → Told Item Letter Kind

-- 1 to so many items, and the stated length right and within the buffer.
unfoldable pub length_fits : ℕ → ℕ → ℕ → ℕ → ℕ → Bool
length_fits width limit n stated size =
    leb 1 n && (leb n limit && (eqb stated (total_length width n) && leb (total_length width n) size))

module _ {Item Letter Kind : Type 0} (R : Rules Item Letter Kind) where
  -- Keys ascend strictly.
  abbrev pub key_before : Kind → Item → Item → Bool
  key_before k i j = ltb ((R.edition k).key i) ((R.edition k).key j)

  -- All of 34.
  unfoldable pub are_good : Kind → Letter → List Item → Bool
  are_good k c items = all (R.is_item c) items && ascending (key_before k) items

  -- 34, then 35.
  unfoldable pub items_told : Kind → Letter → List Item → Told Item Letter Kind
  items_told k c items = cond (are_good k c items) (cond (R.is_allowed c items) (holds k c items) (refused NotAllowed)) (refused WrongItem)

  -- The n items that stand before the trailer.
  abbrev pub last_items : Kind → ℕ → List ℕ → List Item
  last_items k n bytes = items_in (R.edition k).width (R.edition k).read n (drop (length bytes - total_length (R.edition k).width n) bytes)

  -- 33, then the items.
  unfoldable pub counted_told : Kind → Letter → ℕ → List ℕ → Told Item Letter Kind
  counted_told k c n bytes =
      cond (length_fits (R.edition k).width R.limit n (from_end bytes 2 * 256 + from_end bytes 1) (length bytes))
      (items_told k c (last_items k n bytes)) (refused WrongLength)

  -- 32, then count and length.
  unfoldable pub lettered_told : Kind → Option Letter → List ℕ → Told Item Letter Kind
  lettered_told k (some c) bytes = counted_told k c (from_end bytes 3) bytes
  lettered_told k none bytes = refused WrongLetter

  -- 31, then the letter.
  unfoldable pub edition_told : Option Kind → List ℕ → Told Item Letter Kind
  edition_told (some k) bytes = lettered_told k (R.letters.from (from_end bytes 5)) bytes
  edition_told none bytes = refused WrongEdition

  -- 30, then the edition.
  unfoldable pub told_by : List ℕ → Told Item Letter Kind
  told_by bytes = cond (ltb (length bytes) R.least) (refused Short) (edition_told (R.editions.from (from_end bytes 4)) bytes)
