-- What the bytes before a buffer's end decide, in the order in which the reader looks at them: edition, letter, count and length.
use Rattle.std.specs.Prelude.{◌≡◌, Bool, cond, ℕ, ◌+◌, ◌*◌, ◌-◌, ◌<◌, ◌≤◌, length, drop, None, Some}
use Rattle.std.proofs.Math.Path.{refl}
use Rattle.std.proofs.Common.{sym, ap}
use Rattle.std.proofs.Math.Bool.{true, false}
use mathlib.Core.List.{List}
use borrow.Author.Tests.{lt-ltb, le-ltb, eq-eqb, ne_eqb}
use Rattle.centering.specs.Letters.{letter_of}
use Rattle.centering.specs.declared.Centering.{Centering}
use Rattle.std.proofs.Math.Option.{Option, none, some}
use Rattle.group_record.specs.Editions.{from_end}
use Rattle.group_record.specs.declared.items.Item.{Item}
use Rattle.group_record.specs.BothEditions.{width_in}
use Rattle.group_record.specs.Rules.{refused, holds, length_fits, are_good, items_told, last_items, counted_told, lettered_told, edition_told, told_by}
use Rattle.group_record.specs.Outcomes.{length-test}
use Rattle.group_record.specs.Reading.{are_items, first_rules, both_rules, group_of, first_group_of, read_of, read_first_of, refused_group}
use Rattle.group_record.specs.declared.Edition.{Edition as Known}
use Rattle.group_record.specs.declared.Edition.TheVariants.{First, Third}
use Rattle.group_record.specs.Signs.{lattice_of, sign_of}
use Rattle.group_record.specs.declared.RecordGroup.{RecordGroup}
use Rattle.group_record.specs.declared.sign.Sign.{Sign}
use Rattle.group_record.specs.declared.sign.Sign.TheVariants.{Plain, SmallP, SmallC}
use Rattle.group_record.specs.declared.Refusal.TheVariants.{Short, WrongEdition, WrongLetter, WrongLength, WrongItem, NotAllowed}
use Rattle.record_items.specs.Items.{items_of}

-- What the items tell,
abbrev pub read_items : Known → Sign → List Item → RecordGroup
read_items edition s items = group_of (items_told both_rules edition s items)

-- what count and length tell,
abbrev pub read_counted : Known → Sign → ℕ → List ℕ → RecordGroup
read_counted edition s n bytes = group_of (counted_told both_rules edition s n bytes)

-- and what the letter's byte tells.
abbrev pub read_lettered : Known → ℕ → List ℕ → RecordGroup
read_lettered edition b bytes = group_of (lettered_told both_rules edition (sign_of b) bytes)

-- By that byte: p, c, a lattice's letter, or none.
module _ (edition : Known) (b : ℕ) (bytes : List ℕ) where
  pub lettered-p : b ≡ 112 → read_lettered edition b bytes ≡ read_counted edition SmallP (from_end bytes 3) bytes
  unfolding lettered_told sign_of
  lettered-p e = rw (eq-eqb b 112 e)

  pub lettered-c : ¬ (b ≡ 112) → b ≡ 99 → read_lettered edition b bytes ≡ read_counted edition SmallC (from_end bytes 3) bytes
  unfolding lettered_told sign_of
  lettered-c p e = rw (ne_eqb b 112 p, eq-eqb b 99 e)

  module _ (p : ¬ (b ≡ 112)) (q : ¬ (b ≡ 99)) where
    pub lettered-plain : (c : Centering) → letter_of b ≡ Some c → read_lettered edition b bytes ≡ read_counted edition (Plain c) (from_end bytes 3) bytes
    unfolding lettered_told sign_of
    lettered-plain c e = rw (ne_eqb b 112 p, ne_eqb b 99 q, e)

    pub lettered-none : letter_of b ≡ None → read_lettered edition b bytes ≡ refused_group WrongLetter
    unfolding lettered_told sign_of
    lettered-none e = rw (ne_eqb b 112 p, ne_eqb b 99 q, e)

-- All of 34 is the same in both editions.
pub good-items : (edition : Known) (s : Sign) (items : List Item) → are_good both_rules edition s items ≡ are_items (lattice_of s) items
unfolding are_good are_items
good-items First s items = refl
good-items Third s items = refl

-- What the bytes before the end decide, by the code's names for them.
module _ (edition : Known) (c : Sign) (bytes : List ℕ) (n high low : ℕ) (p : n ≡ from_end bytes 3) (q : high ≡ from_end bytes 2) (r : low ≡ from_end bytes 1)
  where
    pub counted-fits : length_fits (width_in edition) 48 n (high * 256 + low) (length bytes) ≡ true
        → read_counted edition c (from_end bytes 3) bytes ≡ read_items edition c (items_of edition n (drop (length bytes - (high * 256 + low)) bytes))
    unfolding counted_told
    counted-fits e =
        rw (← p, ← q, ← r, e)
        (ap (λ (k : ℕ). read_items edition c (items_of edition n (drop (length bytes - k) bytes)))
        (sym ((length-test (width_in edition) 48 n (high * 256 + low) (length bytes)).0 e).2))

    pub counted-fails : length_fits (width_in edition) 48 n (high * 256 + low) (length bytes) ≡ false
        → read_counted edition c (from_end bytes 3) bytes ≡ refused_group WrongLength
    unfolding counted_told
    counted-fails e = rw (← p, ← q, ← r, e)

pub read_short : (bytes : List ℕ) → length bytes < 9 → read_of bytes ≡ refused_group Short
unfolding read_of told_by
read_short bytes h = rw (lt-ltb (length bytes) 9 h)

module _ (bytes : List ℕ) (number : ℕ) (long : 9 ≤ length bytes) (p : number ≡ from_end bytes 4) where
  pub read-other-edition : ¬ (number ≡ 1) → ¬ (number ≡ 3) → read_of bytes ≡ refused_group WrongEdition
  unfolding read_of told_by edition_told
  read-other-edition one three = rw (le-ltb (length bytes) 9 long, ← p, ne_eqb number 1 one, ne_eqb number 3 three)

  pub read-as-first : number ≡ 1 → read_of bytes ≡ read_lettered First (from_end bytes 5) bytes
  unfolding read_of told_by edition_told
  read-as-first e = rw (le-ltb (length bytes) 9 long, ← p, eq-eqb number 1 e)

  pub read-as-third : ¬ (number ≡ 1) → number ≡ 3 → read_of bytes ≡ read_lettered Third (from_end bytes 5) bytes
  unfolding read_of told_by edition_told
  read-as-third one e = rw (le-ltb (length bytes) 9 long, ← p, ne_eqb number 1 one, eq-eqb number 3 e)

-- ---- edition 1 alone
-- From the letter on edition 1 is read alike.
module _ (bytes : List ℕ) where
  same-items : (c : Sign) (items : List Item) → first_group_of (items_told first_rules tt c items) ≡ group_of (items_told both_rules First c items)
  unfolding items_told are_good
  same-items c items = by (are_good first_rules tt c items) (first_rules.is_allowed c items)
    where
      by : (good allowed : Bool)
          → first_group_of (cond good (cond allowed (holds tt c items) (refused NotAllowed)) (refused WrongItem))
          ≡ group_of (cond good (cond allowed (holds First c items) (refused NotAllowed)) (refused WrongItem))
      by true true = refl
      by true false = refl
      by false allowed = refl

  same-counted : (c : Sign) (n : ℕ) → first_group_of (counted_told first_rules tt c n bytes) ≡ read_counted First c n bytes
  unfolding counted_told
  same-counted c n = by (length_fits (width_in First) 48 n (from_end bytes 2 * 256 + from_end bytes 1) (length bytes))
    where
      items : List Item
      items = last_items first_rules tt n bytes

      by : (fits : Bool)
          → first_group_of (cond fits (items_told first_rules tt c items) (refused WrongLength))
          ≡ group_of (cond fits (items_told both_rules First c items) (refused WrongLength))
      by true = same-items c items
      by false = refl

  same-lettered : (o : Option Sign) → first_group_of (lettered_told first_rules tt o bytes) ≡ group_of (lettered_told both_rules First o bytes)
  unfolding lettered_told
  same-lettered (some s) = same-counted s (from_end bytes 3)
  same-lettered none = refl

  pub first_short : length bytes < 10 → read_first_of bytes ≡ refused_group Short
  unfolding read_first_of told_by
  first_short h = rw (lt-ltb (length bytes) 10 h)

  module _ (number : ℕ) (long : 10 ≤ length bytes) (p : number ≡ from_end bytes 4) where
    pub first-other-edition : ¬ (number ≡ 1) → read_first_of bytes ≡ refused_group WrongEdition
    unfolding read_first_of told_by edition_told
    first-other-edition other = rw (le-ltb (length bytes) 10 long, ← p, ne_eqb number 1 other)

    pub first-by-letter : number ≡ 1 → read_first_of bytes ≡ read_lettered First (from_end bytes 5) bytes
    unfolding read_first_of told_by edition_told
    first-by-letter e = rw (le-ltb (length bytes) 10 long, ← p, eq-eqb number 1 e) (same-lettered (sign_of (from_end bytes 5)))
