-- What each test of a magnetic record's reader leaves of the reading, in the order in which they are tried: 30, 31, 32, 33, then 34 and 35 on the part of the
-- buffer that starts with the record.
use Rattle.std.specs.Prelude.{◌≡◌, true, false, List, ℕ, ◌+◌, ◌*◌, ◌-◌, ◌<◌, ◌≤◌, length, drop, Err, None, Ok, Result, Some}
use Rattle.std.proofs.Common.{sym, ◌∙◌, ap}
use borrow.Author.Tests.{lt-ltb, le-ltb, eq-eqb, ne_eqb}
use Rattle.centering.specs.Letters.{letter_of}
use Rattle.centering.specs.declared.Centering.{Centering}
use Rattle.group_record.specs.Items.{items-length}
use Rattle.group_record.specs.Editions.{from_end}
use Rattle.group_record.specs.Rules.{length_fits, are_good, items_told, counted_told, lettered_told, edition_told, told_by}
use Rattle.group_record.specs.Outcomes.{length-test}
use Rattle.group_record.specs.declared.Refusal.TheVariants.{Short, WrongEdition, WrongLetter, WrongLength, WrongItem, NotAllowed}
use Rattle.magnetic_record.specs.SecondEdition.{MagneticItem, magnetic_in}
use Rattle.magnetic_record.specs.Reading.{is_magnetic_group, magnetic_rules}
use Rattle.magnetic_record.specs.Answers.{reading_by, reading_of}
use Rattle.magnetic_record_reading.specs.Search.{items_of}
use Rattle.group_record.specs.declared.Refusal.{Refusal}

-- What the items tell,
abbrev pub read_items : Centering → List MagneticItem → Result (Centering × ℕ) Refusal
read_items c items = reading_by (items_told magnetic_rules tt c items)

-- and what count and length tell.
abbrev pub read_counted : Centering → List ℕ → Result (Centering × ℕ) Refusal
read_counted c bytes = reading_by (counted_told magnetic_rules tt c (from_end bytes 3) bytes)

module _ (bytes : List ℕ) where
  pub too_short : length bytes < 10 → reading_of bytes ≡ Err Short
  unfolding told_by
  too_short h = rw (lt-ltb (length bytes) 10 h)

  module _ (number : ℕ) (long : 10 ≤ length bytes) (p : number ≡ from_end bytes 4) where
    pub other-number : ¬ (number ≡ 2) → reading_of bytes ≡ Err WrongEdition
    unfolding told_by edition_told
    other-number other = rw (le-ltb (length bytes) 10 long, ← p, ne_eqb number 2 other)

    module _ (second : number ≡ 2) where
      pub no-letter : letter_of (from_end bytes 5) ≡ None → reading_of bytes ≡ Err WrongLetter
      unfolding told_by edition_told lettered_told
      no-letter e = rw (le-ltb (length bytes) 10 long, ← p, eq-eqb number 2 second, e)

      pub by-letter : (c : Centering) → letter_of (from_end bytes 5) ≡ Some c → reading_of bytes ≡ read_counted c bytes
      unfolding told_by edition_told lettered_told
      by-letter c e = rw (le-ltb (length bytes) 10 long, ← p, eq-eqb number 2 second, e)

-- ---- 33, by the code's names for the bytes before the end
module _ (c : Centering) (bytes : List ℕ) (n high low : ℕ) (p : n ≡ from_end bytes 3) (q : high ≡ from_end bytes 2) (r : low ≡ from_end bytes 1) where
  pub counted-fails : length_fits 6 96 n (high * 256 + low) (length bytes) ≡ false → read_counted c bytes ≡ Err WrongLength
  unfolding counted_told
  counted-fails e = rw (← p, ← q, ← r, e)

  counted-fits : length_fits 6 96 n (high * 256 + low) (length bytes) ≡ true
      → read_counted c bytes ≡ read_items c (items_of n (drop (length bytes - (high * 256 + low)) bytes))
  unfolding counted_told
  counted-fits e =
      let stated = ((length-test 6 96 n (high * 256 + low) (length bytes)).0 e).2 in
      rw (← p, ← q, ← r, e) (ap (λ (k : ℕ). read_items c (items_of n (drop (length bytes - k) bytes))) (sym stated))

  -- ---- 34 and 35, on the part that is lent
  module _ (fits : length_fits 6 96 n (high * 256 + low) (length bytes) ≡ true) (part : List ℕ)
      (lent : part ≡ drop (length bytes - (high * 256 + low)) bytes) where
    on-part : read_counted c bytes ≡ read_items c (items_of n part)
    on-part = counted-fits fits ∙ ap (λ (l : List ℕ). read_items c (items_of n l)) (sym lent)

    pub items-wrong : are_good magnetic_rules tt c (items_of n part) ≡ false → read_counted c bytes ≡ Err WrongItem
    unfolding items_told
    items-wrong e = on-part ∙ rw e

    pub items-barred : are_good magnetic_rules tt c (items_of n part) ≡ true → is_magnetic_group c (items_of n part) ≡ false
        → read_counted c bytes ≡ Err NotAllowed
    unfolding items_told
    items-barred e g = on-part ∙ rw (e, g)

    pub items-right : are_good magnetic_rules tt c (items_of n part) ≡ true → is_magnetic_group c (items_of n part) ≡ true → read_counted c bytes ≡ Ok (c, n)
    unfolding items_told
    items-right e g = on-part ∙ rw (e, g) (ap ((λ y. Ok (c, y))) (items-length 6 magnetic_in n part))
