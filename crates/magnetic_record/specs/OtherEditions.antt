-- Records of an edition that a reading does not know: it answers 31, whatever the items are. So edition 2 is refused by the reading of edition 1 and by that
-- of editions 1 and 3, and the magnetic reading refuses these.
use Rattle.std.specs.Prelude.{◌≡◌, List, [], ◌∷◌, ◌++◌, ℕ, ◌+◌, ◌<◌, ◌≤◌, length}
use Rattle.std.proofs.Common.{sym, append_assoc, arith, length-append}
use Rattle.group_record.specs.Items.{bytes_of, bytes-length}
use Rattle.group_record.specs.Editions.{Edition, total_length, trailer_bytes, framed, framed-length}
use Rattle.group_record.specs.FirstEdition.{first_edition}
use Rattle.group_record.specs.ThirdEdition.{third_edition}
use Rattle.group_record.specs.BothEditions.{edition_of}
use Rattle.group_record.specs.declared.Edition.{Edition as Known}
use Rattle.group_record.specs.declared.Edition.TheVariants.{First, Third}
use Rattle.group_record.specs.declared.items.Item.{Item}
use Rattle.group_record.specs.Rules.{Rules, refused, told_by}
use Rattle.group_record.specs.Reading.{first_rules, both_rules}
use Rattle.group_record.specs.Outcomes.{Meaning, too_short, wrong-edition, outcome-told}
use Rattle.group_record.specs.Acceptance.{first_meaning, both_meaning}
use Rattle.group_record.specs.declared.Refusal.TheVariants.{Short, WrongEdition}
use Rattle.magnetic_record.specs.SecondEdition.{MagneticItem, second_edition}
use Rattle.magnetic_record.specs.Reading.{magnetic_rules}
use Rattle.magnetic_record.specs.Acceptance.{magnetic_meaning}

pub other-edition : {Item Letter Kind Other : Type 0} (R : Rules Item Letter Kind) (W : Meaning R) (E : Edition Other)
    → ((k : Kind) → ¬ (E.number ≡ (R.edition k).number)) → (front : List ℕ) (letter : ℕ) (items : List Other)
    → R.least ≤ length front + total_length E.width (length items) → told_by R (front ++ framed E letter items) ≡ refused WrongEdition
unfolding framed
other-edition R W E never front letter items long =
    outcome-told R W _ (refused WrongEdition)
    (wrong-edition (front ++ bytes_of E.write items) letter E.number (length items) _ _ enough parted never)
  where
    parted : front ++ (bytes_of E.write items ++ trailer_bytes E.width E.number letter (length items))
        ≡ (front ++ bytes_of E.write items) ++ trailer_bytes E.width E.number letter (length items)
    parted = sym (append_assoc front (bytes_of E.write items) (trailer_bytes E.width E.number letter (length items)))

    enough : R.least ≤ length (front ++ bytes_of E.write items) + 5
    enough = omega (arith, long, length-append front (bytes_of E.write items), bytes-length E.width E.write E.wide items)

-- The reading of edition 1 answers 31 to every magnetic record,
pub old-reading : (front : List ℕ) (letter : ℕ) (items : List MagneticItem) → 1 ≤ length items
    → told_by first_rules (front ++ framed second_edition letter items) ≡ refused WrongEdition
old-reading front letter items some =
    other-edition first_rules first_meaning second_edition (λ k e. absurd (omega arith)) front letter items (omega arith)

-- and so does the reading of editions 1 and 3;
pub both-reading : (front : List ℕ) (letter : ℕ) (items : List MagneticItem) → 1 ≤ length items
    → told_by both_rules (front ++ framed second_edition letter items) ≡ refused WrongEdition
both-reading front letter items some = other-edition both_rules both_meaning second_edition never front letter items (omega arith)
  where
    never : (k : Known) → ¬ (second_edition.number ≡ (edition_of k).number)
    never First e = absurd (omega arith)
    never Third e = absurd (omega arith)

-- the magnetic reading does to every record of edition 1,
pub plain-record : (front : List ℕ) (letter : ℕ) (items : List Item) → 1 ≤ length items
    → told_by magnetic_rules (front ++ framed first_edition letter items) ≡ refused WrongEdition
plain-record front letter items some =
    other-edition magnetic_rules magnetic_meaning first_edition (λ k e. absurd (omega arith)) front letter items (omega arith)

-- and to every record of edition 3 in a buffer of at least ten bytes.
pub third-record : (front : List ℕ) (letter : ℕ) (items : List Item) → 10 ≤ length (front ++ framed third_edition letter items)
    → told_by magnetic_rules (front ++ framed third_edition letter items) ≡ refused WrongEdition
third-record front letter items long =
    other-edition magnetic_rules magnetic_meaning third_edition (λ k e. absurd (omega arith)) front letter items
    (omega (arith, length-append front (framed third_edition letter items), framed-length third_edition letter items))

-- A record of one operation in edition 3 has nine bytes: alone in its buffer it is too short for the magnetic reading.
pub third-alone : (letter : ℕ) (i : Item) → told_by magnetic_rules (framed third_edition letter (i ∷ [])) ≡ refused Short
third-alone letter i =
    let short : length (framed third_edition letter (i ∷ [])) < 10 = omega (arith, framed-length third_edition letter (i ∷ [])) in
    outcome-told magnetic_rules magnetic_meaning (framed third_edition letter (i ∷ [])) (refused Short) (too_short short)
