-- How a buffer is read: which items are those of a record and which groups it may hold, the readings that ask this for any editions and letters,
-- and with the letters of the lattices the reading of editions 1 and 3, and that of edition 1 alone. The answers, by refusal and in numbers.
use Rattle.std.specs.Prelude.{◌≡◌, refl, ◌↔◌, Bool, true, false, cond, ◌&&◌, List, ◌++◌, map, ℕ, ◌-◌, ◌≤◌, ltb, eqb, length, replicate, take, None, Option as Maybe, Some}
use Rattle.std.proofs.Math.Option.{Option, none, some}
use Rattle.std.proofs.Common.{arith, eqb-true}
use Rattle.laws.specs.Distinct.{has}
use Rattle.laws.specs.Lattice.{same_triple, below_twelve}
use Rattle.laws.specs.Sorted.{ascending}
use Rattle.laws.specs.Truth.{all}
use Rattle.operation.specs.Answer.{Answer, given, refused, Nothing}
use Rattle.operation.specs.Product.{identity_operation, product_of}
use Rattle.operation.specs.declared.Operation.{Operation}
use Rattle.centering.specs.Letters.{byte_of}
use Rattle.centering.specs.Lattices.{triple_of, smallest_of, congruent_of}
use Rattle.centering.specs.Keeps.{keeps_of}
use Rattle.centering.specs.declared.Centering.{Centering}
use Rattle.centering.specs.declared.Centering.TheVariants.{P}
use Rattle.group_record.specs.Editions.{Edition, total_length}
use Rattle.group_record.specs.Rules.{Spelled, Rules, Told, holds, told_by}
use Rattle.group_record.specs.Rules.{refused as not-held}
use Rattle.group_record.specs.OperationItems.{Item, item_of, InRange}
unfoldable pub use Rattle.group_record.specs.OperationItems.{operation_of_item, rotation_of_decoded}
unfoldable pub use Rattle.group_record.specs.FirstEdition.{item_in}
use Rattle.group_record.specs.FirstEdition.{first_edition}
use Rattle.group_record.specs.Groups.{Form}
use Rattle.group_record.specs.Signs.{is_small, lattice_of, letter_byte, sign_byte, lattice_letters, record_signs, layers_if, LayersIf, layers-test}
use Rattle.group_record.specs.BothEditions.{edition_of, known_editions, known-range, known-key, known-length}
use Rattle.group_record.specs.declared.Edition.{Edition as Known}
use Rattle.group_record.specs.declared.Edition.TheVariants.{First}
use Rattle.group_record.specs.declared.sign.Sign.{Sign}
use Rattle.group_record.specs.declared.Refusal.{Refusal}
use Rattle.group_record.specs.declared.Refusal.TheVariants.{Short, WrongEdition, WrongLetter, WrongLength, WrongItem, NotAllowed}
use Rattle.group_record.specs.declared.Reading.{Reading}
use Rattle.group_record.specs.declared.Reading.TheVariants.{Accepted, Refused}
use Rattle.group_record.specs.declared.RecordGroup.{RecordGroup}

-- ---- answers
-- The number of a refusal; its place is 0.
abbrev pub refusal_number : Refusal → ℕ
refusal_number Short = 30
refusal_number WrongEdition = 31
refusal_number WrongLetter = 32
refusal_number WrongLength = 33
refusal_number WrongItem = 34
refusal_number NotAllowed = 35

-- What a reading says: a letter, by whether it is small and by its lattice, and the operations; or a refusal.
abbrev pub reading_answer : Reading → Bool → Centering → List Operation → Answer (Bool × Centering × List Operation) Nothing
reading_answer Accepted layer c l = given (layer, c, l)
reading_answer (Refused r) layer c l = refused (refusal_number r) 0 tt

-- What a reader's answer says.
abbrev pub group_answer : RecordGroup → Answer (Bool × Centering × List Operation) Nothing
group_answer g = reading_answer g.answer g.layer g.centering (take g.count g.operations)

-- What it says of the order and of the letter's byte alone.
abbrev pub order_by : Reading → ℕ → Answer ℕ Nothing
order_by Accepted n = given n
order_by (Refused r) n = refused (refusal_number r) 0 tt

abbrev pub record_order : RecordGroup → Answer ℕ Nothing
record_order g = order_by g.answer g.count

abbrev pub record_letter : RecordGroup → Answer ℕ Nothing
record_letter g = order_by g.answer (letter_byte g.layer g.centering)

-- And of the edition, by its number.
abbrev pub record_edition : RecordGroup → Answer ℕ Nothing
record_edition g = order_by g.answer (edition_of g.edition).number

-- Operations as 48 slots.
unfoldable pub slots : List Operation → List Operation
slots l = l ++ replicate (48 - length l) identity_operation

-- The answer for a record that is read,
unfoldable pub accepted_group : Known → Sign → List Operation → RecordGroup
accepted_group k s l = record { answer = Accepted; edition = k; layer = is_small s; centering = lattice_of s; count = length l; operations = slots l }

-- and for one that is refused.
unfoldable pub refused_group : Refusal → RecordGroup
refused_group r = record { answer = Refused r; edition = First; layer = false; centering = P; count = 0; operations = replicate 48 identity_operation }

-- ---- items
-- Refusal 34 is given unless each code is at most 19682, each coordinate at most 11, each triple the smallest of its class, and codes ascend.
unfoldable pub is_item : Centering → Item → Bool
is_item c i =
    ltb i.code 19683 && (below_twelve (triple_of i.translation) && same_triple (triple_of (smallest_of c i.translation)) (triple_of i.translation))

-- Codes ascend strictly.
abbrev pub item_before : Item → Item → Bool
item_before i j = ltb i.code j.code

-- All of 34.
unfoldable pub are_items : Centering → List Item → Bool
are_items c items = all (is_item c) items && ascending item_before items

-- ---- the group
-- One code, and translations in one class modulo L.
unfoldable pub alike_items : Centering → Item → Item → Bool
alike_items c i j = eqb i.code j.code && congruent_of c i.translation j.translation

-- A product is listed modulo L.
abbrev pub product_listed : Centering → List Item → Maybe Operation → Bool
product_listed c items (Some h) = has (alike_items c) (item_of h) items
product_listed c items None = false

-- The product of two items is listed.
unfoldable pub pair_listed : Centering → List Item → Item → Item → Bool
pair_listed c items i j = product_listed c items (product_of (operation_of_item i) (operation_of_item j))

-- An item's rotation maps L onto L.
unfoldable pub keeps_item : Centering → Item → Bool
keeps_item c i = keeps_of c (operation_of_item i).rotation

-- The rotation maps L onto L, and every product with this left factor is listed.
unfoldable pub member_allowed : Centering → List Item → Item → Bool
member_allowed c items i = keeps_item c i && all (pair_listed c items i) items

-- Refusal 35 is given unless the identity is listed and each member is so. Triples being the smallest of their classes here, the identity's is (0,0,0).
unfoldable pub is_allowed : Centering → List Item → Bool
is_allowed c items = has (alike_items c) (item_of identity_operation) items && all (member_allowed c items) items

-- ---- readings
-- A reading of groups of operations: the least length, the editions, the letters with their bytes and lattices, and a further rule for the operations
-- under a letter (behind 35). Every edition can say what is in range, and items ascend by code.
pub record GroupReading (Sign Kind : Type 0) : Type 1 where
  pub least : ℕ
  pub edition : Kind → Edition Item
  pub editions : Spelled (λ (k : Kind). (edition k).number)
  pub byte : Sign → ℕ
  pub signs : Spelled byte
  pub lattice : Sign → Centering
  pub further : Sign → List Operation → Bool
  pub Further : Sign → List Operation → Type 0
  pub further-test : (c : Sign) (l : List Operation) → Form (lattice c) l → (further c l ≡ true) ↔ Further c l
  pub in-range : (k : Kind) (i : Item) → InRange i → (edition k).Fits i
  pub by_code : (k : Kind) (i : Item) → (edition k).key i ≡ i.code
  pub trailer-there : 5 ≤ least
  pub long-enough : (k : Kind) → least ≤ total_length (edition k).width 1

-- Its rules: 1 to 48 operations, 34 and 35 as above, and the further rule.
abbrev pub rules_of : {Sign Kind : Type 0} → GroupReading Sign Kind → Rules Item Sign Kind
rules_of G =
    record {
      least = G.least;
      edition = G.edition;
      editions = G.editions;
      byte = G.byte;
      letters = G.signs;
      limit = 48;
      is_item = λ c. is_item (G.lattice c);
      is_allowed = λ c items. is_allowed (G.lattice c) items && G.further c (map operation_of_item items);
    }

-- ---- the readings of the unit
-- One edition.
abbrev pub one_number : ℕ → ℕ → Option (Unit {0})
one_number number b = cond (eqb b number) (some tt) none

pub one_number_lem : (number b : ℕ) (k : Unit {0}) → one_number number b ≡ some k → b ≡ number
one_number_lem number b k e = go (eqb b number) refl e
  where
    go : (t : Bool) → eqb b number ≡ t → cond t (some tt) none ≡ some k → b ≡ number
    go true q p = eqb-true b number q
    go false q p = let z : ◌≡◌ {A = ℕ} 0 1 = cc in absurd (omega arith)

-- The rule of layers is asked under small letters.
abbrev pub signs_over : {Kind : Type 0} (least : ℕ) (edition : Kind → Edition Item) → Spelled (λ (k : Kind). (edition k).number)
    → ((k : Kind) (i : Item) → InRange i → (edition k).Fits i) → ((k : Kind) (i : Item) → (edition k).key i ≡ i.code) → 5 ≤ least
    → ((k : Kind) → least ≤ total_length (edition k).width 1) → GroupReading Sign Kind
signs_over least edition editions in-range by_code trailer-there long-enough =
    record {
      least = least;
      edition = edition;
      editions = editions;
      byte = sign_byte;
      signs = record_signs;
      lattice = lattice_of;
      further = λ s. layers_if (is_small s);
      Further = λ s. LayersIf (is_small s);
      further-test = λ s l form. layers-test (is_small s) (lattice_of s) l form;
      in-range = in-range;
      by_code = by_code;
      trailer-there = trailer-there;
      long-enough = long-enough;
    }

-- The reading of editions 1 and 3.
abbrev pub both_reading : GroupReading Sign Known
both_reading = signs_over 9 edition_of known_editions known-range known-key (omega arith) known-length

abbrev pub both_rules : Rules Item Sign Known
both_rules = rules_of both_reading

abbrev pub first_number : Spelled (λ (k : Unit {0}). first_edition.number)
first_number = record { from = one_number 1; there = λ k. refl; back = one_number_lem 1 }

-- The reading of edition 1 alone.
abbrev pub first_reading : GroupReading Sign (Unit {0})
first_reading = signs_over 10 (λ k. first_edition) first_number (λ k i h. tt) (λ k i. refl) (omega arith) (λ k. omega arith)

abbrev pub first_rules : Rules Item Sign (Unit {0})
first_rules = rules_of first_reading

-- Old software: edition 1 alone, and the letters of the lattices alone.
abbrev pub old_reading : GroupReading Centering (Unit {0})
old_reading =
    record {
      least = 10;
      edition = λ k. first_edition;
      editions = first_number;
      byte = byte_of;
      signs = lattice_letters;
      lattice = λ c. c;
      further = λ c l. true;
      Further = λ c l. Unit {0};
      further-test = λ c l form. ((λ e. tt), λ u. refl);
      in-range = λ k i h. tt;
      by_code = λ k i. refl;
      trailer-there = omega arith;
      long-enough = λ k. omega arith;
    }

-- What is told, as the reader hands it back, by the names of the editions.
abbrev pub group_as : {Kind : Type 0} → (Kind → Known) → Told Item Sign Kind → RecordGroup
group_as name (not-held r) = refused_group r
group_as name (holds k s items) = accepted_group (name k) s (map operation_of_item items)

abbrev pub group_of : Told Item Sign Known → RecordGroup
group_of t = group_as (λ (k : Known). k) t

abbrev pub first_group_of : Told Item Sign (Unit {0}) → RecordGroup
first_group_of t = group_as (λ (k : Unit {0}). First) t

unfoldable pub read_of : List ℕ → RecordGroup
read_of bytes = group_of (told_by both_rules bytes)

unfoldable pub read_first_of : List ℕ → RecordGroup
read_first_of bytes = first_group_of (told_by first_rules bytes)
