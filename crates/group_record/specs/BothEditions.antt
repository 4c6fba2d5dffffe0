-- The editions that are read and written, 1 and 3: which number spells which, how wide their items are, and which one a record is moved to.
use Rattle.std.specs.Prelude.{◌≡◌, refl, Bool, true, false, cond, ℕ, ◌+◌, ◌*◌, ◌≤◌, ◌<◌, eqb}
use Rattle.std.proofs.Common.{◌∙◌, ap, arith, eqb-true}
use Rattle.std.proofs.Math.Option.{Option, none, some}
use Rattle.group_record.specs.Editions.{Edition, total_length}
use Rattle.group_record.specs.Rules.{Spelled}
use Rattle.group_record.specs.OperationItems.{Item, InRange}
use Rattle.group_record.specs.FirstEdition.{first_edition}
use Rattle.group_record.specs.ThirdEdition.{third_edition}
use Rattle.group_record.specs.declared.Edition.{Edition as Known}
use Rattle.group_record.specs.declared.Edition.TheVariants.{First, Third}

abbrev pub edition_of : Known → Edition Item
edition_of First = first_edition
edition_of Third = third_edition

-- How many bytes an item takes.
abbrev pub width_in : Known → ℕ
width_in k = (edition_of k).width

-- The edition that a record is moved to;
abbrev pub other_edition : Known → Known
other_edition First = Third
other_edition Third = First

-- moved twice, it is the first again.
pub other-again : (k : Known) → other_edition (other_edition k) ≡ k
other-again First = refl
other-again Third = refl

-- ---- the numbers
abbrev pub known_number : ℕ → Option Known
known_number b = cond (eqb b 1) (some First) (cond (eqb b 3) (some Third) none)

pub known-number : (b : ℕ) (k : Known) → known_number b ≡ some k → b ≡ (edition_of k).number
known-number b k e = first (eqb b 1) refl e
  where
    third : (t : Bool) → eqb b 3 ≡ t → cond t (some Third) none ≡ some k → b ≡ (edition_of k).number
    third true q p = let same : Third ≡ k = cc in eqb-true b 3 q ∙ ap (λ (j : Known). (edition_of j).number) same
    third false q p = let z : ◌≡◌ {A = ℕ} 0 1 = cc in absurd (omega arith)

    first : (t : Bool) → eqb b 1 ≡ t → cond t (some First) (cond (eqb b 3) (some Third) none) ≡ some k → b ≡ (edition_of k).number
    first true q p = let same : First ≡ k = cc in eqb-true b 1 q ∙ ap (λ (j : Known). (edition_of j).number) same
    first false q p = third (eqb b 3) refl p

pub known-there : (k : Known) → known_number (edition_of k).number ≡ some k
known-there First = refl
known-there Third = refl

-- Editions with one number are one.
pub one-edition : (a b : Known) → (edition_of a).number ≡ (edition_of b).number → a ≡ b
one-edition First First e = refl
one-edition First Third e = absurd (omega arith)
one-edition Third First e = absurd (omega arith)
one-edition Third Third e = refl

abbrev pub known_editions : Spelled (λ (k : Known). (edition_of k).number)
known_editions = record { from = known_number; there = known-there; back = known-number }

-- ---- what both have in common
-- What is in range can be said,
pub known-range : (k : Known) (i : Item) → InRange i → (edition_of k).Fits i
known-range First i h = tt
known-range Third i h = h

-- items ascend by code,
pub known-key : (k : Known) (i : Item) → (edition_of k).key i ≡ i.code
known-key First i = refl
known-key Third i = refl

-- and a record has nine bytes at least.
pub known-length : (k : Known) → 9 ≤ total_length (width_in k) 1
known-length First = omega arith
known-length Third = omega arith

-- ---- where items stand
-- Each of n items stands within them,
pub item-inside : (k : Known) (i n size : ℕ) → i < n → width_in k * n ≤ size → width_in k * i + width_in k ≤ size
item-inside First i n size h e = omega arith
item-inside Third i n size h e = omega arith

-- and 48 of them take at most 240 bytes.
pub items-short : (k : Known) (n : ℕ) → n ≤ 48 → width_in k * n ≤ 240
items-short First n h = omega arith
items-short Third n h = omega arith
