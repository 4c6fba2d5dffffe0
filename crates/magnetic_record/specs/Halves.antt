-- The two halves of a list of items, those without the flag and those with it: each is the plain items of a record in edition 1, in order and without the
-- length, so that what is known of these holds of each half; and what is listed is listed in the half of its flag.
use Rattle.std.specs.Prelude.{◌≡◌, refl, Bool, true, false, cond, ℕ, zero, suc, ◌<◌, ◌≤◌, eqb}
use Rattle.std.proofs.Common.{sym, ◌∙◌, ap, subst, arith, eqb-true, eq-eqb}
use mathlib.Core.List.Memᴰ.{cast as mem-cast}
use mathlib.Core.List.Memᴰ.{head as here}
use mathlib.Core.List.Memᴰ.{map as mem-map}
use mathlib.Core.List.Memᴰ.{not-nil as not-in-nil}
use mathlib.Core.List.Memᴰ.{of_map as mem-of-map}
use mathlib.Core.List.Memᴰ.{tail as there}
use mathlib.Core.List.{List, [], ◌∷◌, map, Memᴰ as Mem}
use Rattle.laws.specs.Motion.{SpaceMotion}
use Rattle.laws.specs.Sorted.{Sorted, sorted-nil, sorted-cons}
use Rattle.group_growth.specs.Flagged.{xor, flagged_by}
use Rattle.operation.specs.Meaning.{motion_of}
use Rattle.operation.specs.declared.Operation.{Operation}
use Rattle.centering.specs.LatticeLaws.{Smallest}
use Rattle.centering.specs.declared.Centering.{Centering}
use Rattle.group_record.specs.OperationItems.{operation_of_item}
use Rattle.group_record.specs.declared.items.Item.{Item}
use Rattle.group_record.specs.Groups.{Form}
use Rattle.group_record.specs.ReadingTests.{GoodItems, good-form}
use Rattle.magnetic_record.specs.SecondEdition.{MagneticItem, magnetic≡, magnetic_key}
use Rattle.magnetic_record.specs.Reading.{half, product_flag}
use Rattle.magnetic_record.specs.Groups.{flagged_motion, motions_of}

-- An item with a flag.
abbrev pub with_flag : ℕ → Item → MagneticItem
with_flag n i = record { plain = i; flag = n }

-- The number of a flag.
abbrev pub flag_number : Bool → ℕ
flag_number true = 1
flag_number false = 0

-- ---- members
-- What is in a half is listed with its flag,
pub half-listed : (n : ℕ) (items : List MagneticItem) (i : Item) → Mem i (half n items) → Mem (with_flag n i) items
unfolding half
half-listed n [] i m = absurd (not-in-nil m)
half-listed n (j ∷ items) i m = go (eqb j.flag n) refl m (half-listed n items i)
  where
    go : (b : Bool) → eqb j.flag n ≡ b → Mem i (cond b (j.plain ∷ half n items) (half n items)) → (Mem i (half n items) → Mem (with_flag n i) items)
        → Mem (with_flag n i) (j ∷ items)
    go true e (here p) later = here (magnetic≡ p (sym (eqb-true j.flag n e)))
    go true e (there k) later = there (later k)
    go false e k later = there (later k)

-- and the other way round.
pub listed-half : (items : List MagneticItem) (i : MagneticItem) → Mem i items → Mem i.plain (half i.flag items)
unfolding half
listed-half [] i m = absurd (not-in-nil m)
listed-half (j ∷ items) i (here p) = rw (eq-eqb j.flag i.flag (ap (λ (k : MagneticItem). k.flag) (sym p))) (here (ap (λ (k : MagneticItem). k.plain) p))
listed-half (j ∷ items) i (there m) = go (eqb j.flag i.flag) (listed-half items i m)
  where
    go : (b : Bool) → Mem i.plain (half i.flag items) → Mem i.plain (cond b (j.plain ∷ half i.flag items) (half i.flag items))
    go true k = there k
    go false k = k

-- ---- order
-- Where keys ascend, codes do so within a half.
pub half-ascends : (n : ℕ) {items : List MagneticItem} → Sorted (λ (i j : MagneticItem). magnetic_key i < magnetic_key j) items
    → Sorted (λ (i j : Item). i.code < j.code) (half n items)
unfolding half
half-ascends n sorted-nil = sorted-nil
half-ascends n (sorted-cons {x} {l} first s) = go (eqb x.flag n) refl (half-ascends n s)
  where
    go : (b : Bool) → eqb x.flag n ≡ b → Sorted (λ (i j : Item). i.code < j.code) (half n l)
        → Sorted (λ (i j : Item). i.code < j.code) (cond b (x.plain ∷ half n l) (half n l))
    go true e later =
        sorted-cons (λ y m.
        let before = first (with_flag n y) (half-listed n l y m) in
        let less : x.plain.code < y.code = omega (arith, before, eqb-true x.flag n e) in
        less) later
    go false e later = later

-- ---- good items
-- What 34 asks: each a plain item with a flag at most 1, and keys ascend.
pub record GoodMagnetic (c : Centering) (items : List MagneticItem) : Type 0 where
  pub code : (i : MagneticItem) → Mem i items → i.plain.code < 19683
  pub smallest : (i : MagneticItem) → Mem i items → Smallest c i.plain.translation i.plain.translation
  pub flag : (i : MagneticItem) → Mem i items → i.flag ≤ 1
  pub ascend : Sorted (λ (i j : MagneticItem). magnetic_key i < magnetic_key j) items

-- Each half is good as in edition 1.
pub half-good : (c : Centering) (items : List MagneticItem) → GoodMagnetic c items → (n : ℕ) → GoodItems c (half n items)
half-good c items g n =
    record {
      code = λ i m. g.code (with_flag n i) (half-listed n items i m);
      smallest = λ i m. g.smallest (with_flag n i) (half-listed n items i m);
      ascend = half-ascends n g.ascend;
    }

-- The operations of a half,
abbrev pub operations_of : ℕ → List MagneticItem → List Operation
operations_of n items = map operation_of_item (half n items)

-- in the form of a record.
pub half-form : (c : Centering) (items : List MagneticItem) → GoodMagnetic c items → (n : ℕ) → Form c (operations_of n items)
half-form c items g n = good-form c (half n items) (half-good c items g n)

-- ---- flags as numbers and as truth values
pub flag-number : (n : ℕ) → n ≤ 1 → flag_number (eqb n 1) ≡ n
flag-number zero h = refl
flag-number (suc zero) h = refl
flag-number (suc (suc n)) h = absurd (omega arith)

pub number-flag : (b : Bool) → eqb (flag_number b) 1 ≡ b
number-flag true = refl
number-flag false = refl

-- The product's flag is the exclusive or.
pub product-flag : (a b : Bool) → product_flag (flag_number a) (flag_number b) ≡ flag_number (xor a b)
product-flag true true = refl
product-flag true false = refl
product-flag false true = refl
product-flag false false = refl

-- ---- motions
module _ (items : List MagneticItem) (flags : (i : MagneticItem) → Mem i items → i.flag ≤ 1) where
  -- A listed flagged motion is that of an operation in the half of its flag,
  pub motion-half : (b : Bool) (f : SpaceMotion) → Mem (flagged_by b f) (motions_of items) → Mem f (map motion_of (operations_of (flag_number b) items))
  motion-half b f m =
      let (i, k, e) = mem-of-map flagged_motion items m in
      let same_flag : eqb i.flag 1 ≡ b = ap (λ g. g.flag) e in
      let number : i.flag ≡ flag_number b = sym (flag-number i.flag (flags i k)) ∙ ap flag_number same_flag in
      let inside : Mem i.plain (half (flag_number b) items) = subst (λ (n : ℕ). Mem i.plain (half n items)) number (listed-half items i k) in
      mem-cast (sym (ap (λ g. g.element) e)) (mem-map motion_of (mem-map operation_of_item inside))

  -- and the other way round.
  pub half-motion : (b : Bool) (f : SpaceMotion) → Mem f (map motion_of (operations_of (flag_number b) items)) → Mem (flagged_by b f) (motions_of items)
  half-motion b f m =
      let (o, k, e) = mem-of-map motion_of (operations_of (flag_number b) items) m in
      let (i, n, q) = mem-of-map operation_of_item (half (flag_number b) items) k in
      let same : flagged_motion (with_flag (flag_number b) i) ≡ flagged_by b f = λ k. record { element = (ap motion_of q ∙ e) k; flag = number-flag b k } in
      mem-cast (sym same) (mem-map flagged_motion (half-listed (flag_number b) items i n))
