-- What is told of a buffer as the record of a magnetic group, each of 30 to 35 exactly when: 34 where the items are not good, and 35 where their flagged
-- motions are not allowed.
-- The idea: a product with its flag is looked for in one half, and there the plain test means what it means of plain motions.
use Rattle.std.specs.Prelude.{◌≡◌, refl, ◌↔◌, ℕ, ◌<◌, ◌≤◌, eqb, length}
use Rattle.std.proofs.Common.{sym, ◌∙◌, ap, ap₂, arith, leb-true, le-leb}
use Rattle.std.proofs.Math.Path.{subst}
use Rattle.std.proofs.Math.Bool.{true, false}
use mathlib.Core.List.Memᴰ.{cast as mem-cast}
use mathlib.Core.List.Memᴰ.{map as mem-map}
use mathlib.Core.List.Memᴰ.{of_map as mem-of-map}
use mathlib.Core.List.{List, map, Memᴰ as Mem}
use Rattle.std.proofs.lemmas.List.{length-map}
use Rattle.laws.specs.Motion.{SpaceMotion, compose, identity}
use Rattle.laws.specs.Distinct.{has}
use Rattle.laws.specs.LatticeMaps.{MapsOnto, onto-unimodular}
use Rattle.laws.specs.Truth.{both_true, all_true}
use Rattle.group_growth.specs.Flagged.{xor, flagged_by}
use Rattle.operation.specs.Composed.{identity-motion}
use Rattle.operation.specs.Entries.{Entries}
use Rattle.operation.specs.Meaning.{matrix_of, motion_of}
use Rattle.operation.specs.Product.{identity_operation, product_of}
use Rattle.operation.specs.declared.Operation.{Operation}
use Rattle.centering.specs.Letters.{points_of}
use Rattle.centering.specs.Lattices.{points}
use Rattle.centering.specs.LatticeLaws.{Smallest}
use Rattle.centering.specs.declared.Centering.{Centering}
use Rattle.group_record.specs.Items.{Bytes}
use Rattle.group_record.specs.OperationItems.{item_of, operation_of_item}
use Rattle.group_record.specs.declared.items.Item.{Item}
use Rattle.group_record.specs.Rules.{Told, told_by}
use Rattle.group_record.specs.Reading.{is_item, alike_items, product_listed, pair_listed, keeps_item}
use Rattle.group_record.specs.Groups.{Alike}
use Rattle.group_record.specs.ListedForm.{form-listing}
use Rattle.group_record.specs.GroupLaws.{identity-listed}
use Rattle.group_record.specs.ReadingTests.{item-test, item-of-operation, items-of-operations, product-test, identity-test, keeps-test}
use Rattle.group_record.specs.Outcomes.{Good, Meaning, Outcome, told-exactly}
use Rattle.magnetic_record.specs.SecondEdition.{MagneticItem}
use Rattle.magnetic_record.specs.Reading.{is_magnetic_item, half, product_flag, flagged_pair_listed, flagged_member, is_magnetic_group, magnetic_rules}
use Rattle.magnetic_record.specs.Groups.{FlaggedMotion, compose_flagged, Near, MagneticAllowed, flagged_motion, motions_of}
use Rattle.magnetic_record.specs.Halves.{flag_number, listed-half, GoodMagnetic, half-good, operations_of, half-form, flag-number, product-flag, motion-half, half-motion}

-- ---- 34
-- An item of a record: a code at most 19682, the smallest triple of its class, and a flag at most 1.
abbrev pub IsMagneticItem : Centering → MagneticItem → Type 0
IsMagneticItem c i = ((i.plain.code < 19683) × Smallest c i.plain.translation i.plain.translation) × (i.flag ≤ 1)

pub magnetic-item-test : (c : Centering) (i : MagneticItem) → (is_magnetic_item c i ≡ true) ↔ IsMagneticItem c i
unfolding is_magnetic_item
magnetic-item-test c i = (
  (λ e. let (p, q) = (both_true (is_item c i.plain) _).0 e in ((item-test c i.plain).0 p, leb-true i.flag 1 q)),
  λ (p, q). (both_true (is_item c i.plain) _).1 ((item-test c i.plain).1 p, le-leb i.flag 1 q),
)

-- ---- 35
module _ (c : Centering) (items : List MagneticItem) (g : GoodMagnetic c items) where
  -- The operation of an item.
  abbrev own : MagneticItem → Operation
  own i = operation_of_item i.plain

  -- The product of two listed items is listed with its flag.
  abbrev Product : MagneticItem → MagneticItem → Type 0
  Product i j =
      (h : Operation) × Mem h (operations_of (product_flag i.flag j.flag) items) × Alike c (compose (motion_of (own i)) (motion_of (own j))) (motion_of h)

  again : (n : ℕ) → map item_of (operations_of n items) ≡ half n items
  again n = items-of-operations (half n items) (half-good c items g n).code

  own-entries : (i : MagneticItem) → Mem i items → Entries (matrix_of (own i).rotation)
  own-entries i m = (half-form c items g i.flag).entries (own i) (mem-map operation_of_item (listed-half items i m))

  pair-test : (i j : MagneticItem) → (flagged_pair_listed items c i j ≡ true) ↔ Product i j
  unfolding flagged_pair_listed pair_listed
  pair-test i j =
      let n = product_flag i.flag j.flag in
      subst (λ (l : List Item). (product_listed c l (product_of (own i) (own j)) ≡ true) ↔ Product i j) (again n)
      (product-test c (operations_of n items) (half-form c items g n).entries (own i) (own j))

  member-test : (i : MagneticItem) → Mem i items
      → (flagged_member c items i ≡ true) ↔ (MapsOnto (points_of c) (matrix_of (own i).rotation) × ((j : MagneticItem) → Mem j items → Product i j))
  unfolding flagged_member
  member-test i m = (
    (λ e.
        let (p, q) = (both_true (keeps_item c i.plain) _).0 e in
        (keeps.0 p, λ j k. (pair-test i j).0 ((all_true (flagged_pair_listed items c i) items).0 q j k))),
    λ (p, q).
        (both_true (keeps_item c i.plain) _).1 (keeps.1 p, (all_true (flagged_pair_listed items c i) items).1 (λ j k. (pair-test i j).1 (q j k))),
  )
    where
      keeps : (keeps_item c i.plain ≡ true) ↔ MapsOnto (points_of c) (matrix_of (own i).rotation)
      keeps =
          subst (λ (k : Item). (keeps_item c k ≡ true) ↔ MapsOnto (points_of c) (matrix_of (own i).rotation)) (item-of-operation i.plain (g.code i m))
          (keeps-test c (own i) (own-entries i m))

  identity-there : (has (alike_items c) (item_of identity_operation) (half 0 items) ≡ true) ↔ Mem identity_operation (operations_of 0 items)
  identity-there =
      subst (λ (l : List Item). (has (alike_items c) (item_of identity_operation) l ≡ true) ↔ Mem identity_operation (operations_of 0 items)) (again 0)
      (identity-test c (operations_of 0 items) (half-form c items g 0))

  -- The product's flag is the exclusive or of the flags.
  flags-product : (i j : MagneticItem) → Mem i items → Mem j items → product_flag i.flag j.flag ≡ flag_number (xor (eqb i.flag 1) (eqb j.flag 1))
  flags-product i j m k =
      ap₂ product_flag (sym (flag-number i.flag (g.flag i m))) (sym (flag-number j.flag (g.flag j k))) ∙ product-flag (eqb i.flag 1) (eqb j.flag 1)

  -- A listed product is a listed flagged motion,
  product-listed : (i j : MagneticItem) → Mem i items → Mem j items → Product i j
      → (h : FlaggedMotion) × Mem h (motions_of items) × Near c (compose_flagged (flagged_motion i) (flagged_motion j)) h
  product-listed i j m k (h, n, near) =
      let flag = xor (eqb i.flag 1) (eqb j.flag 1) in
      let there : Mem h (operations_of (flag_number flag) items) = subst (λ (n : ℕ). Mem h (operations_of n items)) (flags-product i j m k) n in
      (flagged_by flag (motion_of h), half-motion items g.flag flag (motion_of h) (mem-map motion_of there), (refl, near))

  -- and the other way round.
  listed-product : (i j : MagneticItem) → Mem i items → Mem j items
      → (h : FlaggedMotion) × Mem h (motions_of items) × Near c (compose_flagged (flagged_motion i) (flagged_motion j)) h → Product i j
  listed-product i j m k (h, n, (flag, near)) =
      let (o, w, e) = mem-of-map motion_of (operations_of (flag_number h.flag) items) (motion-half items g.flag h.flag h.element n) in
      let same : flag_number h.flag ≡ product_flag i.flag j.flag = ap flag_number (sym flag) ∙ sym (flags-product i j m k) in
      let alike = subst (λ (b : SpaceMotion). Alike c (compose (motion_of (own i)) (motion_of (own j))) b) (sym e) near in
      (o, subst (λ (n : ℕ). Mem o (operations_of n items)) same w, alike)

  -- The test of 35: good items, 1 to 96 of them, are allowed.
  pub magnetic-test : 1 ≤ length items → length items ≤ 96 → (is_magnetic_group c items ≡ true) ↔ MagneticAllowed c (motions_of items)
  unfolding is_magnetic_group motion_of
  magnetic-test some few = (forth, back)
    where
      forth : is_magnetic_group c items ≡ true → MagneticAllowed c (motions_of items)
      forth e =
          let (p, q) = (both_true (has (alike_items c) (item_of identity_operation) (half 0 items)) _).0 e in
          let member : (i : MagneticItem) → Mem i items → _ = λ i m. (member-test i m).0 ((all_true (flagged_member c items) items).0 q i m) in
          record {
            count = rw (length-map items flagged_motion) (some, few);
            determinant = λ f m. let (i, k, u) = mem-of-map flagged_motion items m in rw (← u) (onto-unimodular (points_of c) (points c) _ (member i k).0);
            keeps = λ f m. let (i, k, u) = mem-of-map flagged_motion items m in rw (← u) (member i k).0;
            holds-identity = half-motion items g.flag false identity (mem-cast (sym identity-motion) (mem-map motion_of (identity-there.0 p)));
            product = λ a b m k.
                let (i, n, u) = mem-of-map flagged_motion items m in
                let (j, o, v) = mem-of-map flagged_motion items k in
                rw (← u, ← v) (product-listed i j n o ((member i n).1 j o));
          }

      back : MagneticAllowed c (motions_of items) → is_magnetic_group c items ≡ true
      back A =
          (both_true (has (alike_items c) (item_of identity_operation) (half 0 items)) _).1 (
            identity-there.1 (identity-listed (form-listing c (half-form c items g 0)) (motion-half items g.flag false identity A.holds-identity)),
            (all_true (flagged_member c items) items).1 (λ i m. (member-test i m).1 (
              A.keeps (flagged_motion i) (mem-map flagged_motion m),
              λ j k. listed-product i j m k (A.product (flagged_motion i) (flagged_motion j) (mem-map flagged_motion m) (mem-map flagged_motion k)),
            )),
          )

-- ---- the reading
pub good-magnetic : (c : Centering) (items : List MagneticItem) → Good magnetic_rules IsMagneticItem tt c items → GoodMagnetic c items
good-magnetic c items h =
    record { code = λ i m. (h.each i m).0.0; smallest = λ i m. (h.each i m).0.1; flag = λ i m. (h.each i m).1; ascend = h.ascend }

-- What its tests mean.
unfoldable pub magnetic_meaning : Meaning magnetic_rules
magnetic_meaning =
    record {
      IsItem = IsMagneticItem;
      item-test = magnetic-item-test;
      fits = λ k c i h. tt;
      IsAllowed = λ c items. MagneticAllowed c (motions_of items);
      allowed-test = λ k c items h one few. magnetic-test c items (good-magnetic c items h) one few;
      trailer-there = omega arith;
      long-enough = λ k. omega arith;
    }

-- The reading is the rules: each of 30 to 35 is given, and each record read, exactly when they say so.
pub magnetic-told-exactly : (bytes : List ℕ) → Bytes bytes → (t : Told MagneticItem Centering (Unit {0}))
    → (told_by magnetic_rules bytes ≡ t) ↔ Outcome magnetic_rules magnetic_meaning bytes t
magnetic-told-exactly bytes g t = told-exactly magnetic_rules magnetic_meaning bytes g t
