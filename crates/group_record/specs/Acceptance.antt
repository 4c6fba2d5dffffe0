-- What a reading of groups tells, for any editions, letters and further rule: exactly the records of allowed operations in the listed form.
-- The idea: its tests mean what is asked of motions, and the reading is the rules.
use Rattle.std.specs.Prelude.{◌≡◌, ◌↔◌, true, ◌&&◌, ℕ, ◌<◌, ◌≤◌}
use Rattle.std.proofs.Math.Path.{sym, ap}
use Rattle.std.proofs.Common.{◌∙◌, subst}
use mathlib.Core.List.{List, ◌++◌, map}
use Rattle.std.proofs.Math.ListN.{length}
use Rattle.std.proofs.lemmas.List.{length-map}
use Rattle.laws.specs.Sorted.{Sorted, sorted-nil, sorted-cons}
use Rattle.laws.specs.Truth.{both_true}
use Rattle.operation.specs.Meaning.{motion_of}
use Rattle.operation.specs.declared.Operation.{Operation}
use Rattle.centering.specs.LatticeLaws.{Smallest}
pub use Rattle.group_record.specs.Items.{Bytes}
use Rattle.group_record.specs.Editions.{framed}
use Rattle.group_record.specs.OperationItems.{Item, item_of, operation_of_item}
use Rattle.group_record.specs.Rules.{Told, holds, told_by}
use Rattle.group_record.specs.Record.{written_in}
use Rattle.group_record.specs.Reading.{GroupReading, rules_of, is_allowed, first_reading, first_rules, both_reading, both_rules}
use Rattle.group_record.specs.Groups.{Allowed, Form}
use Rattle.group_record.specs.declared.sign.Sign.{Sign}
use Rattle.group_record.specs.OneRecord.{written-items, operations-of-items}
use Rattle.group_record.specs.ReadingTests.{GoodItems, item-test, items-of-operations, good-form, form-good, allowed-test}
use Rattle.group_record.specs.declared.Edition.{Edition as Known}
use Rattle.group_record.specs.Outcomes.{Good, Meaning, Outcome, Held, told-exactly, held-told, held-exactly}

-- One order for another that follows from it.
sorted-by : {A : Type 0} (Before After : A → A → Type 0) → ((x y : A) → Before x y → After x y) → {l : List A} → Sorted Before l → Sorted After l
sorted-by Before After follows sorted-nil = sorted-nil
sorted-by Before After follows (sorted-cons {x} first s) = sorted-cons (λ y m. follows x y (first y m)) (sorted-by Before After follows s)

module _ {Sign Kind : Type 0} (G : GroupReading Sign Kind) where
  -- ---- what the tests mean
  -- An item of a record: a code at most 19682, and the smallest triple of its class.
  abbrev pub IsItem : Sign → Item → Type 0
  IsItem c i = (i.code < 19683) × Smallest (G.lattice c) i.translation i.translation

  -- Allowed motions, and the further rule.
  abbrev pub IsAllowed : Sign → List Item → Type 0
  IsAllowed c items = Allowed (G.lattice c) (map motion_of (map operation_of_item items)) × G.Further c (map operation_of_item items)

  -- Keys ascend where codes do.
  good-items : (k : Kind) (c : Sign) (items : List Item) → Good (rules_of G) IsItem k c items → GoodItems (G.lattice c) items
  good-items k c items g =
      record {
        code = λ i m. (g.each i m).0;
        smallest = λ i m. (g.each i m).1;
        ascend =
            sorted-by (λ (i j : Item). (G.edition k).key i < (G.edition k).key j) (λ (i j : Item). i.code < j.code)
            (λ i j h. rw (G.by_code k i, G.by_code k j) at h) g.ascend;
      }

  items-good : (k : Kind) (c : Sign) (items : List Item) → GoodItems (G.lattice c) items → Good (rules_of G) IsItem k c items
  items-good k c items g =
      record {
        each = λ i m. (g.code i m, g.smallest i m);
        ascend =
            sorted-by (λ (i j : Item). i.code < j.code) (λ (i j : Item). (G.edition k).key i < (G.edition k).key j)
            (λ i j h. rw (G.by_code k i, G.by_code k j) h) g.ascend;
      }

  group-test : (k : Kind) (c : Sign) (items : List Item) → Good (rules_of G) IsItem k c items → 1 ≤ length items → length items ≤ 48
      → (is_allowed (G.lattice c) items && G.further c (map operation_of_item items) ≡ true) ↔ IsAllowed c items
  group-test k c items g one few = (
    (λ e.
        let (p, q) = (both_true (is_allowed (G.lattice c) items) _).0 e in
        (test.0 (ap (is_allowed (G.lattice c)) again ∙ p), (G.further-test c (map operation_of_item items) form).0 q)),
    λ (p, q). (both_true (is_allowed (G.lattice c) items) _).1
        (sym (ap (is_allowed (G.lattice c)) again) ∙ test.1 p, (G.further-test c (map operation_of_item items) form).1 q),
  )
    where
      again : map item_of (map operation_of_item items) ≡ items
      again = items-of-operations items (good-items k c items g).code

      form : Form (G.lattice c) (map operation_of_item items)
      form = good-form (G.lattice c) items (good-items k c items g)

      test : (is_allowed (G.lattice c) (map item_of (map operation_of_item items)) ≡ true) ↔ Allowed (G.lattice c) (map motion_of (map operation_of_item items))
      test =
          allowed-test (G.lattice c) (map operation_of_item items) form
          (rw (length-map items operation_of_item) one) (rw (length-map items operation_of_item) few)

  pub meaning_of : Meaning (rules_of G)
  meaning_of =
      record {
        IsItem = IsItem;
        item-test = λ c i. item-test (G.lattice c) i;
        fits = λ k c i h. G.in-range k i (h.0, h.1.below);
        IsAllowed = IsAllowed;
        allowed-test = group-test;
        trailer-there = G.trailer-there;
        long-enough = G.long-enough;
      }

  -- ---- the record of a group
  -- The buffer ends with the record of these operations, which are in the listed form and allowed.
  pub record Holds (bytes : List ℕ) (k : Kind) (c : Sign) (l : List Operation) : Type 0 where
    pub front : List ℕ
    pub same_bytes : bytes ≡ front ++ written_in (G.edition k) (G.byte c) l
    pub form : Form (G.lattice c) l
    pub allowed : Allowed (G.lattice c) (map motion_of l)
    pub further : G.Further c l

  -- What is told are items, and these are their operations.
  abbrev pub Tells : List ℕ → Kind → Sign → List Operation → Type 0
  Tells bytes k c l = (items : List Item) × (told_by (rules_of G) bytes ≡ holds k c items) × (map operation_of_item items ≡ l)

  -- What is held are the operations of the items that are held.
  from-held : (bytes : List ℕ) (k : Kind) (c : Sign) (items : List Item) → Held (rules_of G) meaning_of bytes k c items
      → Holds bytes k c (map operation_of_item items)
  unfolding meaning_of
  from-held bytes k c items h =
      let good = good-items k c items h.good in
      let again : map item_of (map operation_of_item items) ≡ items = items-of-operations items good.code in
      record {
        front = h.front;
        same_bytes =
            h.same_bytes
            ∙ ap (λ (b : List ℕ). h.front ++ b) (ap (framed (G.edition k) (G.byte c)) (sym again)
            ∙ sym (written-items (G.edition k) (G.byte c) (map operation_of_item items)));
        form = good-form (G.lattice c) items good;
        allowed = h.allowed.0;
        further = h.allowed.1;
      }

  to_held : (bytes : List ℕ) (k : Kind) (c : Sign) (l : List Operation) → Holds bytes k c l → Held (rules_of G) meaning_of bytes k c (map item_of l)
  unfolding meaning_of
  to_held bytes k c l h =
      let there : map operation_of_item (map item_of l) ≡ l = operations-of-items l h.form.entries in
      let count : (1 ≤ length l) × (length l ≤ 48) = rw (length-map l motion_of) at h.allowed.count in
      record {
        front = h.front;
        one = rw (length-map l item_of) count.0;
        few = rw (length-map l item_of) count.1;
        same_bytes = h.same_bytes ∙ ap (λ (b : List ℕ). h.front ++ b) (written-items (G.edition k) (G.byte c) l);
        good = items-good k c (map item_of l) (form-good (G.lattice c) l h.form);
        allowed = rw there (h.allowed, h.further);
      }

  -- A buffer that ends with a record is read as the record's operations.
  pub holds-told : (bytes : List ℕ) (k : Kind) (c : Sign) (l : List Operation) → Holds bytes k c l → told_by (rules_of G) bytes ≡ holds k c (map item_of l)
  holds-told bytes k c l h = held-told (rules_of G) meaning_of bytes k c (map item_of l) (to_held bytes k c l h)

  -- Operations are told exactly if the buffer ends with their record.
  pub tells-exactly : (bytes : List ℕ) → Bytes bytes → (k : Kind) (c : Sign) (l : List Operation) → Tells bytes k c l ↔ Holds bytes k c l
  tells-exactly bytes g k c l = (
    (λ (items, e, q). subst (Holds bytes k c) q (from-held bytes k c items ((held-exactly (rules_of G) meaning_of bytes g k c items).0 e))),
    λ h. (map item_of l, holds-told bytes k c l h, operations-of-items l h.form.entries),
  )

-- ---- editions 1 and 3, and edition 1 alone
abbrev pub both_meaning : Meaning both_rules
both_meaning = meaning_of both_reading

abbrev pub first_meaning : Meaning first_rules
first_meaning = meaning_of first_reading

-- The reading is the rules: each refusal is given, and each record read, exactly when they say so.
pub read-exactly : (bytes : List ℕ) → Bytes bytes → (t : Told Item Sign Known) → (told_by both_rules bytes ≡ t) ↔ Outcome both_rules both_meaning bytes t
read-exactly bytes g t = told-exactly both_rules both_meaning bytes g t
