-- How the reader goes through the operations of items: a test of all of them, and slots filled one after the other.
use Rattle.std.specs.Prelude.{◌≡◌, Bool}
use Rattle.std.proofs.Math.Path.{refl, sym, ap, ap₂}
use Rattle.std.proofs.Common.{◌∙◌, add-one}
use mathlib.Core.List.{List, [], ◌∷◌, ◌++◌, map, map-append, append_assoc}
use Prim.Native.Nat.{ℕ, suc, ◌+◌, ◌-◌, ◌<◌, ◌≤◌}
use native.Mathlib.Omega.{arith}
use Rattle.std.proofs.Math.ListN.{length, take, set, replicate, length-map, length-append, length-replicate}
use Rattle.std.proofs.Math.Seq.{take-suc, take-length, set_at, length-take-le}
use Rattle.laws.specs.Truth.{all}
use Rattle.operation.specs.Product.{identity_operation}
use Rattle.operation.specs.declared.Operation.{Operation}
use Rattle.group_record.specs.Items.{item-at}
use Rattle.group_record.specs.BothEditions.{edition_of, width_in}
use Rattle.group_record.specs.Reading.{operation_of_item, slots}
use Rattle.group_record.specs.declared.Edition.{Edition as Known}
use Rattle.group_record.specs.declared.items.Item.{Item}
use Rattle.record_items.specs.Items.{items_of, item_at, items-count}

-- A test of operations is one of items.
pub all-operations : (test : Operation → Bool) (items : List Item) → all test (map operation_of_item items) ≡ all (λ i. test (operation_of_item i)) items
unfolding all
all-operations test [] = refl
all-operations test (i ∷ items) = rw (all-operations test items) refl

module _ (edition : Known) (n : ℕ) (bytes : List ℕ) where
  abbrev empty_item : Item
  empty_item = (edition_of edition).read []

  -- The operations of the first items, and the identity in the slots behind them.
  unfoldable pub filled_to : ℕ → List Operation
  filled_to i = map operation_of_item (take i (items_of edition n bytes)) ++ replicate (48 - i) identity_operation

  pub filled_next : (i : ℕ) → i < n → n ≤ 48 → set (filled_to i) i (operation_of_item (item_at edition bytes i)) ≡ filled_to (i + 1)
  unfolding filled_to item_at
  filled_next i h few =
      let long : length (map operation_of_item (take i (items_of edition n bytes))) ≡ i =
      length-map (take i (items_of edition n bytes)) operation_of_item ∙ length-take-le i (items_of edition n bytes)
      (omega (arith, items-count edition n bytes)) in
      let room : 48 - i ≡ suc (48 - (i + 1)) = omega arith in
      let more : take (i + 1) (items_of edition n bytes) ≡ take i (items_of edition n bytes) ++ (item_at edition bytes i ∷ []) =
      ap (λ (k : ℕ). take k (items_of edition n bytes)) (add-one i) ∙ take-suc (items_of edition n bytes) i empty_item
      (omega (arith, items-count edition n bytes))
      ∙ ap (λ (a : Item). take i (items_of edition n bytes) ++ (a ∷ [])) (item-at (width_in edition) (edition_of edition).read n bytes i empty_item h) in
      ap (λ (k : ℕ). set (map operation_of_item (take i (items_of edition n bytes)) ++ replicate k identity_operation) i
      (operation_of_item (item_at edition bytes i)))
      room
      ∙ set_at (map operation_of_item (take i (items_of edition n bytes))) identity_operation (replicate (48 - (i + 1)) identity_operation)
      (operation_of_item (item_at edition bytes i)) i long
      ∙ sym (ap (λ (l : List Item). map operation_of_item l ++ replicate (48 - (i + 1)) identity_operation) more
      ∙ ap (λ (l : List Operation). l ++ replicate (48 - (i + 1)) identity_operation)
      (map-append operation_of_item (take i (items_of edition n bytes)) (item_at edition bytes i ∷ []))
      ∙ append_assoc (map operation_of_item (take i (items_of edition n bytes)))
      (operation_of_item (item_at edition bytes i) ∷ []) (replicate (48 - (i + 1)) identity_operation))

  pub filled-start : filled_to 0 ≡ replicate 48 identity_operation
  unfolding filled_to
  filled-start = refl

  -- In the end the slots hold the operations.
  pub filled-end : (i : ℕ) → n ≤ i → i ≤ n → filled_to i ≡ slots (map operation_of_item (items_of edition n bytes))
  unfolding filled_to slots
  filled-end i h k =
      let end : i ≡ n = omega arith in
      let all-taken : take i (items_of edition n bytes) ≡ items_of edition n bytes =
      ap (λ (j : ℕ). take j (items_of edition n bytes)) (end ∙ sym (items-count edition n bytes)) ∙ take-length (items_of edition n bytes) in
      let count : i ≡ length (map operation_of_item (items_of edition n bytes)) =
      end ∙ sym (items-count edition n bytes) ∙ sym (length-map (items_of edition n bytes) operation_of_item) in
      ap₂ (λ (l : List Item) (j : ℕ). map operation_of_item l ++ replicate (48 - j) identity_operation) all-taken count

  pub filled-length : (i : ℕ) → i ≤ n → n ≤ 48 → length (filled_to i) ≡ 48
  unfolding filled_to
  filled-length i h few =
      let long : length (map operation_of_item (take i (items_of edition n bytes))) ≡ i =
      length-map (take i (items_of edition n bytes)) operation_of_item ∙ length-take-le i (items_of edition n bytes)
      (omega (arith, items-count edition n bytes)) in
      length-append (map operation_of_item (take i (items_of edition n bytes))) (replicate (48 - i) identity_operation)
      ∙ omega (arith, long, length-replicate (48 - i) identity_operation)
