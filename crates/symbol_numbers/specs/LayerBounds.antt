-- What is answered for a layer symbol's text can be packed: an accepted one has the order and the operations of the text with its capital letter, and 19 is
-- at the index of an operation.
use Rattle.std.specs.Prelude.{◌≡◌, Bool, true, false, cond, List, ℕ, ◌≤◌, ltb, length, get_or, take, Err, None, Ok, Some}
use Rattle.std.proofs.Math.Path.{refl}
use Rattle.std.proofs.Common.{arith, ltb-true}
use Rattle.operation.specs.Product.{identity_operation}
use Rattle.operation.specs.declared.Operation.{Operation}
use Rattle.centering.specs.declared.Centering.{Centering}
use Rattle.hall_token.specs.Answers.{Reduced}
use Rattle.symbol_group.specs.Answers.{symbol_answer}
use Rattle.symbol_group.specs.Slots.{symbol-slots}
use Rattle.symbol_group.specs.declared.Answer as plain
use Rattle.symbol_group.specs.declared.Answer.TheVariants as plain-answer
use Rattle.layer_group.specs.Answers.{layered_by, layer_answer, order_by, order_of, order_answer, letter_by, letter_of, letter_answer, operation_by, operation_at, operation_answer}
use Rattle.layer_group.specs.Capitals.{capitalised}
use Rattle.layer_group.specs.Layers.{front}
use Rattle.layer_group.specs.Refusals.{number_of, place_of}
use Rattle.layer_group.specs.Slots.{layer-places, small-fits}
use Rattle.layer_group.specs.Told.{passing, layer-table}
use Rattle.layer_group.specs.declared.Answer.{Answer}
use Rattle.layer_group.specs.declared.Answer.TheVariants.{Group, Refused}
use Rattle.layer_group.specs.declared.refusal.Refusal.{Refusal}
use Rattle.layer_group.specs.declared.refusal.Refusal.TheVariants.{Symbol, NoLayer}
use Rattle.record_writing.specs.Copying.{room_for}
use Rattle.record_writing.specs.LayerRecords.{layer_written_by, layer_record_of, layer_record_answer}
use Rattle.answer_numbers.specs.Packing.{Told, near, Within, Low}
use Rattle.symbol_numbers.specs.SymbolBounds.{symbol-told, symbol-reduced}
use Rattle.record_writing.specs.declared.Unwritten.TheVariants.{NoRoom}

-- ---- places
module _ (bytes : List ℕ) where
  -- By the answer of the text with the capital letter: its own refusal, or 19 below its order.
  told-by : (a : plain.Answer) → (symbol_answer (capitalised bytes)).answer ≡ a → (c : Centering) (n : ℕ) (l : List Operation) → n ≤ 48
      → (r : Refusal) → (layered_by a c n l).answer ≡ Refused r → Told (number_of r) (place_of r)
  told-by plain-answer.Group e c n l few r a = by-test (ltb (front (take n l)) n) refl a
    where
      by-test : (b : Bool) → ltb (front (take n l)) n ≡ b → (passing b c n l).answer ≡ Refused r → Told (number_of r) (place_of r)
      by-test true t a =
          let same : NoLayer (front (take n l)) ≡ r = cc in
          let low = ltb-true (front (take n l)) n t in
          rw (← same) (near (omega arith) (omega arith) (omega arith))
      by-test false t a = let z : ◌≡◌ {A = ℕ} 0 1 = cc in absurd (omega arith)
  told-by (plain-answer.Refused q) e c n l few r a =
      let same : Symbol q ≡ r = cc in
      rw (← same) (symbol-told (capitalised bytes) q e)

  -- A layer symbol's refusal can be told.
  pub layer-told : (r : Refusal) → (layer_answer bytes).answer ≡ Refused r → Told (number_of r) (place_of r)
  unfolding layer_answer
  layer-told r a =
      let g = symbol_answer (capitalised bytes) in
      told-by g.answer refl g.centering g.count g.operations (symbol-slots (capitalised bytes)).0 r a

-- ---- the order
order-by : (bytes : List ℕ) (a : Answer) → (layer_answer bytes).answer ≡ a → Within Low (order_answer (order_by a (layer_answer bytes).count))
order-by bytes Group e = omega (arith, (layer-places bytes).0)
order-by bytes (Refused r) e = layer-told bytes r e

-- A layer symbol's order can be packed.
pub order-within : (bytes : List ℕ) → Within Low (order_answer (order_of bytes))
unfolding order_of
order-within bytes = order-by bytes (layer_answer bytes).answer refl

-- ---- the letter
letter-by : (bytes : List ℕ) (a : Answer) → (layer_answer bytes).answer ≡ a → Within Low (letter_answer (letter_by a (layer_answer bytes).centering))
letter-by bytes Group e = omega (arith, small-fits (layer_answer bytes).centering)
letter-by bytes (Refused r) e = layer-told bytes r e

-- So can its letter,
pub letter-within : (bytes : List ℕ) → Within Low (letter_answer (letter_of bytes))
unfolding letter_of
letter-within bytes = letter-by bytes (layer_answer bytes).answer refl

-- ---- an operation
operation-by : (bytes : List ℕ) (i : ℕ) (a : Answer) → (layer_answer bytes).answer ≡ a
    → Within Reduced (operation_answer (operation_by a (layer_answer bytes).count (layer_answer bytes).operations i))
operation-by bytes i Group e = by-test (ltb i (layer_answer bytes).count) refl
  where
    by-test : (b : Bool) → ltb i (layer_answer bytes).count ≡ b
        → Within Reduced (operation_answer (cond b (Ok (Some (get_or (layer_answer bytes).operations i identity_operation))) (Ok None)))
    by-test true t =
        let (_, _, counts, lists) = layer-table bytes e in
        rw lists (symbol-reduced (capitalised bytes) i (rw (← counts) (ltb-true i (layer_answer bytes).count t)))
    by-test false t = near (omega arith) (omega arith) (omega arith)
operation-by bytes i (Refused r) e = layer-told bytes r e

-- and each of its operations.
pub operation-within : (bytes : List ℕ) (i : ℕ) → Within Reduced (operation_answer (operation_at bytes i))
unfolding operation_at
operation-within bytes i = operation-by bytes i (layer_answer bytes).answer refl

-- ---- the record
record-by : (bytes : List ℕ) (start size : ℕ) (a : Answer) → (layer_answer bytes).answer ≡ a
    → Within Low (layer_record_answer (layer_written_by a (layer_answer bytes).count start size))
record-by bytes start size Group e = by-room (room_for start (layer_answer bytes).count size)
  where
    by-room : (b : Bool) → Within Low (layer_record_answer (cond b (Ok (layer_answer bytes).count) (Err NoRoom)))
    by-room true = omega (arith, (layer-places bytes).0)
    by-room false = near (omega arith) (omega arith) (omega arith)
record-by bytes start size (Refused r) e = layer-told bytes r e

-- So can the answer of its record.
pub record-within : (bytes out : List ℕ) (start : ℕ) → Within Low (layer_record_answer (layer_record_of bytes out start))
unfolding layer_record_of
record-within bytes out start = record-by bytes start (length out) (layer_answer bytes).answer refl
