-- What is answered for a symbol's text can be packed: orders are at most 48, operations have entries in −1..1 and coordinates below 12, and places
-- are at most 80.
use Rattle.std.specs.Prelude.{◌≡◌, refl, Bool, true, false, cond, ℕ, ◌-◌, ◌<◌, ltb, length, get_or, replicate, Err, None, Ok, Some}
use mathlib.Core.List.{List, Memᴰ as Mem}
use Rattle.std.proofs.Common.{arith, ltb-true}
use Rattle.std.proofs.Math.ListN.{get_or-append}
use Rattle.operation.specs.Entries.{digits-entries}
use Rattle.operation.specs.Meaning.{matrix_of}
use Rattle.operation.specs.Product.{identity_operation}
use Rattle.operation.specs.declared.Operation.{Operation}
use Rattle.centering.specs.declared.Centering.{Centering}
use Rattle.hall_token.specs.Answers.{Reduced}
use Rattle.hall_symbol.specs.Spelling.{Refuses}
use Rattle.hall_symbol.specs.Answers.{symbol-count}
use Rattle.hall_symbol.specs.Told.{number-range, place-within}
use Rattle.hall_symbol.specs.Agreement.{symbol-exactly}
use Rattle.hall_symbol.specs.Reader.{Reading, symbol, refusal, read_symbol}
use Rattle.hall_symbol.specs.Refusals as text
use Rattle.hall_symbol.specs.declared.refusal.Refusal as text-refusal
use Rattle.space_group_theorems.specs.Acceptance.{SmallGenerators, accepted-list}
use Rattle.laws.specs.Indices.{member-at}
use Rattle.space_group.specs.Generated.{Outcome, group, refused, outcome_of}
use Rattle.space_group_theorems.specs.Members.{translation-below, rotation-generated}
use Rattle.space_group.specs.declared.refusal.Refusal.TheVariants.{Lattice, Rotations, Translations}
use Rattle.symbol_group.specs.Answers.{outcome_answer, reading_answer, symbol_answer, order_by, order_of, order_answer, operation_by, operation_at, operation_answer}
use Rattle.symbol_group.specs.Exactly.{symbol-small, text-exactly, lattice-exactly}
use Rattle.symbol_group.specs.Slots.{symbol-slots}
use Rattle.symbol_group.specs.Refusals.{number_of, place_of}
use Rattle.symbol_group.specs.declared.Answer.{Answer}
use Rattle.symbol_group.specs.declared.Answer.TheVariants.{Group, Refused}
use Rattle.symbol_group.specs.declared.refusal.Refusal.{Refusal}
use Rattle.symbol_group.specs.declared.refusal.Refusal.TheVariants.{Text, Group as NoGroup}
use Rattle.record_writing.specs.Copying.{room_for}
use Rattle.record_writing.specs.SymbolRecords.{written_by, symbol_record_of, symbol_record_answer}
use Rattle.symbol_numbers.specs.Answers.{letter_by, letter_answer}
use Rattle.answer_numbers.specs.Packing.{Told, Close, near, Within, Low, AnyLetter}
use Rattle.record_writing.specs.declared.Unwritten.TheVariants.{NoRoom}

-- ---- places
-- 1 to 11 and 17: numbers and places of a text are small.
pub text-close : (bytes : List ℕ) (r : text-refusal.Refusal) → Refuses bytes r → Close (text.number_of r) (text.place_of r)
text-close bytes r h =
    let (some, few) = number-range r in
    record { some = omega arith; one_byte = omega arith; at_most = place-within bytes r h }

-- 12 at a generator's index, of which there are at most nine; 13 and 14 at 0.
pub symbol-close : (bytes : List ℕ) (r : Refusal) → (symbol_answer bytes).answer ≡ Refused r → Close (number_of r) (place_of r)
symbol-close bytes (Text r) e = text-close bytes r ((text-exactly bytes r).0 e)
symbol-close bytes (NoGroup (Lattice i)) e =
    let (c, gens, spells, off) = (lattice-exactly bytes i).0 e in
    let (low, high) = symbol-count bytes c gens spells in
    let within = off.within in
    record { some = omega arith; one_byte = omega arith; at_most = omega arith }
symbol-close bytes (NoGroup Rotations) e = record { some = omega arith; one_byte = omega arith; at_most = omega arith }
symbol-close bytes (NoGroup Translations) e = record { some = omega arith; one_byte = omega arith; at_most = omega arith }

-- So they can be told.
pub symbol-told : (bytes : List ℕ) (r : Refusal) → (symbol_answer bytes).answer ≡ Refused r → Told (number_of r) (place_of r)
symbol-told bytes r e = let h = symbol-close bytes r e in near h.some h.one_byte h.at_most

-- ---- the order
-- By the answer of the symbol's group: at most 48, or its refusal.
order-by : (bytes : List ℕ) (a : Answer) → (symbol_answer bytes).answer ≡ a → Within Low (order_answer (order_by a (symbol_answer bytes).count))
order-by bytes Group e = omega (arith, (symbol-slots bytes).0)
order-by bytes (Refused r) e = symbol-told bytes r e

-- A symbol's order can be packed.
pub order-within : (bytes : List ℕ) → Within Low (order_answer (order_of bytes))
unfolding order_of
order-within bytes = order-by bytes (symbol_answer bytes).answer refl

-- ---- an operation
module _ (c : Centering) (gens : List Operation) (small : SmallGenerators gens) where
  -- The list of an accepted symbol holds generated rotations, with translations below 12.
  listed-reduced : (operations : List Operation) (steps : List ℕ) → outcome_of c gens ≡ group operations steps → (o : Operation) → Mem o operations → Reduced o
  listed-reduced operations steps e o m =
      let A = accepted-list c gens small operations steps e in
      let below = translation-below c gens operations steps A o m in
      let turn = rotation-generated c gens operations steps A o m in
      record { digits = (digits-entries o.rotation).1 (A.small (matrix_of o.rotation) turn); x = below.0; y = below.1; z = below.2 }

  -- So do the slots in use,
  outcome-reduced : (n : ℕ) (o : Outcome) → outcome_of c gens ≡ o → (i : ℕ) → i < (outcome_answer c n o).count
      → Reduced (get_or (outcome_answer c n o).operations i identity_operation)
  outcome-reduced n (group operations steps) e i h =
      rw (get_or-append operations (replicate (48 - length operations) identity_operation) identity_operation i h)
      (listed-reduced operations steps e (get_or operations i identity_operation) (member-at operations i identity_operation h))
  outcome-reduced n (refused r) e i h = absurd (omega arith)

-- whatever the text was read as.
reading-reduced : (bytes : List ℕ) (s : Reading) → read_symbol bytes ≡ s → (i : ℕ) → i < (reading_answer s).count
    → Reduced (get_or (reading_answer s).operations i identity_operation)
reading-reduced bytes (symbol c gens) e i h =
    outcome-reduced c gens (symbol-small bytes c gens ((symbol-exactly bytes c gens).0 e)) (length gens) (outcome_of c gens) refl i h
reading-reduced bytes (refusal r) e i h = absurd (omega arith)

-- An operation of a symbol has entries in −1..1 and a translation 0 to 11.
pub symbol-reduced : (bytes : List ℕ) (i : ℕ) → i < (symbol_answer bytes).count → Reduced (get_or (symbol_answer bytes).operations i identity_operation)
unfolding symbol_answer
symbol-reduced bytes i h = reading-reduced bytes (read_symbol bytes) refl i h

-- An index past the end is refused at 0.
past_end : Told 28 0
past_end = near (omega arith) (omega arith) (omega arith)

-- By the answer of the symbol's group, and by the index.
operation-by : (bytes : List ℕ) (i : ℕ) (a : Answer) → (symbol_answer bytes).answer ≡ a
    → Within Reduced (operation_answer (operation_by a (symbol_answer bytes).count (symbol_answer bytes).operations i))
operation-by bytes i Group e = by-test (ltb i (symbol_answer bytes).count) refl
  where
    by-test : (b : Bool) → ltb i (symbol_answer bytes).count ≡ b
        → Within Reduced (operation_answer (cond b (Ok (Some (get_or (symbol_answer bytes).operations i identity_operation))) (Ok None)))
    by-test true t = symbol-reduced bytes i (ltb-true i (symbol_answer bytes).count t)
    by-test false t = past_end
operation-by bytes i (Refused r) e = symbol-told bytes r e

-- So can each of its operations,
pub operation-within : (bytes : List ℕ) (i : ℕ) → Within Reduced (operation_answer (operation_at bytes i))
unfolding operation_at
operation-within bytes i = operation-by bytes i (symbol_answer bytes).answer refl

-- ---- the letter
-- By the answer of the symbol's group.
letter-by : (bytes : List ℕ) (a : Answer) → (symbol_answer bytes).answer ≡ a → Within AnyLetter (letter_by a (symbol_answer bytes).centering)
letter-by bytes Group e = tt
letter-by bytes (Refused r) e = symbol-told bytes r e

-- its letter,
pub letter-within : (bytes : List ℕ) → Within AnyLetter (letter_answer (symbol_answer bytes))
letter-within bytes = letter-by bytes (symbol_answer bytes).answer refl

-- ---- the record
-- By the answer of the symbol's group, and by the room for the record.
record-by : (bytes : List ℕ) (start size : ℕ) (a : Answer) → (symbol_answer bytes).answer ≡ a
    → Within Low (symbol_record_answer (written_by a (symbol_answer bytes).count start size))
record-by bytes start size Group e = by-room (room_for start (symbol_answer bytes).count size)
  where
    by-room : (b : Bool) → Within Low (symbol_record_answer (cond b (Ok (symbol_answer bytes).count) (Err NoRoom)))
    by-room true = omega (arith, (symbol-slots bytes).0)
    by-room false = near (omega arith) (omega arith) (omega arith)
record-by bytes start size (Refused r) e = symbol-told bytes r e

-- and the answer of its record.
pub record-within : (bytes out : List ℕ) (start : ℕ) → Within Low (symbol_record_answer (symbol_record_of bytes out start))
unfolding symbol_record_of
record-within bytes out start = record-by bytes start (length out) (symbol_answer bytes).answer refl
