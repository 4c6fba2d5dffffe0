-- What is answered for a magnetic symbol's text can be packed: orders are at most 96, operations have entries in −1..1 and coordinates below 12, and places
-- are those of the text without its time reversals.
use Rattle.std.specs.Prelude.{◌≡◌, refl, Bool, true, false, cond, ℕ, ◌≤◌, ltb, length, get_or, None, Ok, Some}
use Rattle.std.proofs.Common.{ap, arith, ltb-true}
use mathlib.Core.List.{List, Memᴰ as Mem}
use Rattle.group_growth.specs.Flagged.{Flagged, held}
use Rattle.operation.specs.Entries.{digits-entries}
use Rattle.operation.specs.Product.{identity_operation}
use Rattle.operation.specs.declared.Operation.{Operation}
use Rattle.centering.specs.declared.Centering.{Centering}
use Rattle.hall_token.specs.Answers.{Reduced}
use Rattle.hall_symbol.specs.Answers.{symbol-count}
use Rattle.hall_symbol.specs.declared.refusal.Refusal as text-refusal
use Rattle.space_group.specs.FlaggedGenerators.{with_flags, plain-with}
use Rattle.space_group.specs.declared.refusal.Refusal as generators
use Rattle.space_group.specs.declared.refusal.Refusal.TheVariants.{Lattice, Rotations, Translations}
use Rattle.laws.specs.Indices.{member-at}
use Rattle.symbol_group.specs.Refusals.{number_of, place_of}
use Rattle.symbol_group.specs.declared.refusal.Refusal.TheVariants.{Text, Group as NoGroup}
use Rattle.magnetic_group.specs.Acceptance.{MagneticAccepted}
use Rattle.magnetic_group.specs.Answers.{order_by, order_answer, letter_by, letter_answer, beside_flag, operation_by, operation_answer}
use Rattle.magnetic_group.specs.Generated.{group, refused}
use Rattle.magnetic_group.specs.Members.{at-most-96, pair-generated, translation-below}
use Rattle.magnetic_group.specs.Symbols.{SymbolOutcome, made, misread, magnetic_outcome, made-spelled, symbol-list, symbol-twelve}
use Rattle.magnetic_group.specs.Told.{told, text-exactly}
use Rattle.magnetic_numbers.specs.FlaggedNumbers.{ReducedFlagged}
use Rattle.answer_numbers.specs.Packing.{Told, Close, near, Within, Low, AnyLetter}
use Rattle.symbol_numbers.specs.SymbolBounds.{text-close}

-- ---- places
module _ (text : List ℕ) where
  -- 1 to 11 and 17 are those of the text without its time reversals, which has its length.
  misread-close : (r : text-refusal.Refusal) → magnetic_outcome text ≡ misread r → Close (number_of (Text r)) (place_of (Text r))
  unfolding told
  misread-close r e =
      let refuses = (text-exactly text r).0 (ap (λ (o : SymbolOutcome). order_answer (order_by o)) e) in
      text-close refuses.copy r refuses.refuses

  -- 12 is at a generator's index, of which there are at most nine; 13 and 14 are at 0.
  refused-close : (c : Centering) (r : generators.Refusal) → magnetic_outcome text ≡ made c (refused r)
      → Close (number_of (NoGroup r)) (place_of (NoGroup r))
  refused-close c (Lattice i) e =
      let (gs, fs, spells, _) = made-spelled text c (refused (Lattice i)) e in
      let off = (symbol-twelve text c gs fs spells i).0 e in
      let (low, high) = symbol-count spells.copy c gs spells.spells in
      let many = ap length (plain-with gs fs) in
      let within = off.within in
      record { some = omega arith; one_byte = omega arith; at_most = omega arith }
  refused-close c Rotations e = record { some = omega arith; one_byte = omega arith; at_most = omega arith }
  refused-close c Translations e = record { some = omega arith; one_byte = omega arith; at_most = omega arith }

  -- So they can be told.
  pub misread-told : (r : text-refusal.Refusal) → magnetic_outcome text ≡ misread r → Told (number_of (Text r)) (place_of (Text r))
  misread-told r e = let h = misread-close r e in near h.some h.one_byte h.at_most

  pub refused-told : (c : Centering) (r : generators.Refusal) → magnetic_outcome text ≡ made c (refused r)
      → Told (number_of (NoGroup r)) (place_of (NoGroup r))
  refused-told c r e = let h = refused-close c r e in near h.some h.one_byte h.at_most

  -- ---- the list
  module _ (c : Centering) (listed : List (Flagged Operation)) (steps : List ℕ) (e : magnetic_outcome text ≡ made c (group listed steps)) where
    -- An accepted list has at most 96 operations,
    pub few : length listed ≤ 96
    few =
        let (gs, fs, spells, _) = made-spelled text c (group listed steps) e in
        at-most-96 c (with_flags gs fs) listed steps (symbol-list text c gs fs spells listed steps e)

    -- each of a generated rotation, with a translation below 12.
    member-reduced : (o : Flagged Operation) → Mem o listed → Reduced o.element
    member-reduced o m =
        let (gs, fs, spells, _) = made-spelled text c (group listed steps) e in
        let A : MagneticAccepted c (with_flags gs fs) listed steps = symbol-list text c gs fs spells listed steps e in
        let below = translation-below c (with_flags gs fs) listed steps A o m in
        let turn = pair-generated c (with_flags gs fs) listed steps A o m in
        record { digits = (digits-entries o.element.rotation).1 (A.small _ turn); x = below.0; y = below.1; z = below.2 }

  -- ---- the answers
  order-by : (o : SymbolOutcome) → magnetic_outcome text ≡ o → Within Low (order_answer (order_by o))
  order-by (made c (group listed steps)) e = omega (arith, few c listed steps e)
  order-by (made c (refused r)) e = refused-told c r e
  order-by (misread r) e = misread-told r e

  -- A magnetic symbol's order can be packed,
  pub order-within : Within Low (order_answer (order_by (magnetic_outcome text)))
  order-within = order-by (magnetic_outcome text) refl

  letter-by : (o : SymbolOutcome) → magnetic_outcome text ≡ o → Within AnyLetter (letter_answer (letter_by o))
  letter-by (made c (group listed steps)) e = tt
  letter-by (made c (refused r)) e = refused-told c r e
  letter-by (misread r) e = misread-told r e

  -- its letter,
  pub letter-within : Within AnyLetter (letter_answer (letter_by (magnetic_outcome text)))
  letter-within = letter-by (magnetic_outcome text) refl

  operation-by : (i : ℕ) (o : SymbolOutcome) → magnetic_outcome text ≡ o → Within ReducedFlagged (operation_answer (operation_by o i))
  operation-by i (made c (group listed steps)) e = by-test (ltb i (length listed)) refl
    where
      by-test : (b : Bool) → ltb i (length listed) ≡ b
          → Within ReducedFlagged (operation_answer (cond b (Ok (Some (beside_flag (get_or listed i (held identity_operation))))) (Ok None)))
      by-test true t =
          member-reduced c listed steps e (get_or listed i (held identity_operation)) (member-at listed i (held identity_operation)
          (ltb-true i (length listed) t))
      by-test false t = near (omega arith) (omega arith) (omega arith)
  operation-by i (made c (refused r)) e = refused-told c r e
  operation-by i (misread r) e = misread-told r e

  -- and each of its operations with its flag.
  pub operation-within : (i : ℕ) → Within ReducedFlagged (operation_answer (operation_by (magnetic_outcome text) i))
  operation-within i = operation-by i (magnetic_outcome text) refl
