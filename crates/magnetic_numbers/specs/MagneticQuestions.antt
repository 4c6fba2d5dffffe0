-- What can be asked of a magnetic symbol, what is answered, and that the list of its operations as numbers answers so.
use Rattle.std.specs.Prelude.{◌≡◌, refl, cond, List, ℕ, ltb, get_or, Option, Result}
use Rattle.std.proofs.Common.{ap, arith, lt-ltb, le-ltb}
use Rattle.std.proofs.Math.Decide.{dec_lt}
use Rattle.operation.specs.Answer.{Answer, given, refused, Nothing}
use Rattle.packed_operation.specs.Number.{said_by, flag_of}
use Rattle.centering.specs.Letters.{byte_of}
use Rattle.centering.specs.declared.Centering.{Centering}
use Rattle.space_group.specs.NumberGrowth.{flagged_said}
use Rattle.symbol_group.specs.Refusals.{number_of, place_of}
use Rattle.symbol_group.specs.declared.refusal.Refusal.{Refusal}
use Rattle.magnetic_group.specs.Answers.{group_by, slots_of, order_by, order_answer, letter_by, letter_answer, beside_flag, operation_by, operation_answer}
use Rattle.magnetic_group.specs.Numbers.{order-given, letter-given, order-refused, letter-refused, operation-refused, slots-listed, operation-past, operation-given}
use Rattle.magnetic_group.specs.Symbols.{SymbolOutcome, magnetic_outcome}
use Rattle.magnetic_group.specs.declared.Answer.TheVariants.{Group, Refused}
use Rattle.magnetic_group.specs.declared.MagneticGroup.{MagneticGroup}
use Rattle.answer_numbers.specs.Packing.{Told, Within, Low, mapped, letters, mapped-low}
use Rattle.magnetic_numbers.specs.FlaggedNumbers.{flagged_number, flagged_operations}
use Rattle.magnetic_numbers.specs.MagneticBounds.{order-within, letter-within, operation-within}
use Rattle.symbol_numbers.specs.declared.question.Question.{Question}
use Rattle.symbol_numbers.specs.declared.question.Question.TheVariants.{Order, Letter, Operation}
use Rattle.magnetic_group.specs.declared.FlaggedOperation.{FlaggedOperation}

-- What is answered.
abbrev pub answer_to : Question → SymbolOutcome → Answer ℕ Nothing
answer_to Order o = order_answer (order_by o)
answer_to Letter o = mapped byte_of (letter_answer (letter_by o))
answer_to (Operation i) o = mapped flagged_number (operation_answer (operation_by o i))

-- The same of a list of numbers, its letter and its length.
abbrev pub numbers_answer : Question → ℕ → Centering → List ℕ → Answer ℕ Nothing
numbers_answer Order count c numbers = given count
numbers_answer Letter count c numbers = given (byte_of c)
numbers_answer (Operation i) count c numbers = cond (ltb i count) (given (flagged_number (beside_flag (flagged_said (get_or numbers i 0))))) (refused 28 0 tt)

-- It can be packed.
pub answer-within : (q : Question) (text : List ℕ) → Within Low (answer_to q (magnetic_outcome text))
answer-within Order text = order-within text
answer-within Letter text = mapped-low letters (letter_answer (letter_by (magnetic_outcome text))) (letter-within text)
answer-within (Operation i) text = mapped-low flagged_operations (operation_answer (operation_by (magnetic_outcome text) i)) (operation-within text i)

module _ (text : List ℕ) (g : MagneticGroup) (e : g ≡ group_by (magnetic_outcome text)) where
  -- A text that is refused has one answer to all questions,
  pub refused-answer : (r : Refusal) → g.answer ≡ Refused r → (q : Question)
      → refused (number_of r) (place_of r) tt ≡ answer_to q (magnetic_outcome text)
  refused-answer r a Order = ap order_answer (order-refused text g e r a)
  refused-answer r a Letter = ap (λ (l : Result Centering Refusal). mapped byte_of (letter_answer l)) (letter-refused text g e r a)
  refused-answer r a (Operation i) =
      ap (λ (o : Result (Option FlaggedOperation) Refusal). mapped flagged_number (operation_answer o)) (operation-refused text g e r a i)

  -- which can be told;
  pub refused-told : (r : Refusal) → g.answer ≡ Refused r → Told (number_of r) (place_of r)
  refused-told r a = rw (← (refused-answer r a Order)) at (order-within text)

  -- and the list of one that is not has the others.
  pub list-answers : (slots : List ℕ) → slots ≡ slots_of text → g.answer ≡ Group → (q : Question)
      → numbers_answer q g.count g.centering slots ≡ answer_to q (magnetic_outcome text)
  list-answers slots h a Order = ap order_answer (order-given text g e a)
  list-answers slots h a Letter = ap (λ (l : Result Centering Refusal). mapped byte_of (letter_answer l)) (letter-given text g e a)
  list-answers slots h a (Operation i) =
      let L = slots-listed text g slots a e h in
      let told : Result (Option FlaggedOperation) Refusal → Answer ℕ Nothing = λ o. mapped flagged_number (operation_answer o) in
      elim (dec_lt i g.count) [
        | yes l ↦
            let n = get_or slots i 0 in
            rw (lt-ltb i g.count l) (ap told (operation-given text g.count slots L i 0 l (said_by n) refl (flag_of n) refl))
        | no l ↦ rw (le-ltb i g.count (omega arith)) (ap told (operation-past text g.count slots L i (omega arith)))
      ]
