-- What is answered for a text: its group slot by slot, its order, an operation of it, a translation; or a refusal.
use Rattle.std.specs.Prelude.{cond, List, ℕ, ◌<◌, ltb, length, get_or, replicate, take, ◌≡◌, Err, None, Ok, Option, Result, Some}
use Rattle.operation.specs.Answer as answer
use Rattle.std.proofs.Common.{lt-ltb}
use Rattle.operation.specs.Doubles.{doubles_of}
use Rattle.operation.specs.Product.{identity_operation}
use Rattle.operation.specs.declared.Operation.{Operation}
use Rattle.operation.specs.declared.doubles.Doubles.{Doubles}
use Rattle.centering.specs.declared.Centering.{Centering}
use Rattle.centering.specs.declared.Centering.TheVariants.{P}
use Rattle.hall_symbol.specs.Reader.{Reading, symbol, refusal, read_symbol}
use Rattle.space_group.specs.Generated.{Outcome, group, refused, outcome_of}
use Rattle.space_group.specs.Traversal.{padded}
use Rattle.symbol_group.specs.Refusals.{number_of, place_of}
use Rattle.symbol_group.specs.declared.refusal.Refusal.{Refusal}
use Rattle.symbol_group.specs.declared.refusal.Refusal.TheVariants.{Text, Group as NoGroup}
use Rattle.symbol_group.specs.declared.Answer.{Answer}
use Rattle.symbol_group.specs.declared.Answer.TheVariants.{Group, Refused}
use Rattle.symbol_group.specs.declared.SymbolGroup.{SymbolGroup}
use Rattle.hall_symbol.specs.declared.refusal.Refusal.TheVariants.{TooLong}

-- ---- the group, slot by slot
-- A refusal carries number and place and no other data: letter P, no operations, no generators.
abbrev pub refused_answer : Refusal → SymbolGroup
refused_answer r =
    record {
      answer = Refused r;
      centering = P;
      count = 0;
      operations = replicate 48 identity_operation;
      generators = 0;
      steps = replicate 432 0;
    }

-- What n generators answer.
abbrev pub outcome_answer : Centering → ℕ → Outcome → SymbolGroup
outcome_answer c n (group operations steps) =
    record {
      answer = Group;
      centering = c;
      count = length operations;
      operations = padded 48 identity_operation operations;
      generators = n;
      steps = padded 432 0 steps;
    }
outcome_answer c n (refused r) = refused_answer (NoGroup r)

abbrev pub reading_answer : Reading → SymbolGroup
reading_answer (symbol c gens) = outcome_answer c (length gens) (outcome_of c gens)
reading_answer (refusal r) = refused_answer (Text r)

unfoldable pub symbol_answer : List ℕ → SymbolGroup
symbol_answer text = reading_answer (read_symbol text)

-- A text over 80 bytes is refused, whatever they are.
pub long-refused : (text : List ℕ) → 80 < length text → symbol_answer text ≡ refused_answer (Text TooLong)
unfolding symbol_answer read_symbol
long-refused text h = rw (lt-ltb 80 (length text) h)

-- ---- order, operation, translation
abbrev pub order_by : Answer → ℕ → Result ℕ Refusal
order_by Group count = Ok count
order_by (Refused r) count = Err r

unfoldable pub order_of : List ℕ → Result ℕ Refusal
order_of text = let g = symbol_answer text in order_by g.answer g.count

-- An index past the end is refused 28.
abbrev pub operation_by : Answer → ℕ → List Operation → ℕ → Result (Option Operation) Refusal
operation_by Group count operations i = cond (ltb i count) (Ok (Some (get_or operations i identity_operation))) (Ok None)
operation_by (Refused r) count operations i = Err r

unfoldable pub operation_at : List ℕ → ℕ → Result (Option Operation) Refusal
operation_at text i = let g = symbol_answer text in operation_by g.answer g.count g.operations i

abbrev pub translation_of_found : Result (Option Operation) Refusal → Result (Option Doubles) Refusal
translation_of_found (Ok (Some o)) = Ok (Some (doubles_of o.translation))
translation_of_found (Ok None) = Ok None
translation_of_found (Err r) = Err r

unfoldable pub translation_at : List ℕ → ℕ → Result (Option Doubles) Refusal
translation_at text i = translation_of_found (operation_at text i)

-- ---- in numbers
-- Each answer with what was asked for, or with the refusal's number and place. Of the group: its operations in list order.
abbrev pub operations_by : Answer → List Operation → answer.Answer (List Operation) answer.Nothing
operations_by Group operations = answer.given operations
operations_by (Refused r) operations = answer.refused (number_of r) (place_of r) tt

abbrev pub operations_answer : SymbolGroup → answer.Answer (List Operation) answer.Nothing
operations_answer g = operations_by g.answer (take g.count g.operations)

abbrev pub order_answer : Result ℕ Refusal → answer.Answer ℕ answer.Nothing
order_answer (Ok n) = answer.given n
order_answer (Err r) = answer.refused (number_of r) (place_of r) tt

abbrev pub operation_answer : Result (Option Operation) Refusal → answer.Answer Operation answer.Nothing
operation_answer (Ok (Some o)) = answer.given o
operation_answer (Ok None) = answer.refused 28 0 tt
operation_answer (Err r) = answer.refused (number_of r) (place_of r) tt

abbrev pub translation_answer : Result (Option Doubles) Refusal → answer.Answer Doubles answer.Nothing
translation_answer (Ok (Some d)) = answer.given d
translation_answer (Ok None) = answer.refused 28 0 tt
translation_answer (Err r) = answer.refused (number_of r) (place_of r) tt
