-- What is answered for a layer symbol's text: its group slot by slot, its order, its letter, an operation of it; or a refusal.
use Rattle.std.specs.Prelude.{cond, List, ℕ, ◌+◌, ltb, get_or, replicate, take, Err, None, Ok, Option, Result, Some}
use Rattle.operation.specs.Answer as answer
use Rattle.operation.specs.Product.{identity_operation}
use Rattle.operation.specs.declared.Operation.{Operation}
use Rattle.centering.specs.Letters.{byte_of}
use Rattle.centering.specs.declared.Centering.{Centering}
use Rattle.centering.specs.declared.Centering.TheVariants.{P}
use Rattle.symbol_group.specs.Answers.{symbol_answer}
use Rattle.symbol_group.specs.declared.Answer as plain
use Rattle.symbol_group.specs.declared.Answer.TheVariants as plain-answer
use Rattle.symbol_group.specs.declared.SymbolGroup.{SymbolGroup}
use Rattle.layer_group.specs.Capitals.{capitalised}
use Rattle.layer_group.specs.Layers.{front}
use Rattle.layer_group.specs.Refusals.{number_of, place_of}
use Rattle.layer_group.specs.declared.refusal.Refusal.{Refusal}
use Rattle.layer_group.specs.declared.refusal.Refusal.TheVariants.{Symbol, NoLayer}
use Rattle.layer_group.specs.declared.Answer.{Answer}
use Rattle.layer_group.specs.declared.Answer.TheVariants.{Group, Refused}
use Rattle.layer_group.specs.declared.LayerGroup.{LayerGroup}

-- ---- the group, slot by slot
-- A refusal carries number and place and no other data: letter P, no operations.
abbrev pub refused_answer : Refusal → LayerGroup
refused_answer r = record { answer = Refused r; centering = P; count = 0; operations = replicate 48 identity_operation }

-- The plain symbol's group, if every operation is one of a layer; else 19 at the first that is none.
abbrev pub layered_group : Centering → ℕ → List Operation → LayerGroup
layered_group c count operations =
    cond (ltb (front (take count operations)) count)
    (refused_answer (NoLayer (front (take count operations))))
    (record { answer = Group; centering = c; count = count; operations = operations })

-- The plain symbol's refusals go before 19.
abbrev pub layered_by : plain.Answer → Centering → ℕ → List Operation → LayerGroup
layered_by plain-answer.Group c count operations = layered_group c count operations
layered_by (plain-answer.Refused r) c count operations = refused_answer (Symbol r)

abbrev pub layered : SymbolGroup → LayerGroup
layered g = layered_by g.answer g.centering g.count g.operations

-- A layer symbol is read as the plain symbol with its letter in capitals.
unfoldable pub layer_answer : List ℕ → LayerGroup
layer_answer text = layered (symbol_answer (capitalised text))

-- ---- order, letter, operation
abbrev pub order_by : Answer → ℕ → Result ℕ Refusal
order_by Group count = Ok count
order_by (Refused r) count = Err r

unfoldable pub order_of : List ℕ → Result ℕ Refusal
order_of text = let g = layer_answer text in order_by g.answer g.count

-- The small letter is 32 behind the capital.
abbrev pub small_of : Centering → ℕ
small_of c = byte_of c + 32

abbrev pub letter_by : Answer → Centering → Result ℕ Refusal
letter_by Group c = Ok (small_of c)
letter_by (Refused r) c = Err r

unfoldable pub letter_of : List ℕ → Result ℕ Refusal
letter_of text = let g = layer_answer text in letter_by g.answer g.centering

-- An index past the end is refused 28.
abbrev pub operation_by : Answer → ℕ → List Operation → ℕ → Result (Option Operation) Refusal
operation_by Group count operations i = cond (ltb i count) (Ok (Some (get_or operations i identity_operation))) (Ok None)
operation_by (Refused r) count operations i = Err r

unfoldable pub operation_at : List ℕ → ℕ → Result (Option Operation) Refusal
operation_at text i = let g = layer_answer text in operation_by g.answer g.count g.operations i

-- ---- in numbers
-- Each answer with what was asked for, or with the refusal's number and place. Of the group: its operations in list order.
abbrev pub operations_by : Answer → List Operation → answer.Answer (List Operation) answer.Nothing
operations_by Group operations = answer.given operations
operations_by (Refused r) operations = answer.refused (number_of r) (place_of r) tt

abbrev pub operations_answer : LayerGroup → answer.Answer (List Operation) answer.Nothing
operations_answer g = operations_by g.answer (take g.count g.operations)

abbrev pub order_answer : Result ℕ Refusal → answer.Answer ℕ answer.Nothing
order_answer (Ok n) = answer.given n
order_answer (Err r) = answer.refused (number_of r) (place_of r) tt

abbrev pub letter_answer : Result ℕ Refusal → answer.Answer ℕ answer.Nothing
letter_answer (Ok b) = answer.given b
letter_answer (Err r) = answer.refused (number_of r) (place_of r) tt

abbrev pub operation_answer : Result (Option Operation) Refusal → answer.Answer Operation answer.Nothing
operation_answer (Ok (Some o)) = answer.given o
operation_answer (Ok None) = answer.refused 28 0 tt
operation_answer (Err r) = answer.refused (number_of r) (place_of r) tt
