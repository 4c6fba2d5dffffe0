-- What is answered for a magnetic symbol's text: the group, its order, its letter, an operation of it, and its list as numbers; or a refusal, 28 for an index
-- past the end.
use Rattle.std.specs.Prelude.{cond, List, ℕ, ltb, length, get_or, take, Err, None, Ok, Option, Result, Some}
use Rattle.group_growth.specs.Flagged.{Flagged, held}
use Rattle.operation.specs.Answer as answer
use Rattle.operation.specs.Product.{identity_operation}
use Rattle.operation.specs.declared.Operation.{Operation}
use Rattle.centering.specs.declared.Centering.{Centering}
use Rattle.centering.specs.declared.Centering.TheVariants.{P}
use Rattle.space_group.specs.FlaggedGenerators.{with_flags}
use Rattle.space_group.specs.FlaggedOutcomes.{number_outcome, slots_by}
use Rattle.symbol_group.specs.Refusals.{number_of, place_of}
use Rattle.symbol_group.specs.declared.refusal.Refusal.{Refusal}
use Rattle.symbol_group.specs.declared.refusal.Refusal.TheVariants.{Text, Group as NoGroup}
use Rattle.magnetic_symbol.specs.Answer.{magnetic_answer}
use Rattle.magnetic_symbol.specs.declared.MagneticSymbol.{MagneticSymbol}
use Rattle.magnetic_group.specs.Generated.{group, refused}
use Rattle.magnetic_group.specs.Symbols.{SymbolOutcome, made, misread}
use Rattle.magnetic_group.specs.declared.Answer.TheVariants.{Group, Refused}
use Rattle.magnetic_group.specs.declared.MagneticGroup.{MagneticGroup}
use Rattle.magnetic_group.specs.declared.FlaggedOperation.{FlaggedOperation}
use Rattle.space_group.specs.declared.refusal.Refusal.{Refusal as GroupRefusal}

-- ---- the group
-- A refusal carries number and place and no other data.
abbrev pub refused_answer : Refusal → MagneticGroup
refused_answer r = record { answer = Refused r; centering = P; count = 0 }

-- What generators answer.
abbrev pub made_answer : Centering → Result ℕ GroupRefusal → MagneticGroup
made_answer c (Ok count) = record { answer = Group; centering = c; count = count }
made_answer c (Err r) = refused_answer (NoGroup r)

abbrev pub group_by : SymbolOutcome → MagneticGroup
group_by (made c (group operations steps)) = record { answer = Group; centering = c; count = length operations }
group_by (made c (refused r)) = refused_answer (NoGroup r)
group_by (misread r) = refused_answer (Text r)

-- The generators of a text with their flags, none where it is refused,
abbrev pub generators_of : MagneticSymbol → List (Flagged Operation)
generators_of m = let n = m.symbol.count in with_flags (take n m.symbol.generators) (take n m.flags)

-- and the slots of its list.
unfoldable pub slots_of : List ℕ → List ℕ
slots_of text = let m = magnetic_answer text in slots_by (number_outcome m.symbol.centering (generators_of m))

-- ---- order, letter, operation
abbrev pub order_by : SymbolOutcome → Result ℕ Refusal
order_by (made c (group operations steps)) = Ok (length operations)
order_by (made c (refused r)) = Err (NoGroup r)
order_by (misread r) = Err (Text r)

abbrev pub letter_by : SymbolOutcome → Result Centering Refusal
letter_by (made c (group operations steps)) = Ok c
letter_by (made c (refused r)) = Err (NoGroup r)
letter_by (misread r) = Err (Text r)

-- An operation beside its flag.
abbrev pub beside_flag : Flagged Operation → FlaggedOperation
beside_flag f = record { operation = f.element; flag = f.flag }

abbrev pub operation_by : SymbolOutcome → ℕ → Result (Option FlaggedOperation) Refusal
operation_by (made c (group operations steps)) i =
    cond (ltb i (length operations)) (Ok (Some (beside_flag (get_or operations i (held identity_operation))))) (Ok None)
operation_by (made c (refused r)) i = Err (NoGroup r)
operation_by (misread r) i = Err (Text r)

-- ---- in numbers
-- Each answer with what was asked for, or with the refusal's number and place.
abbrev pub order_answer : Result ℕ Refusal → answer.Answer ℕ answer.Nothing
order_answer (Ok n) = answer.given n
order_answer (Err r) = answer.refused (number_of r) (place_of r) tt

abbrev pub letter_answer : Result Centering Refusal → answer.Answer Centering answer.Nothing
letter_answer (Ok c) = answer.given c
letter_answer (Err r) = answer.refused (number_of r) (place_of r) tt

abbrev pub operation_answer : Result (Option FlaggedOperation) Refusal → answer.Answer FlaggedOperation answer.Nothing
operation_answer (Ok (Some f)) = answer.given f
operation_answer (Ok None) = answer.refused 28 0 tt
operation_answer (Err r) = answer.refused (number_of r) (place_of r) tt
