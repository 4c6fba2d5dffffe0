-- The numbers and places of R8, 12 to 14, and what the answer of this room is in numbers: the one place where they stand.
use Rattle.std.specs.Prelude.{List, ℕ, take}
use Rattle.operation.specs.Answer as answer
use Rattle.operation.specs.declared.Operation.{Operation}
use Rattle.space_group.specs.declared.refusal.Refusal.{Refusal}
use Rattle.space_group.specs.declared.refusal.Refusal.TheVariants.{Lattice, Rotations, Translations}
use Rattle.space_group.specs.declared.Answer.{Answer}
use Rattle.space_group.specs.declared.Answer.TheVariants.{Group, Refused}
use Rattle.space_group.specs.declared.SpaceGroup.{SpaceGroup}

abbrev pub number_of : Refusal → ℕ
number_of (Lattice i) = 12
number_of Rotations = 13
number_of Translations = 14

abbrev pub place_of : Refusal → ℕ
place_of (Lattice i) = i
place_of Rotations = 0
place_of Translations = 0

-- The operations in list order, or the refusal's number and place.
abbrev pub operations_by : Answer → List Operation → answer.Answer (List Operation) answer.Nothing
operations_by Group operations = answer.given operations
operations_by (Refused r) operations = answer.refused (number_of r) (place_of r) tt

abbrev pub operations_answer : SpaceGroup → answer.Answer (List Operation) answer.Nothing
operations_answer g = operations_by g.answer (take g.count g.operations)
