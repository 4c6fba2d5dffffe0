-- What each answer says: its number, its place, and its value. What is answered on subgroups is said in the rooms that find it.
use Rattle.std.specs.Prelude.{List, ℕ, Err, Ok, Result}
use Rattle.operation.specs.Answer as answer
use Rattle.table_check.specs.CheckAnswers.{check_of}
use Rattle.table_check.specs.declared.Refusal.{Refusal}
use Rattle.table_check.specs.declared.Refusal.TheVariants.{Order, Cells, Identity, Inverse, Associativity, Slots, Subgroup, Element, Normalizer}
pub use Rattle.table_check.specs.OnGroup.{on_group, on_bytes}
unfoldable pub use Rattle.subgroup_search.specs.Answers.{list_answer, list_bytes}
pub use Rattle.subgroup_search.specs.Answers.{subgroups_answer, subgroups_bytes, classes_answer, classes_bytes}
unfoldable pub use Rattle.conjugation.specs.Answers.{
  conjugate_answer,
  normalizer_answer,
  permutation_answer,
  permutation_bytes,
  conjugates_answer,
  conjugates_bytes,
  conjugators_bytes,
}
pub use Rattle.conjugation.specs.Answers.{
  of_normalizer,
  conjugate_entry,
  normalizer_entry,
  permutation_entry,
  permutation_list,
  conjugates_entry,
  conjugates_list,
  conjugators_list,
}

-- the numbers of the refusals
unfoldable pub number_of : Refusal → ℕ
number_of Order = 21
number_of Cells = 22
number_of Identity = 23
number_of Inverse = 24
number_of Associativity = 25
number_of Slots = 26
number_of Subgroup = 27
number_of Element = 28
number_of Normalizer = 29

-- their place is 0
unfoldable pub place_of : Refusal → ℕ
place_of r = 0

-- what an answer on a table says
abbrev pub table_answer : Result ℕ Refusal → answer.Answer ℕ answer.Nothing
table_answer (Ok v) = answer.given v
table_answer (Err r) = answer.refused (number_of r) (place_of r) tt

-- the order of a table's group
abbrev pub order_answer : ℕ → List ℕ → Result ℕ Refusal
order_answer n t = on_group (check_of n t) (λ e. Ok n)

-- its identity
abbrev pub identity_answer : ℕ → List ℕ → Result ℕ Refusal
identity_answer n t = on_group (check_of n t) (λ e. Ok e)
