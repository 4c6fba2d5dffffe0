-- What is answered on the subgroups of a table's group, and on their classes.
use Rattle.std.specs.Prelude.{cond, List, ℕ, ◌/◌, ltb, length, Err, Ok, Result}
use Rattle.subgroup_laws.specs.Lists.{subgroups_of, representatives_of}
use Rattle.subgroup_laws.specs.Slots.{written, cleared}
use Rattle.subgroup_laws.specs.Table.{product}
use Rattle.table_check.specs.OnGroup.{on_group, on_bytes}
use Rattle.table_check.specs.CheckAnswers.{check_of}
use Rattle.table_check.specs.declared.Refusal.TheVariants.{Slots}
use Rattle.table_check.specs.declared.Refusal.{Refusal}

-- the length of a list of sets, if the lent bytes have as many slots
unfoldable pub list_answer : List ℕ → List ℕ → Result ℕ Refusal
list_answer l b = cond (ltb (length b / 8) (length l)) (Err Slots) (Ok (length l))

-- what the lent bytes hold then: the list, or zeros
unfoldable pub list_bytes : List ℕ → List ℕ → List ℕ
list_bytes l b = cond (ltb (length b / 8) (length l)) (cleared b) (written l b)

-- the list of subgroups
abbrev pub subgroups_answer : ℕ → List ℕ → List ℕ → Result ℕ Refusal
subgroups_answer n t b = on_group (check_of n t) (λ e. list_answer (subgroups_of n (product n t) e) b)

-- and what the lent bytes hold then
abbrev pub subgroups_bytes : ℕ → List ℕ → List ℕ → List ℕ
subgroups_bytes n t b = on_bytes (check_of n t) b (λ e. list_bytes (subgroups_of n (product n t) e) b)

-- the representatives of the classes
abbrev pub classes_answer : ℕ → List ℕ → List ℕ → Result ℕ Refusal
classes_answer n t b = on_group (check_of n t) (λ e. list_answer (representatives_of n (product n t) e) b)

-- and what the lent bytes hold then
abbrev pub classes_bytes : ℕ → List ℕ → List ℕ → List ℕ
classes_bytes n t b = on_bytes (check_of n t) b (λ e. list_bytes (representatives_of n (product n t) e) b)
