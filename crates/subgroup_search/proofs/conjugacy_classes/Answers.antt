-- The check of the table, then the list.
use mathlib.Core.Path.{refl, sym, ◌∙◌}
use Rattle.subgroup_laws.specs.Lists.{representatives_of}
use Rattle.table_check.specs.TableVerdict.{checked-table}
use Rattle.subgroup_search.proofs.conjugacy_classes.Goals as goal

pub list_sets-requires : goal.list_sets-requires
list_sets-requires c = checked-table _ _ _ (sym c.from_table.ensures ∙ c.in-Ok.is)

pub returns-in-Ok : goal.returns-in-Ok
unfolding representatives_of
returns-in-Ok c = simp (sym c.from_table.ensures
    ∙ c.in-Ok.is) c.list_sets.ensures

pub returns-in-Err : goal.returns-in-Err
returns-in-Err c = simp (sym c.from_table.ensures ∙ c.in-Err.is) (refl, refl)
