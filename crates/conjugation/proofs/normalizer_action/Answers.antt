-- The check of the table, then the answer on its group.
use mathlib.Core.Path.{refl, sym, ◌∙◌}
use Rattle.table_check.specs.TableVerdict.{checked-table}
use Rattle.conjugation.proofs.normalizer_action.Goals as goal

pub permutation_in-requires : goal.permutation_in-requires
permutation_in-requires c = checked-table _ _ _ (sym c.from_table.ensures ∙ c.in-Ok.is)

pub returns-in-Ok : goal.returns-in-Ok
returns-in-Ok c = simp (sym c.from_table.ensures
    ∙ c.in-Ok.is) c.permutation_in.ensures

pub returns-in-Err : goal.returns-in-Err
returns-in-Err c = simp (sym c.from_table.ensures ∙ c.in-Err.is) (refl, refl)
