-- The check of the table, then the answer on its group.
use mathlib.Core.Path.{refl, sym, ◌∙◌}
use Rattle.table_check.specs.TableVerdict.{checked-table}
use Rattle.conjugation.proofs.conjugates.Goals as goal

pub conjugates_in-requires : goal.conjugates_in-requires
conjugates_in-requires c = checked-table _ _ _ (sym c.from_table.ensures
    ∙ c.in-Ok.is)

pub returns-in-Ok : goal.returns-in-Ok
returns-in-Ok c = simp (sym c.from_table.ensures
    ∙ c.in-Ok.is) c.conjugates_in.ensures

pub returns-in-Err : goal.returns-in-Err
returns-in-Err c = simp (sym c.from_table.ensures ∙ c.in-Err.is) (refl, refl, refl)
