-- By cases of the source; the table is handed on.
use mathlib.Core.Path.{refl, ◌∙◌, ap}
use Rattle.motion_tables.specs.Answers.{of_table}
use Rattle.motion_tables.proofs.table.conjugates_in.Goals as goal

pub returns-in-Ok : goal.returns-in-Ok
returns-in-Ok c =
    rw c.in-Ok.is (c.told.ensures ∙ ap of_table c.conjugates.ensures.0, c.conjugates.ensures.1, c.conjugates.ensures.2)

pub returns-in-Err : goal.returns-in-Err
returns-in-Err c = rw c.in-Err.is (refl, refl, refl)
