-- By cases of the source; the table is handed on.
use mathlib.Core.Path.{◌∙◌, ap}
use Rattle.motion_tables.specs.Answers.{of_table}
use Rattle.motion_tables.proofs.table.normalizer_in.Goals as goal

pub returns-in-Ok : goal.returns-in-Ok
returns-in-Ok c =
    rw c.in-Ok.is (c.told.ensures ∙ ap of_table c.normalizer.ensures)

pub returns-in-Err : goal.returns-in-Err
returns-in-Err c = rw c.in-Err.is
