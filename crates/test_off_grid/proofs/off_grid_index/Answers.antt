-- What the answer's case says, read off the definition of the way back.
use mathlib.Core.Path.{sym, ◌∙◌, ap}
use Rattle.operation.specs.Doubles.{grid_answer}
use Rattle.test_off_grid.specs.Component.{off_grid_index}
use Rattle.test_off_grid.proofs.off_grid_index.Goals as goal

pub returns-in-Ok : goal.returns-in-Ok
unfolding grid_answer
returns-in-Ok c =
    ap (off_grid_index) (sym (ap grid_answer c.in-Ok.is) ∙ c.from_doubles.ensures)

pub returns-in-Err : goal.returns-in-Err
unfolding grid_answer
returns-in-Err c =
    ap (off_grid_index) (sym (ap grid_answer c.in-Err.is) ∙ c.from_doubles.ensures)
