-- `from_doubles` asks of each component in turn. Assumes nothing.
use mathlib.Core.Path.{sym, ◌∙◌}
use Rattle.operation.specs.Doubles.{on_grid, grid_answer, number-on-grid, number-off-grid}
use Rattle.operation.proofs.doubles.from_doubles.Goals as goal

pub returns-in_default : goal.returns-in_default
unfolding on_grid grid_answer
returns-in_default c = simp (number-off-grid _ (sym c.grid_number.ensures ∙ c.in_default.is))

pub returns-in_default-grid_number : goal.returns-in_default-grid_number
unfolding on_grid grid_answer
returns-in_default-grid_number c =
    let x = number-on-grid _ _ (sym c.grid_number.ensures ∙ c.in-Some.is) in
    simp (x.0, number-off-grid _ (sym c.grid_number-2.ensures ∙ c.in_default-grid_number.is))

pub returns-in_default-grid_number-2 : goal.returns-in_default-grid_number-2
unfolding on_grid grid_answer
returns-in_default-grid_number-2 c =
    let x = number-on-grid _ _ (sym c.grid_number.ensures ∙ c.in-Some.is) in
    let y = number-on-grid _ _ (sym c.grid_number-2.ensures ∙ c.in-Some-grid_number.is) in
    simp (x.0, y.0, number-off-grid _ (sym c.grid_number-3.ensures ∙ c.in_default-grid_number-2.is))

pub returns : goal.returns
unfolding on_grid grid_answer
returns c =
    let x = number-on-grid _ _ (sym c.grid_number.ensures ∙ c.in-Some.is) in
    let y = number-on-grid _ _ (sym c.grid_number-2.ensures ∙ c.in-Some-grid_number.is) in
    let z = number-on-grid _ _ (sym c.grid_number-3.ensures ∙ c.in-Some-grid_number-2.is) in
    simp (x.0, y.0, z.0, x.1, y.1, z.1)
