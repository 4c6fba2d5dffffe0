-- The symbol's order decides.
use mathlib.Core.Path.{sym, ◌∙◌}
use Rattle.motion_group.proofs.symbol.order.Goals as goal

pub returns-in-Ok : goal.returns-in-Ok
returns-in-Ok c = simp (sym c.order.ensures ∙ c.in-Ok.is)

pub returns-in-Err : goal.returns-in-Err
returns-in-Err c = simp (sym c.order.ensures ∙ c.in-Err.is, c.in_numbers.ensures)
