-- The check of the table decides.
use mathlib.Core.Path.{sym, ◌∙◌}
use Rattle.finite_group.proofs.identity.Goals as goal

pub returns-in-Ok : goal.returns-in-Ok
returns-in-Ok c = simp (sym c.from_table.ensures ∙ c.in-Ok.is)

pub returns-in-Err : goal.returns-in-Err
returns-in-Err c = simp (sym c.from_table.ensures ∙ c.in-Err.is)
