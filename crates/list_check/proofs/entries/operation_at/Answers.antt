-- Each case of the five bytes.
use mathlib.Core.Path.{sym, ◌∙◌, ap}
use Rattle.list_check.specs.Checked.{operation_by, entry_at}
use Rattle.list_check.proofs.entries.operation_at.Goals as goal

pub returns-in-Some : goal.returns-in-Some
unfolding entry_at
returns-in-Some c = ap operation_by (sym c.in-Some.is ∙ c.entry.ensures)

pub returns-in-None : goal.returns-in-None
unfolding entry_at
returns-in-None c = c.identity.ensures ∙ ap operation_by (sym c.in-None.is ∙ c.entry.ensures)
