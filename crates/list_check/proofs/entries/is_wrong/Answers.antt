-- Each case of the five bytes.
use mathlib.Core.Path.{sym, ◌∙◌, ap}
use Rattle.list_check.specs.Checked.{is_wrong, wrong_at}
use Rattle.list_check.proofs.entries.is_wrong.Goals as goal

pub returns-in-None : goal.returns-in-None
unfolding wrong_at
returns-in-None c = ap is_wrong (sym c.in-None.is ∙ c.entry.ensures)

pub returns-in_default : goal.returns-in_default
unfolding wrong_at
returns-in_default c = ap is_wrong (sym c.in_default.is ∙ c.entry.ensures)
