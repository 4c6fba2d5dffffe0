-- Each refusal is that of the group.
use mathlib.Core.Path.{sym, ap}
use Rattle.symbol_group.specs.Slots.{answer_by}
use Rattle.symbol_group.proofs.answer_of.Goals as goal

pub returns-in-Refused : goal.returns-in-Refused
returns-in-Refused c = ap answer_by (sym c.in-Refused.is)
