-- By the test of a full part.
use mathlib.Core.Path.{sym, ◌∙◌}
use Rattle.operation_line.proofs.reader.with_sign.Goals as goal

pub returns-then-is_full : goal.returns-then-is_full
returns-then-is_full c = rw (sym c.is_full.ensures ∙ c.if-is_full.true)

pub returns : goal.returns
returns c = rw (sym c.is_full.ensures ∙ c.if-is_full.false) c.ending.ensures
