-- By the question; an index below the count is that of a slot.
use mathlib.Core.Path.{◌∙◌}
use borrow.Author.Tests.{lt-ltb, le-ltb}
use Rattle.magnetic_numbers.proofs.symbol.answered.Goals as goal

pub returns-then-count-i : goal.returns-then-count-i
returns-then-count-i c =
    c.refused.ensures ∙ rw (c.in-Operation.is, le-ltb _ c.args.count c.if-count-i.true)

pub returns-else-count-i : goal.returns-else-count-i
returns-else-count-i c =
    c.flagged_number.ensures ∙ rw (c.in-Operation.is, lt-ltb _ c.args.count c.if-count-i.false)
