-- By the part.
use borrow.Author.Tests.{eq-eqb, ne_eqb}
use Rattle.operation_line.specs.Numbers.{whole_numbers}
use Rattle.operation_line.proofs.reader.whole.Goals as goal

pub returns-then-state-ne2 : goal.returns-then-state-ne2
unfolding whole_numbers
returns-then-state-ne2 c = rw (ne_eqb _ _ c.if-state-ne2.true)

pub returns : goal.returns
unfolding whole_numbers
returns c = rw (eq-eqb _ _ c.if-state-ne2.false) c.operation_of.ensures
