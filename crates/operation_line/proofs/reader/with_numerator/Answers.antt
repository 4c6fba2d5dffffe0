-- By the two tests.
use borrow.Author.Tests.{eq-eqb, ne_eqb}
use Rattle.operation_line.specs.Numbers.{numerator_numbers}
use Rattle.operation_line.proofs.reader.with_numerator.Goals as goal

pub returns-then-numerator-eq0 : goal.returns-then-numerator-eq0
unfolding numerator_numbers
returns-then-numerator-eq0 c = rw (eq-eqb _ _ c.if-numerator-eq0.true)

pub returns-then-state-ne0 : goal.returns-then-state-ne0
unfolding numerator_numbers
returns-then-state-ne0 c = rw (ne_eqb _ _ c.if-numerator-eq0.false, ne_eqb _ _ c.if-state-ne0.true)

pub returns : goal.returns
unfolding numerator_numbers
returns c = rw (ne_eqb _ _ c.if-numerator-eq0.false, eq-eqb _ _ c.if-state-ne0.false) c.ending.ensures
