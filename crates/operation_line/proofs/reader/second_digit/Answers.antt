-- By the two tests.
use borrow.Author.Tests.{eq-eqb, ne_eqb, lt-ltb, le-ltb}
use Rattle.operation_line.specs.Numbers.{second_numbers}
use Rattle.operation_line.proofs.reader.second_digit.Goals as goal

pub returns-then-numerator-ne1 : goal.returns-then-numerator-ne1
unfolding second_numbers
returns-then-numerator-ne1 c = rw (ne_eqb _ _ c.if-numerator-ne1.true)

pub returns-then-digit-ge2 : goal.returns-then-digit-ge2
unfolding second_numbers
returns-then-digit-ge2 c = rw (eq-eqb _ _ c.if-numerator-ne1.false, le-ltb _ _ c.if-digit-ge2.true)

pub returns : goal.returns
unfolding second_numbers
returns c = rw (eq-eqb _ _ c.if-numerator-ne1.false, lt-ltb _ _ c.if-digit-ge2.false) c.ending.ensures
