-- By the two tests.
use borrow.Author.Tests.{eq-eqb, ne_eqb, lt-ltb, le-ltb}
use Rattle.operation_line.specs.Numbers.{twelve_numbers}
use Rattle.operation_line.proofs.reader.over_twelve.Goals as goal

pub returns-then-digit-ne2 : goal.returns-then-digit-ne2
unfolding twelve_numbers
returns-then-digit-ne2 c = rw (ne_eqb _ _ c.if-digit-ne2.true)

pub returns-then-numerator-ge12 : goal.returns-then-numerator-ge12
unfolding twelve_numbers
returns-then-numerator-ge12 c = rw (eq-eqb _ _ c.if-digit-ne2.false, le-ltb _ _ c.if-numerator-ge12.true)

pub returns : goal.returns
unfolding twelve_numbers
returns c = rw (eq-eqb _ _ c.if-digit-ne2.false, lt-ltb _ _ c.if-numerator-ge12.false) c.with_twelfths.ensures
