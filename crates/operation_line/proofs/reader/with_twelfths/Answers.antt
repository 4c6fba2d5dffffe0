-- By the sign.
use Rattle.operation_line.specs.Numbers.{fraction_numbers}
use Rattle.operation_line.proofs.reader.with_twelfths.Goals as goal

pub returns-then-negative : goal.returns-then-negative
unfolding fraction_numbers
returns-then-negative c = rw c.if-negative.true c.told.ensures

pub returns : goal.returns
unfolding fraction_numbers
returns c = rw c.if-negative.false c.told-2.ensures
