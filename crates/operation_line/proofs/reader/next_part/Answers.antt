-- By the part's test.
use borrow.Author.Tests.{lt-ltb, le-ltb}
use Rattle.operation_line.specs.Numbers.{next_numbers}
use Rattle.operation_line.proofs.reader.next_part.Goals as goal

pub returns-then-state-ge2 : goal.returns-then-state-ge2
unfolding next_numbers
returns-then-state-ge2 c = rw (le-ltb _ _ c.if-state-ge2.true)

pub returns : goal.returns
unfolding next_numbers
returns c = rw (lt-ltb _ _ c.if-state-ge2.false)
