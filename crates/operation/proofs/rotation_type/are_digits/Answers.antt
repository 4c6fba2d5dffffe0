-- `are_digits`: the tests in turn. Assumes nothing.
use Rattle.std.proofs.Common.{arith}
use Rattle.std.proofs.lemmas.Grind.{common_steps}
use borrow.Author.Tests.{le-leb, lt-leb}
use Rattle.operation.specs.DigitDeterminant.{are_digits}
use Rattle.operation.proofs.rotation_type.are_digits.Goals as goal

pub returns-then-b-le2 : goal.returns-then-b-le2
unfolding are_digits
returns-then-b-le2 c = simp (le-leb _ _ c.if-b-le2.true.0, le-leb _ _ c.if-b-le2.true.1)

pub returns-else-b-le2 : goal.returns-else-b-le2
unfolding are_digits
returns-else-b-le2 c = grind (arith, common_steps, le-leb, lt-leb)
