-- The three tests in turn.
use Rattle.std.proofs.Common.{arith}
use Rattle.std.proofs.lemmas.Grind.{common_steps}
use borrow.Author.Tests.{lt-ltb, le-ltb}
use Rattle.five_bytes.specs.FiveBytes.{below_twelve}
use Rattle.five_bytes.proofs.below_twelve.Goals as goal

pub returns-then-t-lt12-2 : goal.returns-then-t-lt12-2
unfolding below_twelve
returns-then-t-lt12-2 c = simp (lt-ltb _ 12 c.if-t-lt12-2.true.0, lt-ltb _ 12 c.if-t-lt12-2.true.1)

pub returns-else-t-lt12-2 : goal.returns-else-t-lt12-2
unfolding below_twelve
returns-else-t-lt12-2 c = grind (arith, common_steps, lt-ltb, le-ltb)
