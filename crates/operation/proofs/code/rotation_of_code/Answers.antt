-- Below the bound the digits are quotients and remainders, as in the definition; above it both refuse.
use borrow.Author.Tests.{le-ltb, lt-ltb}
use Rattle.operation.specs.Code.{rotation_of}
use Rattle.operation.proofs.code.rotation_of_code.Goals as goal

pub returns-then-code-ge19683 : goal.returns-then-code-ge19683
returns-then-code-ge19683 c = simp (le-ltb _ _ c.if-code-ge19683.true)

pub returns : goal.returns
unfolding rotation_of
returns c = simp (lt-ltb _ _ c.if-code-ge19683.false)
