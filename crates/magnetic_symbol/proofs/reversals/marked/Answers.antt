-- The test of the byte.
use borrow.Author.Tests.{eq-eqb, ne_eqb}
use Rattle.magnetic_symbol.specs.TimeReversals.{prime}
use Rattle.magnetic_symbol.proofs.reversals.marked.Goals as goal

pub returns-then-byte-eq39 : goal.returns-then-byte-eq39
unfolding prime
returns-then-byte-eq39 c = rw (eq-eqb _ _ c.if-byte-eq39.true)

pub returns-else-byte-eq39 : goal.returns-else-byte-eq39
unfolding prime
returns-else-byte-eq39 c = rw (ne_eqb _ _ c.if-byte-eq39.false)
