-- The test of the byte.
use borrow.Author.Tests.{eq-eqb, ne_eqb}
use Rattle.hall_symbol.specs.Bytes.{opening}
use Rattle.magnetic_symbol.proofs.reversals.starting.Goals as goal

pub returns-then-byte-eq40 : goal.returns-then-byte-eq40
unfolding opening
returns-then-byte-eq40 c = rw (eq-eqb _ _ c.if-byte-eq40.true)

pub returns-else-byte-eq40 : goal.returns-else-byte-eq40
unfolding opening
returns-else-byte-eq40 c = rw (ne_eqb _ _ c.if-byte-eq40.false) c.marked.ensures
