-- The generator at the index, packed.
use borrow.Author.Tests.{le-ltb, lt-ltb}
use Rattle.test_generators.proofs.generator_number.Goals as goal

pub returns-then-index-ge9 : goal.returns-then-index-ge9
returns-then-index-ge9 c = simp (le-ltb _ _ c.if-index-ge9.true)

pub returns : goal.returns
returns c = simp (c.rotation_code.ensures, lt-ltb _ _ c.if-index-ge9.false)
