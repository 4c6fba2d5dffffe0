-- `to_doubles` divides each coordinate. Assumes nothing.
use Rattle.operation.specs.Doubles.{doubles_of}
use Rattle.operation.proofs.doubles.to_doubles.Goals as goal

pub returns : goal.returns
unfolding doubles_of
returns c = rw (c.over_twelve.ensures, c.over_twelve-2.ensures, c.over_twelve-3.ensures)
