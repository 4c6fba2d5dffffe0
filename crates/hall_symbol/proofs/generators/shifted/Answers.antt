-- Coordinate by coordinate.
use Rattle.hall_symbol.specs.Generators.{shifted}
use Rattle.hall_symbol.proofs.generators.shifted.Goals as goal

pub returns : goal.returns
unfolding shifted
returns c = simp (c.shifted_coordinate-x.ensures, c.shifted_coordinate-y.ensures, c.shifted_coordinate-z.ensures)
