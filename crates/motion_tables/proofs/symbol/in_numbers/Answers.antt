-- The number and the place that the refusal says itself.
use Rattle.motion_tables.proofs.symbol.in_numbers.Goals as goal

pub returns : goal.returns
returns c = rw (c.number.ensures, c.place.ensures)
