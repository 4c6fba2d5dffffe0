-- The number that the refusal says itself, and no place.
use Rattle.motion_tables.proofs.record.in_numbers.Goals as goal

pub returns : goal.returns
returns c = rw c.number.ensures
