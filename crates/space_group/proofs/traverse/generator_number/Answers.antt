-- The contract of the number, its flag 0.
use Rattle.space_group.specs.NumberGrowth.{generator_number}
use Rattle.space_group.proofs.traverse.generator_number.Goals as goal

pub returns : goal.returns
unfolding generator_number
returns c = c.number.ensures
