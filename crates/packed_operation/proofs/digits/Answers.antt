-- The code computes what the definition says.
use Rattle.packed_operation.specs.Number.{digit_lanes}
use borrow.Author.Rules.{rules}
use Rattle.packed_operation.proofs.digits.Goals as goal

pub returns : goal.returns
unfolding digit_lanes
returns c = search rules
