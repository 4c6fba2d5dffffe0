-- The code computes what the definition says.
use Rattle.packed_operation.specs.Number.{twelfth_lanes}
use borrow.Author.Rules.{rules}
use Rattle.packed_operation.proofs.twelfths.Goals as goal

pub returns : goal.returns
unfolding twelfth_lanes
returns c = search rules
