-- The code computes what the definition says.
use Rattle.operation.specs.Lanes.{fours_of}
use borrow.Author.Rules.{rules}
use Rattle.operation.proofs.product.fours.Goals as goal

pub returns : goal.returns
unfolding fours_of
returns c = search rules
