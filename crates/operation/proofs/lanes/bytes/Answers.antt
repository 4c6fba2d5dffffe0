-- The code computes what the definition says.
use Rattle.operation.specs.Twelves.{bytes_of}
use borrow.Author.Rules.{rules}
use Rattle.operation.proofs.lanes.bytes.Goals as goal

pub returns : goal.returns
unfolding bytes_of
returns c = search rules
