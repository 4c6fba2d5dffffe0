-- The code computes what the definition says.
use Rattle.packed_operation.specs.Number.{flag_of}
use borrow.Author.Rules.{rules}
use Rattle.packed_operation.proofs.flag.Goals as goal

pub returns : goal.returns
unfolding flag_of
returns c = search rules
