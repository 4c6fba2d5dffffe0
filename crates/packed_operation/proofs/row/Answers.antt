-- The code computes what the definition says.
use Rattle.packed_operation.specs.Number.{row_digits}
use borrow.Author.Rules.{rules}
use Rattle.packed_operation.proofs.row.Goals as goal

pub returns : goal.returns
unfolding row_digits
returns c = search rules
