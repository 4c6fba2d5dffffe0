-- The sum fits, so the code computes what the definition says, term by term.
use native.Mathlib.Omega.{arith}
use Rattle.operation.specs.Code.{code_of}
use Rattle.operation.proofs.code.rotation_code.Goals as goal

pub returns : goal.returns
unfolding code_of
returns c = omega arith
