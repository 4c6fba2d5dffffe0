-- `over_twelve` divides by the program's 12.0, which is 12 rounded. Assumes nothing.
use mathlib.Core.Path.{refl}
use lib.Ieee.{of_int, of_bits}
use Rattle.operation.specs.Doubles.{quotient}
use Rattle.operation.proofs.doubles.over_twelve.Goals as goal

pub returns : goal.returns
unfolding quotient of_int of_bits
returns c = refl
