-- Nothing is kept, in zeros.
use mathlib.Core.Path.{refl}
use Rattle.lines.specs.Keeping.{stored}
use Rattle.lines.proofs.fresh.Goals as goal

pub returns : goal.returns
unfolding stored
returns c = refl
