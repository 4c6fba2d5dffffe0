-- Nothing, and zeros behind it.
use mathlib.Core.Path.{refl}
use Rattle.lines.specs.Keeping.{line_in}
use Rattle.lines.proofs.no_line.Goals as goal

pub returns : goal.returns
unfolding line_in
returns c = refl
