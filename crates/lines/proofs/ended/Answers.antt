-- Nothing is kept, and the line is handed over.
use mathlib.Core.Path.{ap}
use mathlib.Core.Bool.{true}
use mathlib.Core.List.{[]}
use Rattle.lines.specs.Keeping.{stored}
use Rattle.lines.specs.declared.Line.{Line}
use Rattle.lines.proofs.ended.Goals as goal

pub returns : goal.returns
unfolding stored
returns c =
    let a = c.args in
    ap (λ (l : Line). record { kept = stored a.kept.bytes []; taken = a.taken; finished = true; line = l }) c.line_of.ensures
