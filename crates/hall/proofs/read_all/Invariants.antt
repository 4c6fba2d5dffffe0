-- What was read so far is answered.
use Rattle.std.specs.Prelude.{[]}
use Rattle.lines.specs.Keeping.{held}
use Rattle.hall.specs.Moved.{Moves}
use Rattle.hall.proofs.read_all.Given as goal

abbrev pub invariant-loop : goal.invariant-loop
invariant-loop g l =
    Moves (g.I.Read.remaining l.initial.input) (g.I.Read.remaining l.input) (g.W.Write.contents l.initial.out) (g.W.Write.contents l.out) [] (held l.kept)
