-- The loop's invariant: none of the bytes that are taken ends the line, and they have joined it.
use Rattle.lines.specs.Taking.{Taking}
use Rattle.lines.proofs.take_line.Given as goal

abbrev pub invariant-loop-i : goal.invariant-loop-i
invariant-loop-i l = Taking l.kept l.piece l.line l.i
