-- After each byte the state holds the numbers of the reading that the bytes so far reach.
use Rattle.operation_line.specs.Ended.{Holds}
use Rattle.operation_line.proofs.reader.read_line.Given as goal

abbrev pub invariant-loop-i : goal.invariant-loop-i
invariant-loop-i l = Holds l.line l.i l.state
