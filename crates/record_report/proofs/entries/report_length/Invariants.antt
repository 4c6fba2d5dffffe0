-- The loop's invariant: the length so far and that of what is left make the whole. The measure is how many steps the cursors have left.
use Prim.Native.Nat.{◌+◌, ◌-◌}
use Rattle.record_report.specs.Writing.{Counted}
use Rattle.record_report.proofs.entries.report_length.Given as goal

abbrev pub invariant-loop-i : goal.invariant-loop-i
invariant-loop-i l = Counted l.first l.second l.n l.m l.size l.i l.j

abbrev pub decreases-loop-i : goal.decreases-loop-i
decreases-loop-i l = l.n + l.m - (l.i + l.j)
