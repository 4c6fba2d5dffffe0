-- The loop's invariant: the buffer holds the report so far, and behind it what was there. The measure is how many steps the cursors have left.
use Prim.Native.Nat.{◌+◌, ◌-◌}
use Rattle.record_report.specs.Writing.{Stored}
use Rattle.record_report.proofs.entries.put_entries.Given as goal

abbrev pub invariant-loop-i : goal.invariant-loop-i
invariant-loop-i l = Stored l.first l.second l.n l.m l.initial.out l.out l.at l.i l.j

abbrev pub decreases-loop-i : goal.decreases-loop-i
decreases-loop-i l = l.n + l.m - (l.i + l.j)
