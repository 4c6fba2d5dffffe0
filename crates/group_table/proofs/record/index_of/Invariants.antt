-- The invariant: the place is that in what is left, plus what was passed; so what was passed is less than the place, and the place is in the list.
use Rattle.std.proofs.Common.{◌≡◌, ◌-◌, ◌+◌, eqb, drop}
use Rattle.laws.specs.Growth.{place}
use Rattle.group_table.proofs.record.index_of.Given as goal

abbrev pub invariant-loop-i : goal.invariant-loop-i
invariant-loop-i l = place eqb l.code l.codes ≡ l.i + place eqb l.code (drop l.i l.codes)

abbrev pub decreases-loop-i : goal.decreases-loop-i
decreases-loop-i l = 48 - l.i
