-- The invariants: the slots show a growth of which exactly what lies ahead is left to do.
use Rattle.std.proofs.Common.{◌-◌, ◌<◌, length}
use Rattle.space_group.specs.NumberSlots.{Growing}
use Rattle.space_group.proofs.traverse.traverse.Given as goal

abbrev pub invariant-loop-i : goal.invariant-loop-i
invariant-loop-i l = Growing l.c l.generators l.fn.numbers l.numbers l.fn.steps l.steps l.hints l.count l.steady l.made l.i 0

abbrev pub decreases-loop-i : goal.decreases-loop-i
decreases-loop-i l = length l.fn.numbers - l.i

abbrev pub invariant-loop-right : goal.invariant-loop-right
invariant-loop-right l =
    Growing l.c l.generators l.fn.numbers l.numbers l.fn.steps l.steps l.hints l.count l.steady l.made l.i l.right-index × (l.i < l.count)
