-- The loop's invariant: the lowest code of the operations passed.
use mathlib.Core.Path.{◌≡◌}
use Rattle.list_check.specs.Slots.{code_found, unseen_below}
use Rattle.list_check.proofs.comparing.lowest_missing.Given as goal

abbrev pub invariant-loop-k : goal.invariant-loop-k
invariant-loop-k l = l.lowest ≡ code_found (unseen_below l.seen l.operations l.k)
