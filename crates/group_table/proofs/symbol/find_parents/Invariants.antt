-- The invariant: of what the steps looked at so far lead to, whence it comes is noted.
use mathlib.Core.Path.{◌≡◌}
use lib.ListN.{length}
use Rattle.group_table.specs.StepTables.{AllComeUpTo}
use Rattle.group_table.proofs.symbol.find_parents.Given as goal

abbrev pub invariant-loop-at : goal.invariant-loop-at
invariant-loop-at l = (length l.parents ≡ 48) × AllComeUpTo l.at l.count l.generators l.steps l.parents
