-- The invariants: whatever table they belong to, the columns noted are right and no cell is lost; the column p too, of which the products are made.
use mathlib.Core.List.{List}
use Prim.Native.Nat.{ℕ, ◌-◌}
use Rattle.group_table.specs.Columns.{Correct, Within, Widening, Widened, WidenedTo}
use Rattle.group_table.proofs.record.widen.Given as goal

abbrev pub invariant-loop-i : goal.invariant-loop-i
invariant-loop-i l = WidenedTo l.n l.initial.cells l.initial.filled l.generators l.cells l.filled

abbrev pub decreases-loop-i : goal.decreases-loop-i
decreases-loop-i l = 48 - l.i

abbrev pub invariant-loop-generator : goal.invariant-loop-generator
invariant-loop-generator l =
    Within l.n l.fn.cells l.cells × ((table : List ℕ) → Widening l.n table l.fn.cells l.fn.filled l.generators
    → Widened l.n table l.fn.cells l.cells l.filled × Correct l.n table l.cells l.p)
