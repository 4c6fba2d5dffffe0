-- The invariant: whatever table the columns belong to, the cells passed are right and none is lost.
use mathlib.Core.Path.{◌≡◌}
use mathlib.Core.List.{List}
use Prim.Native.Nat.{ℕ, ◌*◌, ◌+◌, ◌<◌}
use lib.ListN.{get_or}
use Rattle.group_table.specs.Columns.{Kept, Within, Composing}
use Rattle.group_table.proofs.record.compose.Given as goal

abbrev pub invariant-loop-i : goal.invariant-loop-i
invariant-loop-i l =
    Within l.n l.initial.cells l.cells
    × ((table : List ℕ) → Composing l.n table l.initial.cells l.p l.g l.q → Kept table l.initial.cells l.cells
    × ((k : ℕ) → k < l.i → get_or l.cells (k * l.n + l.q) 0 ≡ get_or table (k * l.n + l.q) 0))
