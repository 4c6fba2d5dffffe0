-- The invariant: of any table that goes by the steps the cells hold what comes before column j of row i.
use mathlib.Core.Path.{◌≡◌}
use mathlib.Core.List.{List}
use Prim.Native.Nat.{ℕ, ◌≤◌, ◌*◌, ◌+◌}
use lib.ListN.{length}
use Rattle.group_table.specs.StepTables.{GoesBy}
use Rattle.group_table.specs.Overlay.{begun}
use Rattle.group_table.proofs.symbol.fill_row.Given as goal

abbrev pub invariant-loop-j : goal.invariant-loop-j
invariant-loop-j l =
    (length l.cells ≡ length l.fn.cells)
    × ((table lent : List ℕ) → GoesBy l.count l.generators l.steps table → l.count * l.count ≤ length lent → l.fn.cells
    ≡ begun (l.i * l.count) table lent
    → l.cells ≡ begun (l.i * l.count + l.j) table lent)
