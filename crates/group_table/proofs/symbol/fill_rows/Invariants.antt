-- The invariant: of any table that goes by the steps the cells hold the rows before row i.
use mathlib.Core.Path.{◌≡◌}
use mathlib.Core.List.{List}
use Prim.Native.Nat.{ℕ, ◌*◌}
use lib.ListN.{length}
use Rattle.group_table.specs.StepTables.{GoesBy}
use Rattle.group_table.specs.Overlay.{begun}
use Rattle.group_table.proofs.symbol.fill_rows.Given as goal

abbrev pub invariant-loop-i : goal.invariant-loop-i
invariant-loop-i l =
    (length l.cells ≡ length l.initial.cells) × ((table : List ℕ) → GoesBy l.count l.generators l.steps table → l.cells
    ≡ begun (l.i * l.count) table l.initial.cells)
