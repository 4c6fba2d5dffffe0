-- The invariants: the columns before j are filled, and column j as far as row i, whichever letter the operations are allowed with, since the loops
-- themselves have no letter.
use mathlib.Core.Path.{◌≡◌}
use mathlib.Core.List.{map}
use Prim.Native.Nat.{◌≤◌}
use lib.ListN.{length, take}
use Rattle.operation.specs.Meaning.{motion_of}
use Rattle.centering.specs.declared.Centering.{Centering}
use Rattle.group_record.specs.Groups.{Allowed}
use Rattle.group_table.specs.Tables.{table_of}
use Rattle.group_table.specs.Columns.{Within, Filling, FillingColumn}
use Rattle.group_table.proofs.record.fill_rows.Given as goal

abbrev pub invariant-loop-j : goal.invariant-loop-j
invariant-loop-j l =
    (l.m ≤ l.j) × (length l.generators ≡ 48) × Within l.n l.fn.cells l.cells
    × ((letter : Centering) → Allowed letter (map motion_of (take l.n l.operations))
    → Filling l.n (table_of letter (take l.n l.operations)) l.cells l.filled l.generators l.m l.j)

abbrev pub invariant-loop-i : goal.invariant-loop-i
invariant-loop-i l =
    Within l.n l.fn.cells l.cells
    × ((letter : Centering) → Allowed letter (map motion_of (take l.n l.operations))
    → FillingColumn l.n (table_of letter (take l.n l.operations)) l.cells l.filled l.generators l.m l.i l.j)
