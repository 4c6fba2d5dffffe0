-- The loop's invariant: the products passed stand in the column, and nothing in front of it moved.
use mathlib.Core.Path.{◌≡◌}
use mathlib.Core.List.{map}
use Prim.Native.Nat.{ℕ, ◌<◌}
use lib.ListN.{length, get_or}
use Rattle.group_record.specs.Reading.{operation_of_item}
use Rattle.record_items.specs.Items.{items_of}
use Rattle.group_record.specs.Closing.{Leads}
use Rattle.record_items.proofs.allowed.make_column.Given as goal

abbrev pub invariant-loop-i : goal.invariant-loop-i
invariant-loop-i l =
    (length l.columns ≡ length l.initial.columns) × ((t : ℕ) → t < l.at → get_or l.columns t 0 ≡ get_or l.initial.columns t 0)
    × ((k : ℕ) → k < l.i → Leads l.c (map operation_of_item (items_of l.edition l.n l.bytes)) l.g l.columns l.at k)
