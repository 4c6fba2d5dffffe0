-- The loop's invariant: none of the items passed is alike, so the place is among what is left.
use mathlib.Core.Path.{◌≡◌}
use Prim.Native.Nat.{◌+◌}
use lib.ListN.{drop}
use Rattle.laws.specs.Growth.{place}
use Rattle.group_record.specs.Record.{item_of}
use Rattle.group_record.specs.Reading.{alike_items}
use Rattle.record_items.specs.Items.{items_of}
use Rattle.record_items.proofs.allowed.listed_at.Given as goal

abbrev pub invariant-loop-i : goal.invariant-loop-i
invariant-loop-i l =
    (l.i + place (alike_items l.c) (item_of l.f) (drop l.i (items_of l.edition l.n l.bytes))
    ≡ place (alike_items l.c) (item_of l.f) (items_of l.edition l.n l.bytes))
