-- The loop's invariant: the neighbours passed ascend, so what is left decides.
use Rattle.group_record.specs.Reading.{item_before}
use Rattle.laws.specs.Sorted.{ascending}
use lib.ListN.{drop}
use mathlib.Core.Path.{◌≡◌}
use Rattle.record_items.specs.Items.{items_of}
use Rattle.record_items.proofs.rules.codes_ascend.Given as goal

abbrev pub invariant-loop-i : goal.invariant-loop-i
invariant-loop-i l = (ascending item_before (drop l.i (items_of l.edition l.n l.bytes)) ≡ ascending item_before (items_of l.edition l.n l.bytes))
