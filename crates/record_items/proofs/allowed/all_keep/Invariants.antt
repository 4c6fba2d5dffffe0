-- The loop's invariant: the rotations passed keep the lattice, so what is left decides.
use mathlib.Core.Path.{◌≡◌}
use lib.ListN.{drop}
use Rattle.laws.specs.Truth.{all}
use Rattle.group_record.specs.Reading.{keeps_item}
use Rattle.record_items.specs.Items.{items_of}
use Rattle.record_items.proofs.allowed.all_keep.Given as goal

abbrev pub invariant-loop-i : goal.invariant-loop-i
invariant-loop-i l = (all (keeps_item l.c) (drop l.i (items_of l.edition l.n l.bytes)) ≡ all (keeps_item l.c) (items_of l.edition l.n l.bytes))
