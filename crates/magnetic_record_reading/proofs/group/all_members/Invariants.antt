-- The loop's invariant: the items passed are members, so what is left decides.
use mathlib.Core.Path.{◌≡◌}
use lib.ListN.{drop}
use Rattle.laws.specs.Truth.{all}
use Rattle.magnetic_record.specs.Reading.{flagged_member}
use Rattle.magnetic_record_reading.specs.Search.{items_of}
use Rattle.magnetic_record_reading.proofs.group.all_members.Given as goal

abbrev pub invariant-loop-i : goal.invariant-loop-i
invariant-loop-i l =
    all (flagged_member l.c (items_of l.n l.bytes)) (drop l.i (items_of l.n l.bytes))
    ≡ all (flagged_member l.c (items_of l.n l.bytes)) (items_of l.n l.bytes)
