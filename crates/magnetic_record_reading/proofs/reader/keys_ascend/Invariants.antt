-- The loop's invariant: the neighbours passed ascend, so what is left decides.
use mathlib.Core.Path.{◌≡◌}
use lib.ListN.{drop}
use Rattle.laws.specs.Sorted.{ascending}
use Rattle.magnetic_record.specs.Record.{key_before}
use Rattle.magnetic_record_reading.specs.Search.{items_of}
use Rattle.magnetic_record_reading.proofs.reader.keys_ascend.Given as goal

abbrev pub invariant-loop-i : goal.invariant-loop-i
invariant-loop-i l = ascending key_before (drop l.i (items_of l.n l.bytes)) ≡ ascending key_before (items_of l.n l.bytes)
