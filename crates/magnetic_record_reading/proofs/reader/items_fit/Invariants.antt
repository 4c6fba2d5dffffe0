-- The loop's invariant: the items passed fit, so what is left decides.
use mathlib.Core.Path.{◌≡◌}
use lib.ListN.{drop}
use Rattle.laws.specs.Truth.{all}
use Rattle.magnetic_record.specs.Reading.{is_magnetic_item}
use Rattle.magnetic_record_reading.specs.Search.{items_of}
use Rattle.magnetic_record_reading.proofs.reader.items_fit.Given as goal

abbrev pub invariant-loop-i : goal.invariant-loop-i
invariant-loop-i l = all (is_magnetic_item l.c) (drop l.i (items_of l.n l.bytes)) ≡ all (is_magnetic_item l.c) (items_of l.n l.bytes)
