-- The loop's invariant: the numbers passed are those of their items.
use mathlib.Core.Path.{◌≡◌}
use lib.ListN.{length}
use Rattle.magnetic_record_reading.specs.Numbers.{Packed}
use Rattle.magnetic_record_reading.proofs.group.pack.Given as goal

abbrev pub invariant-loop-i : goal.invariant-loop-i
invariant-loop-i l = (length l.numbers ≡ 96) × Packed l.i l.bytes l.numbers
