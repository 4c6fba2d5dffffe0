-- The loop's invariant: the place is not under the lower end, nor over the upper. The measure is what lies between.
use Prim.Native.Nat.{◌-◌}
use Rattle.magnetic_record_reading.specs.Search.{Between}
use Rattle.magnetic_record_reading.proofs.group.place_of_key.Given as goal

abbrev pub invariant-loop-low : goal.invariant-loop-low
invariant-loop-low l = Between l.n l.bytes l.key l.low l.high

abbrev pub decreases-loop-low : goal.decreases-loop-low
decreases-loop-low l = l.high - l.low
