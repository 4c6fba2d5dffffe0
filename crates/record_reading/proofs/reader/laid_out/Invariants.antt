-- The loop's invariant: the first slots hold the operations read so far, the others the identity.
use mathlib.Core.Path.{◌≡◌}
use Rattle.record_reading.specs.Slots.{filled_to}
use Rattle.record_reading.proofs.reader.laid_out.Given as goal

abbrev pub invariant-loop-i : goal.invariant-loop-i
invariant-loop-i l = (l.operations ≡ filled_to l.edition l.n l.bytes l.i)
