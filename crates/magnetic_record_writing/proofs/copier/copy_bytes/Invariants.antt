-- The invariant: the bytes passed are copied.
use Rattle.std.proofs.Common.{◌≡◌, length}
use Rattle.lines.specs.Copying.{copied}
use Rattle.magnetic_record_writing.proofs.copier.copy_bytes.Given as goal

abbrev pub invariant-loop-i : goal.invariant-loop-i
invariant-loop-i l = (length l.out ≡ length l.initial.out) × (l.out ≡ copied l.initial.out l.bytes l.i)
