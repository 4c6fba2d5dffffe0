-- The loop's invariant: the lines of the first operations are written, none longer than 36 bytes.
use Prim.Native.Nat.{◌+◌, ◌*◌, ◌≤◌}
use Rattle.answer_text.specs.RecordLines.{lines_to}
use Rattle.answer_text.specs.Growing.{Behind}
use Rattle.answer_text.proofs.AnswerText.put_operations.Given as goal

abbrev pub invariant-loop-i : goal.invariant-loop-i
invariant-loop-i l = (l.self.length ≤ l.initial.self.length + 36 * l.i) × Behind l.initial.self (lines_to l.n l.bytes l.i) l.self
