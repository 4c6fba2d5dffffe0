-- What is kept, fed with the bytes that are left, is what is kept in the end, and what is written, with the texts of what is left, is all that is to be
-- written. The measure is how many bytes are left.
use Rattle.std.specs.Prelude.{◌≡◌, ◌-◌, ◌≤◌, ◌++◌, ℕ, List, length, drop}
use Rattle.std.specs.Io.KnownBytes.{Appends}
use Rattle.lines.specs.Feeding.{kept_behind, handed_over}
use Rattle.lines.specs.Keeping.{held}
use Rattle.hall.specs.Output.{texts_of}
use Rattle.hall.proofs.answer_piece.Given as goal

abbrev pub invariant-loop-from : goal.invariant-loop-from
invariant-loop-from g l =
    (l.from ≤ length l.piece) × (length l.line.bytes ≡ 80)
    × (kept_behind (held l.line) (drop l.from l.piece) ≡ kept_behind (held l.initial.line) l.piece)
    × ((written : List ℕ) × Appends (g.W.Write.contents l.initial.out) (g.W.Write.contents l.out) written
    × (written ++ texts_of (handed_over (held l.line) (drop l.from l.piece)) ≡ texts_of (handed_over (held l.initial.line) l.piece)))

abbrev pub decreases-loop-from : goal.decreases-loop-from
decreases-loop-from g l = length l.piece - l.from
