-- The text of the last line, which can be written, makes the output whole.
use Rattle.std.proofs.Common.{subst}
use Rattle.std.specs.Io.KnownBytes.{Appends}
use Rattle.lines.specs.Lines.{last_line}
use Rattle.lines.specs.Keeping.{held}
use Rattle.hall.specs.Output.{texts_of}
use Rattle.hall.specs.Answers.{last-writable, room-text}
use Rattle.hall.specs.Moved.{all-written}
use Rattle.hall.proofs.answer_all.Goals as goal

pub write_text-requires : goal.write_text-requires
write_text-requires g c = last-writable _ _ c.last_text.ensures

pub write_text-requires-in-Err : goal.write_text-requires-in-Err
write_text-requires-in-Err g c = last-writable _ _ c.last_text-in-Err.ensures

pub returns-in-Ok : goal.returns-in-Ok
returns-in-Ok g c = λ written.
    let between = g.W.Write.contents c.read_all.new.out in
    let new = g.W.Write.contents c.write_text.new.out in
    let last = subst (Appends between new) (room-text c.last_text.result (texts_of (last_line (held c.in-Ok.last))) c.last_text.ensures)
    (c.write_text.ensures written) in
    all-written _ _ between new (held c.in-Ok.last) c.in-Ok.ensures last
