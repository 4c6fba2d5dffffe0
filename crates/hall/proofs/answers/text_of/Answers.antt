-- No line, no text; else the line's.
use Rattle.std.specs.Prelude.{take}
use Rattle.std.proofs.Common.{◌∙◌}
use Rattle.hall.specs.Answers.{none-in-room, one-in-room}
use Rattle.hall.proofs.answers.text_of.Goals as goal

pub returns-then-not-finished : goal.returns-then-not-finished
returns-then-not-finished c = rw c.if-not-finished.true (c.no_text.ensures ∙ none-in-room)

pub returns : goal.returns
returns c = rw c.if-not-finished.false (c.line_text.ensures ∙ one-in-room (take c.args.line.length c.args.line.bytes))
