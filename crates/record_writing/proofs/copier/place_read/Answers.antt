-- Whether there was room decides.
use Rattle.std.proofs.lemmas.Bool.{not_from_false, not_from_true}
use mathlib.Core.Path.{sym, ◌∙◌}
use borrow.Author.Tests.{not-true, not-false}
use Rattle.record_writing.proofs.copier.place_read.Goals as goal

pub returns-then-not-place_group : goal.returns-then-not-place_group
returns-then-not-place_group c =
    let none = sym c.place_group.ensures.0 ∙ not-true c.place_group.result (not_from_false _ c.if-not-place_group.true) in
    (rw none, rw (← c.letter_byte-letter.ensures) c.place_group.ensures.1)

pub returns : goal.returns
returns c =
    let room = sym c.place_group.ensures.0 ∙ not-false c.place_group.result (not_from_true _ c.if-not-place_group.false) in
    (rw room, rw (← c.letter_byte-letter.ensures) c.place_group.ensures.1)
