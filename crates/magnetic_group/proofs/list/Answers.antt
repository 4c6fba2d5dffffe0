-- The reader's answer decides, then that of the generators; the slots are those of the generators that were read.
use mathlib.Core.Path.{◌∙◌}
use Rattle.magnetic_group.specs.Numbers.{list-misread, list-made, list-slots}
use Rattle.magnetic_group.proofs.list.Goals as goal

pub returns-in-Refused : goal.returns-in-Refused
returns-in-Refused c =
    let bytes = c.args.text.now in (
      c.refused.ensures ∙ list-misread bytes c.new-read.result c.new-read.ensures c.in-Refused.refusal c.in-Refused.is,
      list-slots bytes c.new-read.result c.new-read.ensures c.flagged_group-answer.new.numbers c.flagged_group-answer.ensures.1,
    )

pub returns-in-Symbol : goal.returns-in-Symbol
returns-in-Symbol c =
    let bytes = c.args.text.now in (
      c.made.ensures ∙ list-made bytes c.new-read.result c.new-read.ensures c.in-Symbol.is c.flagged_group-answer.result c.flagged_group-answer.ensures.0,
      list-slots bytes c.new-read.result c.new-read.ensures c.flagged_group-answer.new.numbers c.flagged_group-answer.ensures.1,
    )
