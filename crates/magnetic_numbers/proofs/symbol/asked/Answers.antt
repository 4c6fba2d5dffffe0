-- A refusal is told, and a list answers.
use mathlib.Core.Path.{◌∙◌, ap}
use Rattle.magnetic_group.specs.Numbers.{slots-listed}
use Rattle.answer_numbers.specs.Packing.{packed, told-whole}
use Rattle.magnetic_numbers.specs.MagneticQuestions.{refused-answer, refused-told, list-answers}
use Rattle.magnetic_numbers.proofs.symbol.asked.Goals as goal

pub answered-requires : goal.answered-requires
answered-requires c =
    (slots-listed _ c.list-g.result c.list-g.new.numbers c.in-Group.is c.list-g.ensures.0 c.list-g.ensures.1).few

pub returns-in-Refused : goal.returns-in-Refused
returns-in-Refused c =
    let refused = c.in-Refused.is in
    c.refused_symbol.ensures ∙ told-whole (refused-told _ c.list-g.result c.list-g.ensures.0 _ refused)
    ∙ ap packed (refused-answer _ c.list-g.result c.list-g.ensures.0 _ refused
    c.args.question)

pub returns-in-Group : goal.returns-in-Group
returns-in-Group c =
    c.answered.ensures
    ∙ ap packed
    (list-answers _ c.list-g.result c.list-g.ensures.0 c.list-g.new.numbers c.list-g.ensures.1 c.in-Group.is
    c.args.question)
