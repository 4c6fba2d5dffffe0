-- A refusal is told, and the list answers.
use mathlib.Core.Path.{◌∙◌, ap}
use Prim.Native.Nat.{ℕ}
use Rattle.answer_numbers.specs.Packing.{packed, told-whole}
use Rattle.symbol_numbers.specs.Questions.{list_answer, symbol-refused, symbol-tells, symbol-lists, symbol-few}
use Rattle.symbol_numbers.proofs.symbol.asked.Goals as goal

pub answered-requires : goal.answered-requires
answered-requires c = symbol-few _ c.new-group.result c.new-group.ensures

pub returns-in-Refused : goal.returns-in-Refused
returns-in-Refused c =
    let refused = c.in-Refused.is in
    c.refused_symbol.ensures ∙ told-whole (symbol-tells _ c.new-group.result c.new-group.ensures _ refused)
    ∙ ap packed (symbol-refused _ c.new-group.result c.new-group.ensures _ refused c.args.question)

pub returns-in-Group : goal.returns-in-Group
returns-in-Group c =
    let g = c.new-group.result in
    c.answered.ensures ∙ ap (λ (b : ℕ). packed (list_answer c.args.question c.new-group.result.count b c.new-group.result.operations)) c.byte-letter.ensures
    ∙ ap packed (symbol-lists _ g c.new-group.ensures c.in-Group.is c.args.question)
