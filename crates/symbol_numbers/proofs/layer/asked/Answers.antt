-- A refusal is told, and the list answers.
use mathlib.Core.Path.{◌∙◌, ap}
use Prim.Native.Nat.{ℕ, ◌+◌}
use native.Mathlib.Omega.{arith}
use Rattle.layer_group.specs.Slots.{small-fits}
use Rattle.answer_numbers.specs.Packing.{packed, told-whole}
use Rattle.symbol_numbers.specs.Questions.{list_answer, layer-refused, layer-tells, layer-lists, layer-few}
use Rattle.symbol_numbers.proofs.layer.asked.Goals as goal

pub overflow_add-letter : goal.overflow_add-letter
overflow_add-letter c = omega (arith, c.byte-letter.ensures, small-fits c.new-group.result.centering)

pub answered-requires : goal.answered-requires
answered-requires c = layer-few _ c.new-group.result c.new-group.ensures

pub returns-in-Refused : goal.returns-in-Refused
returns-in-Refused c =
    let refused = c.in-Refused.is in
    c.refused_layer.ensures ∙ told-whole (layer-tells _ c.new-group.result c.new-group.ensures _ refused)
    ∙ ap packed (layer-refused _ c.new-group.result c.new-group.ensures _ refused c.args.question)

pub returns-in-Group : goal.returns-in-Group
returns-in-Group c =
    let g = c.new-group.result in
    c.answered.ensures ∙ ap (λ (b : ℕ). packed (list_answer c.args.question c.new-group.result.count (b + 32) c.new-group.result.operations))
    c.byte-letter.ensures
    ∙ ap packed (layer-lists _ g c.new-group.ensures c.in-Group.is c.args.question)
