-- The text's refusal goes before the group's answer.
use mathlib.Core.Path.{◌∙◌, sym, ap}
use Rattle.symbol_group.specs.Slots.{head_by}
use Rattle.symbol_group.proofs.head_of.Goals as goal

pub returns-in-Refused : goal.returns-in-Refused
returns-in-Refused c = ap (λ x. head_by x c.args.told c.args.count) (sym c.in-Refused.is)

pub returns-in-Symbol : goal.returns-in-Symbol
returns-in-Symbol c =
    (λ i. record { answer = c.answer_of.ensures i; count = c.args.count }) ∙ ap (λ x. head_by x c.args.told c.args.count) (sym c.in-Symbol.is)
