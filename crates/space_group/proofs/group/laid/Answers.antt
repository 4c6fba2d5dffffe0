-- What is answered of the list of numbers; where there is none, the indices are cleared.
use Rattle.std.proofs.Common.{◌≡◌, ℕ, length, replicate, sym, ◌∙◌, ap, arith, rules}
use Rattle.space_group.specs.Heads.{refused-answer, group-answer}
use Rattle.space_group.proofs.group.laid.Goals as goal

pub returns-then-is_err : goal.returns-then-is_err
returns-then-is_err c =
    let long : length c.listed-ended.new.steps ≡ 432 = omega (arith, ap length c.requires.clear) in
    let noted = c.fill.ensures.after (λ y h. search rules) ∙ ap (λ (k : ℕ). replicate k 0) long in
    refused-answer c.args.c c.args.generators.now _ c.generator_numbers.ensures c.listed-ended.result c.args.numbers.now c.listed-ended.new.numbers
    c.args.steps.now c.listed-ended.new.steps c.listed-ended.ensures c.requires.slots c.requires.clear (sym c.is_err.ensures.value ∙ c.if-is_err.true) _ noted

pub returns-else-is_err : goal.returns-else-is_err
returns-else-is_err c =
    group-answer c.args.c c.args.generators.now _ c.generator_numbers.ensures c.listed-ended.result c.args.numbers.now c.listed-ended.new.numbers
    c.args.steps.now c.listed-ended.new.steps c.listed-ended.ensures c.requires.slots c.requires.clear (sym c.is_err.ensures.value ∙ c.if-is_err.false)
