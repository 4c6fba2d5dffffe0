use Rattle.std.proofs.Common.{set, ◌∙◌, ap₂, arith}
use Rattle.space_group.specs.NumberGrowth.{generator_number}
use Rattle.space_group.specs.NumberSlots.{filled_more}
use Rattle.space_group.proofs.group.generator_numbers.Goals as goal

pub loop-i-preserved : goal.loop-i-preserved
loop-i-preserved c =
    ap₂ (λ m x. set m c.loop-i.i x) c.loop-i.invariant c.generator_number.ensures
    ∙ filled_more generator_number c.args.generators.now c.args.numbers.now c.loop-i.i _ (omega arith) (omega arith)
