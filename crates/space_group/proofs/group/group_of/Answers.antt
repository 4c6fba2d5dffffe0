use Rattle.std.proofs.Common.{◌≡◌, ◌++◌, map, ℕ, take, drop, set, replicate, refl, ◌∙◌, ap₂, arith}
use Rattle.packed_operation.specs.Number.{said_by}
use Rattle.space_group.specs.Generated.{outcome_of}
use Rattle.space_group.specs.NumberSlots.{filled_more}
use Rattle.space_group.specs.Heads.{answer-laid, answer-group, head-few}
use Rattle.space_group.proofs.group.group_of.Goals as goal

pub loop-k-preserved : goal.loop-k-preserved
loop-k-preserved c =
    let few = head-few c.args.c _ (outcome_of c.args.c c.args.generators.now) c.laid-ended.result c.laid-ended.new.numbers c.laid-ended.new.steps
    c.laid-ended.ensures c.head_of-answer.result c.head_of-answer.ensures in
    ap₂ (λ m x. set m c.loop-k.k x) c.loop-k.invariant c.said.ensures
    ∙ filled_more said_by c.laid-ended.new.numbers (replicate 48 c.identity-operations.result) c.loop-k.k 0 (omega arith) (omega arith)

pub returns : goal.returns
returns c =
    let all : c.loop-k.k ≡ c.head_of-answer.result.count = omega arith in
    let filled = c.loop-k.invariant
    ∙ ap₂ (λ (k : ℕ) e. map said_by (take k c.laid-ended.new.numbers) ++ drop k (replicate 48 e)) all c.identity-operations.ensures in
    answer-laid c.args.c _ (outcome_of c.args.c c.args.generators.now) c.laid-ended.result c.laid-ended.new.numbers c.laid-ended.new.steps c.laid-ended.ensures
    c.head_of-answer.result c.head_of-answer.ensures c.loop-k.operations filled
    ∙ answer-group c.args.c _ c.args.generators.now refl
