-- The first n of nine generators, or all of them.
use Rattle.std.proofs.Common.{◌≡◌, ℕ, take, ◌∙◌, ap, rules}
use Rattle.space_group.specs.Resuming.{first-nine}
use Rattle.space_group.specs.Slots.{group_answer}
use Rattle.space_group.proofs.SpaceGroup.new.Goals as goal

pub returns : goal.returns
returns c =
    let used : take c.min.result c.args.generators ≡ take c.args.n c.args.generators =
    ap (λ (k : ℕ). take k c.args.generators) c.min.ensures ∙ first-nine c.args.n c.args.generators (search rules) in
    c.group_of.ensures ∙ ap (group_answer c.args.centering) used
