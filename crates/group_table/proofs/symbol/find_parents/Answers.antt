use mathlib.Core.Path.{◌≡◌, ◌∙◌}
use Prim.Native.Nat.{◌<◌, ◌*◌}
use native.Mathlib.Omega.{arith}
use lib.ListN.{get_or, length-set}
use Rattle.group_table.specs.StepTables.{come-all, come-passed, come-noted}
use Rattle.group_table.proofs.symbol.find_parents.Goals as goal
use Rattle.group_table.proofs.symbol.find_parents.Goals.{then-at-to, else-at-to}

pub loop-at-preserved : goal.loop-at-preserved
loop-at-preserved c =
    let (long, up_to) = c.loop-at.invariant in
    let n = c.args.count in
    let m = c.args.generators in
    let low : get_or c.args.steps.now c.loop-at.at 0 < 48 = omega (arith, c.requires.inside c.loop-at.at c.loop-at-test.true, c.requires.few) in
    elim c.if-at-to.branch [
      | then-at-to w ↦ rw w.parents-is (
        length-set c.loop-at.parents _ _ ∙ long,
        come-noted n m c.args.steps.now c.loop-at.parents c.loop-at.at up_to long low w.if-at-to.true,
      )
      | else-at-to w ↦ rw w.parents-is (long, come-passed n m c.args.steps.now c.loop-at.parents c.loop-at.at up_to w.if-at-to.false)
    ]

pub returns : goal.returns
returns c =
    let all : c.loop-at.at ≡ c.args.count * c.args.generators = omega arith in
    come-all c.args.count c.args.generators c.args.steps.now c.loop-at.parents c.requires (rw all at c.loop-at.invariant.1)
