use mathlib.Core.Path.{sym, ◌∙◌}
use native.Mathlib.Omega.{arith}
use lib.Dec.{eqb}
use borrow.Author.Count.{below_more}
use borrow.Author.Tests.{eq-eqb, ne_eqb}
use Rattle.subgroup_laws.specs.Bounded.{fails-every, passes-every}
use Rattle.laws.specs.Truth.{and-fails, and-fails-left, both-and}
use Rattle.subgroup_laws.specs.Groups.{is_identity}
use Rattle.subgroup_laws.specs.Table.{product}
use Rattle.table_check.proofs.table.is_identity.Goals as goal
use Rattle.table_check.proofs.table.is_identity.Goals.{then-cell-x-via-then-cell-x, then-cell-x-via-else-cell-x+then-cell-x-2}

pub returns-then-cell-x : goal.returns-then-cell-x
unfolding is_identity
returns-then-cell-x c =
    let n = c.args.n in
    let x = c.loop-x.x in
    sym (fails-every _ n x c.loop-x-test.true (elim c.then-cell-x.branch [
      | then-cell-x-via-then-cell-x w ↦ and-fails-left _ _ (ne_eqb _ _ (λ q. w.if-cell-x.true (c.cell.ensures.0 ∙ q)))
      | then-cell-x-via-else-cell-x+then-cell-x-2 w ↦ and-fails (eqb (product n c.args.t.now c.args.e x) x) _
          (ne_eqb _ _ (λ q. w.if-cell-x-2.true (w.cell-else-cell-x.ensures.0 ∙ q)))
    ]))

pub loop-x-preserved : goal.loop-x-preserved
loop-x-preserved c =
    let left = eq-eqb _ _ (sym c.cell.ensures.0 ∙ c.if-cell-x.false) in
    let right = eq-eqb _ _ (sym c.cell-else-cell-x.ensures.0 ∙ c.if-cell-x-2.false) in
    below_more _ _ c.loop-x.invariant (both-and _ _ left right)

pub returns : goal.returns
unfolding is_identity
returns c = sym (passes-every _ _ (λ i h. c.loop-x.invariant i (omega arith)))
