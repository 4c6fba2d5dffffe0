use Rattle.std.proofs.lemmas.Bool.{not_from_false, not_from_true}
use mathlib.Core.Path.{sym, ◌∙◌}
use Prim.Native.Nat.{◌<◌}
use native.Mathlib.Omega.{arith}
use borrow.Author.Count.{below_more}
use borrow.Author.Tests.{not-true, not-false}
use Rattle.subgroup_laws.specs.Bounded.{fails-every, passes-every}
use Rattle.subgroup_laws.specs.Subsets.{holds_row}
use Rattle.conjugation.proofs.subgroup.holds_row.Goals as goal

pub returns-then-not-holds_product : goal.returns-then-not-holds_product
unfolding holds_row
returns-then-not-holds_product c =
    let n = c.args.n in
    let h : c.loop-y.y < n = c.loop-y-test.true in
    sym (fails-every _ n c.loop-y.y h (sym c.holds_product.ensures ∙ not-true _ (not_from_false _ c.if-not-holds_product.true)))

pub loop-y-preserved : goal.loop-y-preserved
loop-y-preserved c = below_more _ _ c.loop-y.invariant (sym c.holds_product.ensures
    ∙ not-false _ (not_from_true _ c.if-not-holds_product.false))

pub returns : goal.returns
unfolding holds_row
returns c = sym (passes-every _ _ (λ i h. c.loop-y.invariant i (omega arith)))
