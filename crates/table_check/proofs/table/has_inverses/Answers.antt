use mathlib.Core.Path.{sym}
use native.Mathlib.Omega.{arith}
use borrow.Author.Count.{below_more}
use borrow.Author.Tests.{lt-ltb, le-ltb}
use Rattle.subgroup_laws.specs.Bounded.{fails-every, passes-every}
use Rattle.subgroup_laws.specs.Groups.{has_inverses}
use Rattle.table_check.proofs.table.has_inverses.Goals as goal

pub returns-then-n-inverse : goal.returns-then-n-inverse
unfolding has_inverses
returns-then-n-inverse c =
    let n = c.args.n in
    let h = c.loop-x-test.true in
    sym (fails-every _ n c.loop-x.x h (rw (← c.inverse.ensures c.requires h) (le-ltb _ n c.if-n-inverse.true)))

pub loop-x-preserved : goal.loop-x-preserved
loop-x-preserved c =
    below_more _ _ c.loop-x.invariant (rw (← c.inverse.ensures c.requires c.loop-x-test.true) (lt-ltb _ _ c.if-n-inverse.false))

pub returns : goal.returns
unfolding has_inverses
returns c = sym (passes-every _ _ (λ i h. c.loop-x.invariant i (omega arith)))
