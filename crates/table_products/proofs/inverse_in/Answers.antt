use mathlib.Core.Path.{sym, ◌∙◌}
use native.Mathlib.Omega.{arith}
use borrow.Author.Count.{below_more}
use Rattle.subgroup_laws.specs.Bounded.{first_found, first-none}
use Rattle.subgroup_laws.specs.Groups.{inverse_of}
use Rattle.table_products.proofs.inverse_in.Goals as goal

pub loop-y-preserved : goal.loop-y-preserved
loop-y-preserved c = below_more _ _ c.loop-y.invariant (sym c.is_inverse.ensures ∙ c.if-is_inverse.false)

pub returns : goal.returns
unfolding inverse_of
returns c = sym (first-none _ c.args.n (λ k h. c.loop-y.invariant k (omega arith)))

pub returns-then-is_inverse : goal.returns-then-is_inverse
unfolding inverse_of
returns-then-is_inverse c = sym (first_found _ c.args.n c.loop-y.y
    (record { below = c.loop-y-test.true; passes = sym c.is_inverse.ensures ∙ c.if-is_inverse.true; before = c.loop-y.invariant }))
