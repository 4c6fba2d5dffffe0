use mathlib.Core.Path.{sym, ◌∙◌}
use native.Mathlib.Omega.{arith}
use borrow.Author.Count.{below_more}
use Rattle.subgroup_laws.specs.Bounded.{first_found, first-none}
use Rattle.subgroup_laws.specs.Groups.{identity_of}
use Rattle.table_check.proofs.table.identity_of.Goals as goal

pub loop-e-preserved : goal.loop-e-preserved
loop-e-preserved c = below_more _ _ c.loop-e.invariant (sym c.is_identity.ensures ∙ c.if-is_identity.false)

pub returns : goal.returns
unfolding identity_of
returns c = first-none _ c.args.n (λ k h. c.loop-e.invariant k (omega arith))

pub returns-then-is_identity : goal.returns-then-is_identity
unfolding identity_of
returns-then-is_identity c = (
  c.loop-e-test.true,
  sym (first_found _ c.args.n c.loop-e.e
      (record { below = c.loop-e-test.true; passes = sym c.is_identity.ensures ∙ c.if-is_identity.true; before = c.loop-e.invariant })),
)
