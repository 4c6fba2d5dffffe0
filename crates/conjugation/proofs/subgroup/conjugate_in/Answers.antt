-- The tests of the definition.
use Rattle.std.proofs.lemmas.Bool.{not_from_false, not_from_true}
use mathlib.Core.Path.{sym, ◌∙◌}
use borrow.Author.Tests.{not-true, not-false, lt-ltb, le-ltb}
use Rattle.subgroup_laws.specs.SubgroupLaws.{test-subgroup}
use Rattle.conjugation.specs.Answers.{conjugate_answer}
use Rattle.conjugation.proofs.subgroup.conjugate_in.Goals as goal

pub is_subgroup-requires : goal.is_subgroup-requires
is_subgroup-requires c = (c.requires.cells, c.requires.group.identity-below)

pub returns-then-not-is_subgroup : goal.returns-then-not-is_subgroup
unfolding conjugate_answer
returns-then-not-is_subgroup c = simp (sym c.is_subgroup.ensures ∙ not-true _ (not_from_false _ c.if-not-is_subgroup.true))

pub returns-then-n-g : goal.returns-then-n-g
unfolding conjugate_answer
returns-then-n-g c = simp (sym c.is_subgroup.ensures ∙ not-false _ (not_from_true _ c.if-not-is_subgroup.false), le-ltb _ _ c.if-n-g.true)

pub returns : goal.returns
unfolding conjugate_answer
returns c =
    let p = c.requires in
    let t = sym c.is_subgroup.ensures ∙ not-false _ (not_from_true _ c.if-not-is_subgroup.false) in
    simp (t, lt-ltb _ _ c.if-n-g.false, ← c.conjugate_set.ensures p (test-subgroup _ _ _ c.requires.group _ t).small c.if-n-g.false)
