-- The tests of the definition.
use Rattle.std.proofs.lemmas.Bool.{not_from_false, not_from_true}
use mathlib.Core.Path.{sym, ◌∙◌}
use borrow.Author.Tests.{not-true, not-false}
use Rattle.subgroup_laws.specs.SubgroupLaws.{test-subgroup}
use Rattle.conjugation.specs.Answers.{normalizer_answer}
use Rattle.conjugation.proofs.subgroup.normalizer_in.Goals as goal

pub is_subgroup-requires : goal.is_subgroup-requires
is_subgroup-requires c = (c.requires.cells, c.requires.group.identity-below)

pub returns-then-not-is_subgroup : goal.returns-then-not-is_subgroup
unfolding normalizer_answer
returns-then-not-is_subgroup c = simp (sym c.is_subgroup.ensures ∙ not-true _ (not_from_false _ c.if-not-is_subgroup.true))

pub normalizer_set-requires : goal.normalizer_set-requires
normalizer_set-requires c =
    let p = c.requires in
    (p, (test-subgroup _ _ _ c.requires.group _ (sym c.is_subgroup.ensures ∙ not-false _ (not_from_true _ c.if-not-is_subgroup.false))).small)

pub returns : goal.returns
unfolding normalizer_answer
returns c = simp (sym c.is_subgroup.ensures ∙ not-false _ (not_from_true _ c.if-not-is_subgroup.false), ← c.normalizer_set.ensures)
