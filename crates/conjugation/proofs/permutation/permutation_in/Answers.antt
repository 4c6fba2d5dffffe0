-- The tests of the definition, then zeros or the positions.
use Rattle.std.proofs.lemmas.Bool.{not_from_false, not_from_true}
use mathlib.Core.Path.{sym, ◌∙◌}
use native.Mathlib.Omega.{arith}
use lib.Count.{ones-le}
use borrow.Author.Tests.{not-true, not-false, lt-ltb, le-ltb, eq-eqb, ne_eqb}
use Rattle.subgroup_laws.specs.SubgroupLaws.{test-subgroup}
use Rattle.conjugation.specs.Answers.{permutation_answer, permutation_bytes}
use Rattle.conjugation.proofs.permutation.permutation_in.Goals as goal

pub is_subgroup-requires : goal.is_subgroup-requires
is_subgroup-requires c = (c.requires.cells, c.requires.group.identity-below)

pub returns-then-not-is_subgroup : goal.returns-then-not-is_subgroup
unfolding permutation_answer permutation_bytes
returns-then-not-is_subgroup c =
    let t = sym c.is_subgroup.ensures ∙ not-true _ (not_from_false _ c.if-not-is_subgroup.true) in
    (simp t, simp t)

pub returns-then-n-g : goal.returns-then-n-g
unfolding permutation_answer permutation_bytes
returns-then-n-g c =
    let t = sym c.is_subgroup.ensures ∙ not-false _ (not_from_true _ c.if-not-is_subgroup.false) in
    (simp (t, le-ltb _ _ c.if-n-g.true), simp (t, le-ltb _ _ c.if-n-g.true))

pub returns-then-conjugate_set-s : goal.returns-then-conjugate_set-s
unfolding permutation_answer permutation_bytes
returns-then-conjugate_set-s c =
    let t = sym c.is_subgroup.ensures ∙ not-false _ (not_from_true _ c.if-not-is_subgroup.false) in
    let p = c.requires in
    let it = c.conjugate_set.ensures p (test-subgroup _ _ _ c.requires.group _ t).small c.if-n-g.false in (
      simp (t, lt-ltb _ _ c.if-n-g.false, ← it, ne_eqb _ _ c.if-conjugate_set-s.true),
      simp (t, lt-ltb _ _ c.if-n-g.false, ← it, ne_eqb _ _ c.if-conjugate_set-s.true),
    )

pub overflow_cast-count : goal.overflow_cast-count
overflow_cast-count c = omega (
  arith,
  ones-le 64 c.args.s
      c.ranges.s.fits,
)

pub returns-then-list-count : goal.returns-then-list-count
unfolding permutation_answer permutation_bytes
returns-then-list-count c =
    let t = sym c.is_subgroup.ensures
    ∙ not-false _ (not_from_true _ c.if-not-is_subgroup.false) in
    let p = c.requires in
    let it = c.conjugate_set.ensures p (test-subgroup _ _ _
    c.requires.group _ t).small c.if-n-g.false in (
      simp (t, lt-ltb _ _ c.if-n-g.false, ← it, eq-eqb _ _ c.if-conjugate_set-s.false, lt-ltb _ _ c.if-list-count.true),
      simp (t, lt-ltb _ _ c.if-n-g.false, ← it, eq-eqb _ _ c.if-conjugate_set-s.false, lt-ltb _ _ c.if-list-count.true)
          (c.fill.ensures.after (λ y k. cc)),
    )

pub permute-requires : goal.permute-requires
permute-requires c =
    let p = c.requires in (
      p,
      (test-subgroup _ _ _ c.requires.group _ (sym c.is_subgroup.ensures
          ∙ not-false _ (not_from_true _ c.if-not-is_subgroup.false))).small,
      c.if-n-g.false,
      c.if-list-count.false,
    )

pub returns : goal.returns
unfolding permutation_answer permutation_bytes
returns c =
    let t = sym c.is_subgroup.ensures
    ∙ not-false _ (not_from_true _ c.if-not-is_subgroup.false) in
    let p = c.requires in
    let it = c.conjugate_set.ensures p (test-subgroup _ _ _
    c.requires.group _ t).small c.if-n-g.false in (
      simp (
        t,
        lt-ltb _ _ c.if-n-g.false,
        ← it,
        eq-eqb _ _ c.if-conjugate_set-s.false,
        le-ltb _ _ c.if-list-count.false,
      ),
      simp (
        t,
        lt-ltb _ _ c.if-n-g.false,
        ← it,
        eq-eqb _ _ c.if-conjugate_set-s.false,
        le-ltb _ _ c.if-list-count.false,
      ) c.permute.ensures,
    )
