-- Each return rewrites the definition with the tests that led to it.
use Rattle.std.proofs.lemmas.Bool.{not_from_false, not_from_true}
use mathlib.Core.Path.{sym, ◌∙◌}
use mathlib.Core.Logic.{inl, inr}
use native.Mathlib.Omega.{arith}
use borrow.Author.Tests.{eq-eqb, ne_eqb, lt-ltb, le-ltb, not-true, not-false}
use Rattle.subgroup_laws.specs.GroupLaws.{found-identity}
use Rattle.subgroup_laws.specs.TableCells.{good-cells}
use Rattle.table_check.specs.CheckAnswers.{check_of}
use Rattle.table_check.proofs.from_table.Goals as goal

pub returns-then-n-eq0 : goal.returns-then-n-eq0
unfolding check_of
returns-then-n-eq0 c = elim c.then-n-eq0.either [
  | inl e ↦ simp (eq-eqb c.args.n 0 e)
  | inr h ↦ simp (ne_eqb c.args.n 0 h.0, lt-ltb 48 c.args.n h.1)
]

pub returns-then-not-good_cells : goal.returns-then-not-good_cells
unfolding check_of
returns-then-not-good_cells c =
    simp (
      ne_eqb _ _ c.if-n-eq0.false,
      le-ltb _ _ c.if-n-gt48.false,
      sym c.good_cells.ensures ∙ not-true _ (not_from_false _ c.if-not-good_cells.true),
    )

pub identity_of-requires : goal.identity_of-requires
identity_of-requires c = good-cells _ _ c.if-n-gt48.false (sym c.good_cells.ensures ∙ not-false _ (not_from_true _ c.if-not-good_cells.false))

pub returns-in_default : goal.returns-in_default
unfolding check_of
returns-in_default c =
    simp (
      ne_eqb _ _ c.if-n-eq0.false,
      le-ltb _ _ c.if-n-gt48.false,
      sym c.good_cells.ensures ∙ not-false _ (not_from_true _ c.if-not-good_cells.false),
      c.in_default.ensures,
      le-ltb c.args.n c.args.n (omega arith),
    )

pub has_inverses-requires : goal.has_inverses-requires
has_inverses-requires c =
    good-cells _ _ c.if-n-gt48.false (sym c.good_cells.ensures
    ∙ not-false _ (not_from_true _ c.if-not-good_cells.false))

pub returns-then-not-has_inverses : goal.returns-then-not-has_inverses
unfolding check_of
returns-then-not-has_inverses c =
    simp (
      ne_eqb _ _ c.if-n-eq0.false,
      le-ltb _ _ c.if-n-gt48.false,
      sym c.good_cells.ensures ∙ not-false _ (not_from_true _ c.if-not-good_cells.false),
      ← c.in-Some.ensures.1,
      lt-ltb _ _ c.in-Some.ensures.0,
      sym c.has_inverses.ensures ∙ not-true _ (not_from_false _ c.if-not-has_inverses.true),
    )

pub is_associative-requires : goal.is_associative-requires
is_associative-requires c =
    let it = c.in-Some.ensures.1 in (
      good-cells _ _ c.if-n-gt48.false (sym c.good_cells.ensures
          ∙ not-false _ (not_from_true _ c.if-not-good_cells.false)),
      rw it (found-identity _ _ (rw it at c.in-Some.ensures.0)),
    )

pub returns-then-not-is_associative : goal.returns-then-not-is_associative
unfolding check_of
returns-then-not-is_associative c =
    simp (
      ne_eqb _ _ c.if-n-eq0.false,
      le-ltb _ _ c.if-n-gt48.false,
      sym c.good_cells.ensures
          ∙ not-false _ (not_from_true _ c.if-not-good_cells.false),
      ← c.in-Some.ensures.1,
      lt-ltb _ _ c.in-Some.ensures.0,
      sym c.has_inverses.ensures ∙ not-false _ (not_from_true _ c.if-not-has_inverses.false),
      sym c.is_associative.ensures ∙ not-true _ (not_from_false _ c.if-not-is_associative.true),
    )

pub returns : goal.returns
unfolding check_of
returns c =
    simp (
      ne_eqb _ _ c.if-n-eq0.false,
      le-ltb _ _ c.if-n-gt48.false,
      sym c.good_cells.ensures
          ∙ not-false _ (not_from_true _ c.if-not-good_cells.false),
      ← c.in-Some.ensures.1,
      lt-ltb _ _ c.in-Some.ensures.0,
      sym c.has_inverses.ensures ∙ not-false _ (not_from_true _ c.if-not-has_inverses.false),
      sym c.is_associative.ensures ∙ not-false _ (not_from_true _ c.if-not-is_associative.false),
    )
