-- The rules in turn: each is asked of items that keep those before it.
use Rattle.std.proofs.lemmas.Bool.{not_from_false, not_from_true}
use mathlib.Core.Path.{sym, ◌∙◌}
use borrow.Author.Tests.{not-true, not-false}
use Rattle.group_record.specs.ReadingTests.{items-test}
use Rattle.record_items.specs.Rules.{there-test, rules_answer, items_answer}
use Rattle.record_items.proofs.rules.items_answer.Goals as goal

pub returns-then-not-are_there : goal.returns-then-not-are_there
unfolding items_answer
returns-then-not-are_there c = rw (sym c.are_there.ensures ∙ not-true c.are_there.result (not_from_false _ c.if-not-are_there.true))

pub are_items-requires : goal.are_items-requires
are_items-requires c = (there-test _ _ _).0 (sym c.are_there.ensures ∙ not-false c.are_there.result (not_from_true _ c.if-not-are_there.false))

pub returns-then-not-are_items : goal.returns-then-not-are_items
unfolding items_answer rules_answer
returns-then-not-are_items c =
    rw (
      sym c.are_there.ensures
          ∙ not-false c.are_there.result (not_from_true _ c.if-not-are_there.false),
      sym c.are_items.ensures ∙ not-true c.are_items.result (not_from_false _ c.if-not-are_items.true),
    )

pub is_allowed-requires : goal.is_allowed-requires
is_allowed-requires c =
    let there =
    (there-test _ _ _).0 (sym c.are_there.ensures
    ∙ not-false c.are_there.result (not_from_true _ c.if-not-are_there.false)) in
    (there.1, there.2, (items-test _ _).0 (sym c.are_items.ensures ∙ not-false c.are_items.result (not_from_true _ c.if-not-are_items.false)))

pub returns-then-not-is_allowed : goal.returns-then-not-is_allowed
unfolding items_answer rules_answer
returns-then-not-is_allowed c =
    rw (
      sym c.are_there.ensures
          ∙ not-false c.are_there.result (not_from_true _ c.if-not-are_there.false),
      sym c.are_items.ensures
          ∙ not-false c.are_items.result (not_from_true _ c.if-not-are_items.false),
      sym c.is_allowed.ensures ∙ not-true c.is_allowed.result (not_from_false _ c.if-not-is_allowed.true),
    )

pub returns : goal.returns
unfolding items_answer rules_answer
returns c =
    rw (
      sym c.are_there.ensures
          ∙ not-false c.are_there.result (not_from_true _ c.if-not-are_there.false),
      sym c.are_items.ensures
          ∙ not-false c.are_items.result (not_from_true _ c.if-not-are_items.false),
      sym c.is_allowed.ensures ∙ not-false c.is_allowed.result (not_from_true _ c.if-not-is_allowed.false),
    )
