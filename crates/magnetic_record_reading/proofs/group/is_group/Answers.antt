-- A conjunction: the identity is listed without the flag, and then the members decide.
use Rattle.std.proofs.lemmas.Bool.{not_from_false, not_from_true}
use mathlib.Core.Path.{sym, ◌∙◌, ap}
use borrow.Author.Tests.{not-true, not-false}
use Rattle.laws.specs.Distinct.{has}
use Rattle.operation.specs.declared.Operation.{Operation}
use Rattle.group_record.specs.OperationItems.{item_of}
use Rattle.group_record.specs.Reading.{alike_items}
use Rattle.magnetic_record.specs.Reading.{half, is_magnetic_group}
use Rattle.magnetic_record_reading.specs.Search.{items_of}
use Rattle.magnetic_record_reading.proofs.group.is_group.Goals as goal

pub returns-then-not-is_listed : goal.returns-then-not-is_listed
unfolding is_magnetic_group
returns-then-not-is_listed c =
    let items = items_of c.args.n c.args.bytes.now in
    let sought = ap (λ (o : Operation). has (alike_items c.args.c) (item_of o) (half 0 items)) c.identity.ensures in
    let there = c.is_listed.ensures ∙ sought in
    rw (sym there ∙ not-true c.is_listed.result (not_from_false _ c.if-not-is_listed.true))

pub returns : goal.returns
unfolding is_magnetic_group
returns c =
    let items = items_of c.args.n c.args.bytes.now in
    let sought = ap (λ (o : Operation). has (alike_items c.args.c) (item_of o) (half 0 items)) c.identity.ensures in
    let there = c.is_listed.ensures ∙ sought in
    rw (sym there ∙ not-false c.is_listed.result (not_from_true _ c.if-not-is_listed.false)) c.all_members.ensures
