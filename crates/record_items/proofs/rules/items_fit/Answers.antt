use Rattle.std.proofs.lemmas.Bool.{not_from_false, not_from_true}
use mathlib.Core.Path.{refl, sym, ◌∙◌, ap}
use native.Mathlib.Omega.{arith}
use borrow.Author.Tests.{not-true, not-false}
use Rattle.group_record.specs.BothEditions.{edition_of, width_in, item-inside}
use Rattle.group_record.specs.Reading.{is_item}
use Rattle.group_record.specs.Walk.{all-next, all-stop, all_end}
use Rattle.record_items.specs.Items.{item_at}
use Rattle.record_items.proofs.rules.items_fit.Goals as goal

pub loop-i-init : goal.loop-i-init
loop-i-init c = refl

pub item_at-requires : goal.item_at-requires
item_at-requires c =
    item-inside c.args.edition c.loop-i.i c.args.n _ (omega arith)
    c.requires.1

pub returns-then-not-is_item : goal.returns-then-not-is_item
unfolding item_at
returns-then-not-is_item c =
    let said = sym (c.is_item.ensures ∙ ap (is_item c.args.c) c.item_at.ensures) in
    sym (all-stop (width_in c.args.edition) (edition_of c.args.edition).read c.args.n c.args.bytes.now (is_item c.args.c) c.loop-i.i (omega arith)
    (said ∙ not-true c.is_item.result (not_from_false _ c.if-not-is_item.true))) ∙ c.loop-i.invariant

pub loop-i-preserved : goal.loop-i-preserved
unfolding item_at
loop-i-preserved c =
    let said = sym (c.is_item.ensures ∙ ap (is_item c.args.c) c.item_at.ensures) in
    sym (all-next (width_in c.args.edition) (edition_of c.args.edition).read c.args.n c.args.bytes.now (is_item c.args.c) c.loop-i.i (omega arith)
    (said ∙ not-false c.is_item.result (not_from_true _ c.if-not-is_item.false))) ∙ c.loop-i.invariant

pub returns : goal.returns
returns c =
    sym (all_end (width_in c.args.edition) (edition_of c.args.edition).read c.args.n c.args.bytes.now (is_item c.args.c) c.loop-i.i (omega arith)
    (omega arith)) ∙ c.loop-i.invariant
