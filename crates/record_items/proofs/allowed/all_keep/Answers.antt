use Rattle.std.proofs.lemmas.Bool.{not_from_false, not_from_true}
use mathlib.Core.Path.{refl, sym, ◌∙◌}
use native.Mathlib.Omega.{arith}
use borrow.Author.Tests.{not-true, not-false}
use Rattle.group_record.specs.Reading.{keeps_item}
use Rattle.group_record.specs.BothEditions.{edition_of, width_in, item-inside}
use Rattle.group_record.specs.Walk.{all-next, all-stop, all_end}
use Rattle.record_items.specs.Items.{item_at, kept-item}
use Rattle.record_items.proofs.allowed.all_keep.Goals as goal

pub loop-i-init : goal.loop-i-init
loop-i-init c = refl

pub operation_at-requires : goal.operation_at-requires
operation_at-requires c = item-inside c.args.edition c.loop-i.i c.args.n _ (omega arith) c.requires.1

pub returns-then-not-keeps : goal.returns-then-not-keeps
unfolding item_at
returns-then-not-keeps c =
    let kept = kept-item c.args.c (item_at c.args.edition c.args.bytes.now c.loop-i.i) _ _ c.operation_at.ensures c.keeps.ensures in
    sym (all-stop (width_in c.args.edition) (edition_of c.args.edition).read c.args.n c.args.bytes.now (keeps_item c.args.c) c.loop-i.i (omega arith)
    (kept ∙ not-true c.keeps.result (not_from_false _ c.if-not-keeps.true)))
    ∙ c.loop-i.invariant

pub loop-i-preserved : goal.loop-i-preserved
unfolding item_at
loop-i-preserved c =
    let kept = kept-item c.args.c (item_at c.args.edition c.args.bytes.now c.loop-i.i) _ _ c.operation_at.ensures c.keeps.ensures in
    sym (all-next (width_in c.args.edition) (edition_of c.args.edition).read c.args.n c.args.bytes.now (keeps_item c.args.c) c.loop-i.i (omega arith)
    (kept ∙ not-false c.keeps.result (not_from_true _ c.if-not-keeps.false)))
    ∙ c.loop-i.invariant

pub returns : goal.returns
returns c =
    sym (all_end (width_in c.args.edition) (edition_of c.args.edition).read c.args.n c.args.bytes.now (keeps_item c.args.c) c.loop-i.i (omega arith)
    (omega arith)) ∙ c.loop-i.invariant
