use Rattle.std.proofs.lemmas.Bool.{not_from_false, not_from_true}
use mathlib.Core.Path.{refl, sym, ◌∙◌, ap}
use native.Mathlib.Omega.{arith}
use borrow.Author.Tests.{not-true, not-false}
use Rattle.layer_group.specs.Layers.{is_layer}
use Rattle.group_record.specs.BothEditions.{edition_of, width_in}
use Rattle.group_record.specs.declared.items.Item.{Item}
use Rattle.group_record.specs.Reading.{operation_of_item}
use Rattle.group_record.specs.Walk.{all-next, all-stop, all_end}
use Rattle.record_items.specs.Items.{item_at, operation-there}
use Rattle.record_reading.proofs.reader.all_layers.Goals as goal

pub loop-i-init : goal.loop-i-init
loop-i-init c = refl

pub returns-then-not-is_layer : goal.returns-then-not-is_layer
unfolding item_at
returns-then-not-is_layer c =
    let wide = c.requires.1 in
    let there = operation-there c.args.edition c.args.n c.loop-i.i c.args.bytes.now (omega arith) wide in
    let said = sym (c.is_layer.ensures ∙ ap is_layer (c.operation_in.ensures ∙ there)) in
    sym (all-stop (width_in c.args.edition) (edition_of c.args.edition).read c.args.n c.args.bytes.now (λ (j : Item). is_layer (operation_of_item j)) c.loop-i.i
    (omega arith) (said ∙ not-true c.is_layer.result (not_from_false _ c.if-not-is_layer.true))) ∙ c.loop-i.invariant

pub loop-i-preserved : goal.loop-i-preserved
unfolding item_at
loop-i-preserved c =
    let wide = c.requires.1 in
    let there = operation-there c.args.edition c.args.n c.loop-i.i c.args.bytes.now (omega arith) wide in
    let said = sym (c.is_layer.ensures ∙ ap is_layer (c.operation_in.ensures ∙ there)) in
    sym (all-next (width_in c.args.edition) (edition_of c.args.edition).read c.args.n c.args.bytes.now (λ (j : Item). is_layer (operation_of_item j))
    c.loop-i.i
    (omega arith) (said ∙ not-false c.is_layer.result (not_from_true _ c.if-not-is_layer.false))) ∙ c.loop-i.invariant

pub returns : goal.returns
returns c =
    sym (all_end (width_in c.args.edition) (edition_of c.args.edition).read c.args.n c.args.bytes.now (λ (j : Item). is_layer (operation_of_item j)) c.loop-i.i
    (omega arith) (omega arith)) ∙ c.loop-i.invariant
