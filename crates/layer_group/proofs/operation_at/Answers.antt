-- What was counted of the plain symbol's group decides, then the count; an index below the count is that of a slot.
use Rattle.std.proofs.Common.{Ok, Err, refl, sym, ◌∙◌, arith}
use Rattle.layer_group.specs.Slots.{layer-slots, layer-counted, operation-refused, operation-past, operation-given, index-small}
use Rattle.layer_group.proofs.operation_at.Goals as goal

pub layered-requires : goal.layered-requires
layered-requires c = layer-slots c.args.text.now c.plain-g.result c.plain-g.ensures

pub offset_bounds-g-index : goal.offset_bounds-g-index
offset_bounds-g-index c =
    let small = index-small c.args.text.now _
    (layer-counted c.args.text.now c.plain-g.result c.plain-g.ensures (Ok c.in-Ok.count) (sym c.layered.ensures ∙ c.in-Ok.is)) refl c.args.index
    c.if-index-count.true in
    omega arith

pub bounds-g-index : goal.bounds-g-index
bounds-g-index c = index-small c.args.text.now _
    (layer-counted c.args.text.now c.plain-g.result c.plain-g.ensures (Ok c.in-Ok.count) (sym c.layered.ensures ∙ c.in-Ok.is)) refl c.args.index
    c.if-index-count.true

pub returns-in-Ok : goal.returns-in-Ok
returns-in-Ok c = operation-given c.args.text.now _
    (layer-counted c.args.text.now c.plain-g.result c.plain-g.ensures (Ok c.in-Ok.count) (sym c.layered.ensures ∙ c.in-Ok.is)) refl c.args.index _
    c.if-index-count.true

pub returns-in-Ok-2 : goal.returns-in-Ok-2
returns-in-Ok-2 c = operation-past c.args.text.now _
    (layer-counted c.args.text.now c.plain-g.result c.plain-g.ensures (Ok c.in-Ok.count) (sym c.layered.ensures ∙ c.in-Ok.is)) refl c.args.index
    c.if-index-count.false

pub returns-in-Err : goal.returns-in-Err
returns-in-Err c = operation-refused c.args.text.now _
    (layer-counted c.args.text.now c.plain-g.result c.plain-g.ensures (Err c.in-Err.refusal) (sym c.layered.ensures ∙ c.in-Err.is)) c.in-Err.refusal
    c.args.index refl
