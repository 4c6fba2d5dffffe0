-- What was counted of the plain symbol's group decides.
use Rattle.std.proofs.Common.{Ok, Err, refl, sym, ◌∙◌}
use Rattle.layer_group.specs.Slots.{layer-slots, layer-counted, order-refused, order-given}
use Rattle.layer_group.proofs.order.Goals as goal

pub layered-requires : goal.layered-requires
layered-requires c = layer-slots c.args.text.now c.plain-g.result c.plain-g.ensures

pub returns-in-Ok : goal.returns-in-Ok
returns-in-Ok c =
    order-given c.args.text.now _
    (layer-counted c.args.text.now c.plain-g.result c.plain-g.ensures (Ok c.in-Ok.count) (sym c.layered.ensures ∙ c.in-Ok.is)) refl

pub returns-in-Err : goal.returns-in-Err
returns-in-Err c = order-refused c.args.text.now _
    (layer-counted c.args.text.now c.plain-g.result c.plain-g.ensures (Err c.in-Err.refusal) (sym c.layered.ensures ∙ c.in-Err.is)) c.in-Err.refusal refl
