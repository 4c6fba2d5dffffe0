-- What was counted of the plain symbol's group decides.
use Rattle.std.proofs.Common.{Ok, Err, sym, ◌∙◌}
use Rattle.layer_group.specs.Slots.{layer-slots, layer-counted}
use Rattle.layer_group.proofs.LayerGroup.new.Goals as goal

pub layered-requires : goal.layered-requires
layered-requires c = layer-slots c.args.text.now c.plain-g.result c.plain-g.ensures

pub returns-in-Err : goal.returns-in-Err
returns-in-Err c =
    c.refused.ensures ∙ layer-counted c.args.text.now c.plain-g.result c.plain-g.ensures (Err c.in-Err.refusal) (sym c.layered.ensures ∙ c.in-Err.is)

pub returns : goal.returns
returns c = layer-counted c.args.text.now c.plain-g.result c.plain-g.ensures (Ok c.in-Ok.count) (sym c.layered.ensures ∙ c.in-Ok.is)
