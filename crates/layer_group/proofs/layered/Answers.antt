-- The operations are looked at, all that count.
use Rattle.std.proofs.Common.{◌≤◌, length, sym, ◌∙◌, arith}
use Rattle.layer_group.specs.Slots.{count-off, count-all}
use Rattle.layer_group.proofs.layered.Goals as goal

pub returns-in-Some : goal.returns-in-Some
returns-in-Some c =
    let room : c.args.g.now.count ≤ length c.args.g.now.operations = omega (arith, c.requires) in
    count-off c.args.g.now c.in_default.is room c.in-Some.off (sym c.first_off.ensures ∙ c.in-Some.is)

pub returns-in-None : goal.returns-in-None
returns-in-None c =
    let room : c.args.g.now.count ≤ length c.args.g.now.operations = omega (arith, c.requires) in
    count-all c.args.g.now c.in_default.is room (sym c.first_off.ensures ∙ c.in-None.is)
