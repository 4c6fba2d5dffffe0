-- What was counted of the plain symbol's group decides; the letter's byte leaves room for the small one.
use Rattle.std.specs.Prelude.{Ok}
use Rattle.std.proofs.Common.{ℕ, ◌+◌, Err, refl, sym, ◌∙◌, ap, arith}
use Rattle.layer_group.specs.Slots.{layer-slots, layer-counted, letter-refused, letter-given, small-fits}
use Rattle.layer_group.proofs.letter.Goals as goal

pub layered-requires : goal.layered-requires
layered-requires c = layer-slots c.args.text.now c.plain-g.result c.plain-g.ensures

pub overflow_add-result : goal.overflow_add-result
overflow_add-result c = omega (arith, c.byte.ensures, small-fits c.plain-g.result.centering)

pub returns-in-Ok : goal.returns-in-Ok
returns-in-Ok c = ap (λ (b : ℕ). Ok (b + 32)) c.byte.ensures ∙ letter-given c.args.text.now _
    (layer-counted c.args.text.now c.plain-g.result c.plain-g.ensures _ (sym c.layered.ensures ∙ c.in-Ok.is)) refl

pub returns-in-Err : goal.returns-in-Err
returns-in-Err c = letter-refused c.args.text.now _
    (layer-counted c.args.text.now c.plain-g.result c.plain-g.ensures (Err c.in-Err.refusal) (sym c.layered.ensures ∙ c.in-Err.is)) c.in-Err.refusal refl
