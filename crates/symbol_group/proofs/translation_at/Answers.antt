-- What was found decides.
use Rattle.std.specs.Prelude.{Ok, Err, None, Some}
use mathlib.Core.Path.{◌∙◌, ap}
use Rattle.symbol_group.specs.Slots.{translation-found}
use Rattle.symbol_group.proofs.translation_at.Goals as goal

pub returns-in-Err : goal.returns-in-Err
returns-in-Err c =
    translation-found c.args.text.now c.args.index
    c.operation_at.result (Err c.in-Err.refusal) c.operation_at.ensures
    c.in-Err.is

pub returns-in-Ok-None : goal.returns-in-Ok-None
returns-in-Ok-None c =
    translation-found c.args.text.now c.args.index
    c.operation_at.result (Ok None) c.operation_at.ensures (c.in-Ok-None.is ∙ ap Ok c.in-Ok-None.field-0-is)

pub returns-in-Ok-Some : goal.returns-in-Ok-Some
returns-in-Ok-Some c =
    ap (λ x. Ok (Some x)) c.to_doubles.ensures
    ∙ translation-found c.args.text.now c.args.index
    c.operation_at.result (Ok (Some c.in-Ok-Some.o))
    c.operation_at.ensures (c.in-Ok-Some.is ∙ ap Ok c.in-Ok-Some.field-0-is)
