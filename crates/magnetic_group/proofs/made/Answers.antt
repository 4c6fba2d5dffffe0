-- The answer of the generators decides.
use mathlib.Core.Path.{sym, ◌∙◌, ap}
use Rattle.magnetic_group.specs.Answers.{made_answer}
use Rattle.magnetic_group.proofs.made.Goals as goal

pub returns-in-Err : goal.returns-in-Err
returns-in-Err c = c.refused.ensures ∙ ap (made_answer c.args.c) (sym c.in-Err.is)

pub returns-in-Ok : goal.returns-in-Ok
returns-in-Ok c = ap (made_answer c.args.c) (sym c.in-Ok.is)
