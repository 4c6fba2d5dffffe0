-- The two kinds of step.
use mathlib.Core.Path.{sym, ◌∙◌, ap}
use Rattle.catalogue_numbers.specs.Catalogues.{step_of, room_of}
use Rattle.catalogue_numbers.proofs.taken.Goals as goal

pub returns-then-ends : goal.returns-then-ends
returns-then-ends c =
    let is = c.if-ends.true in (
      c.end.ensures.0 ∙ ap (λ e. step_of e c.args.before c.args.piece.now c.args.out.now) (sym is),
      c.end.ensures.1 ∙ ap (λ e. room_of e c.args.before c.args.piece.now c.args.out.now) (sym is),
    )

pub returns : goal.returns
returns c =
    let is = c.if-ends.false in (
      c.piece.ensures.0 ∙ ap (λ e. step_of e c.args.before c.args.piece.now c.args.out.now) (sym is),
      c.piece.ensures.1 ∙ ap (λ e. room_of e c.args.before c.args.piece.now c.args.out.now) (sym is),
    )
