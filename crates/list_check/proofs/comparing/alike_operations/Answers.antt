-- The codes decide, and then the translations.
use mathlib.Core.Path.{sym, ◌∙◌}
use borrow.Author.Tests.{ne_eqb}
use Rattle.list_check.specs.Slots.{codes-apart, codes_same}
use Rattle.list_check.proofs.comparing.alike_operations.Goals as goal

pub returns-then-rotation_code : goal.returns-then-rotation_code
returns-then-rotation_code c =
    let same = sym c.rotation_code.ensures ∙ c.if-rotation_code.true ∙ c.rotation_code-2.ensures in
    c.congruent.ensures ∙ sym (codes_same c.args.c c.args.f c.args.g same)

pub returns-else-rotation_code : goal.returns-else-rotation_code
returns-else-rotation_code c =
    ne_eqb c.rotation_code.result c.rotation_code-2.result c.if-rotation_code.false
    ∙ sym (codes-apart c.args.c c.args.f c.args.g (λ e. c.if-rotation_code.false (c.rotation_code.ensures ∙ e ∙ sym c.rotation_code-2.ensures)))
