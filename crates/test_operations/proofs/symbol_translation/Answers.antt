-- Each case of the answer, and the component that the axis names.
use Rattle.std.specs.Prelude.{Ok}
use mathlib.Core.Path.{sym, ◌∙◌, ap}
use Rattle.std.proofs.Common.{◌≢◌, arith}
use borrow.Author.Tests.{eq-eqb, ne_eqb}
use Rattle.test_operations.specs.Packed.{component_of}
use Rattle.test_operations.proofs.symbol_translation.Goals as goal

pub returns-in-0 : goal.returns-in-0
returns-in-0 c =
    let a = c.args.axis in
    sym (ap (component_of a) (sym c.translation_at.ensures ∙ (c.in-Ok-Some.is ∙ ap Ok c.in-Ok-Some.field-0-is))
    ∙ simp (eq-eqb _ _ c.in-0.is))

pub returns-in-1 : goal.returns-in-1
returns-in-1 c =
    let a = c.args.axis in
    sym (ap (component_of a) (sym c.translation_at.ensures ∙ (c.in-Ok-Some.is ∙ ap Ok c.in-Ok-Some.field-0-is)) ∙ simp c.in-1.is)

pub returns-in_default : goal.returns-in_default
returns-in_default c =
    let a = c.args.axis in
    let first : a ≢ 0 = omega (arith, c.in_default) in
    let second : a ≢ 1 = omega (arith, c.in_default) in
    sym (ap (component_of a) (sym c.translation_at.ensures ∙ (c.in-Ok-Some.is ∙ ap Ok c.in-Ok-Some.field-0-is))
    ∙ simp (ne_eqb _ _ first, ne_eqb _ _ second))

pub returns-in-Ok-None : goal.returns-in-Ok-None
returns-in-Ok-None c = ap (component_of c.args.axis) (sym (c.in-Ok-None.is ∙ ap Ok c.in-Ok-None.field-0-is) ∙ c.translation_at.ensures)

pub returns-in-Err : goal.returns-in-Err
returns-in-Err c = ap (component_of c.args.axis) (sym c.in-Err.is ∙ c.translation_at.ensures)
