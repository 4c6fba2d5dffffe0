-- By the digit's tests.
use mathlib.Core.Path.{sym, ◌∙◌}
use native.Mathlib.Omega.{arith}
use borrow.Author.Tests.{eq-eqb, ne_eqb, lt-ltb, le-ltb}
use Rattle.operation_line.specs.Numbers.{over_numbers, unit-there, unit-missing, twelfths-within}
use Rattle.operation_line.proofs.reader.over_digit.Goals as goal

pub returns-then-digit-eq1 : goal.returns-then-digit-eq1
unfolding over_numbers
returns-then-digit-eq1 c = rw (eq-eqb _ _ c.if-digit-eq1.true) c.ending.ensures

pub returns-in_err-unit : goal.returns-in_err-unit
unfolding over_numbers
returns-in_err-unit c = rw (ne_eqb _ _ c.if-digit-eq1.false, unit-missing _ (sym c.unit_of.ensures ∙ c.in_err-unit.was)) c.from_residual.ensures

pub returns-then-digit-numerator : goal.returns-then-digit-numerator
unfolding over_numbers
returns-then-digit-numerator c =
    let unit = unit-there _ _ (sym c.unit_of.ensures ∙ c.in_ok-unit.was) in
    rw (ne_eqb _ _ c.if-digit-eq1.false, unit.0, le-ltb _ _ c.if-digit-numerator.true)

pub overflow_mul-numerator : goal.overflow_mul-numerator
overflow_mul-numerator c =
    let unit = unit-there _ _ (sym c.unit_of.ensures ∙ c.in_ok-unit.was) in
    rw unit.1 (record { fits = omega (arith, twelfths-within _ _ c.if-digit-numerator.false) })

pub with_twelfths-requires : goal.with_twelfths-requires
with_twelfths-requires c =
    let unit = unit-there _ _ (sym c.unit_of.ensures ∙ c.in_ok-unit.was) in
    (c.requires, rw unit.1 (twelfths-within _ _ c.if-digit-numerator.false))

pub returns : goal.returns
unfolding over_numbers
returns c =
    let unit = unit-there _ _ (sym c.unit_of.ensures ∙ c.in_ok-unit.was) in
    rw (ne_eqb _ _ c.if-digit-eq1.false, unit.0, lt-ltb _ _ c.if-digit-numerator.false, ← unit.1) c.with_twelfths.ensures
