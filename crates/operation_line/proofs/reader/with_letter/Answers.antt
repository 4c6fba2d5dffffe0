-- By the letter's digit and the sign.
use native.Mathlib.Omega.{arith}
use mathlib.Core.Path.{sym, ◌∙◌}
use borrow.Author.Tests.{eq-eqb, ne_eqb}
use Rattle.operation_line.specs.Numbers.{letter_numbers, weight-within, weight-small}
use Rattle.operation_line.proofs.reader.with_letter.Goals as goal

pub returns-then-column-ne1 : goal.returns-then-column-ne1
unfolding letter_numbers
returns-then-column-ne1 c = rw (← c.column.ensures, ne_eqb _ _ c.if-column-ne1.true)

pub overflow_sub-code : goal.overflow_sub-code
overflow_sub-code c = rw c.weight-one.ensures (weight-within _ _ (sym c.column.ensures ∙ c.if-column-ne1.false))

pub returns-then-negative : goal.returns-then-negative
unfolding letter_numbers
returns-then-negative c =
    rw (← c.column.ensures, eq-eqb _ _ c.if-column-ne1.false, c.if-negative.true, ← c.weight-one.ensures)
    c.told.ensures

pub overflow_add-code : goal.overflow_add-code
overflow_add-code c = omega (arith, c.weight-one.ensures, weight-small c.args.letter)

pub returns : goal.returns
unfolding letter_numbers
returns c =
    rw (← c.column.ensures, eq-eqb _ _ c.if-column-ne1.false, c.if-negative.false, ← c.weight-one.ensures)
    c.told-2.ensures
