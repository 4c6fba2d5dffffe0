-- By the columns' tests.
use Rattle.std.proofs.Common.{arith}
use Rattle.std.proofs.lemmas.Grind.{common_steps}
use borrow.Author.Tests.{eq-eqb, ne_eqb}
use Rattle.operation_line.specs.Numbers.{full_numbers}
use Rattle.operation_line.proofs.reader.is_full.Goals as goal

pub returns-then-column-ne1-3 : goal.returns-then-column-ne1-3
unfolding full_numbers
returns-then-column-ne1-3 c = grind (arith, common_steps, eq-eqb, ne_eqb)

pub returns-else-column-ne1-3 : goal.returns-else-column-ne1-3
unfolding full_numbers
returns-else-column-ne1-3 c = grind (arith, common_steps, eq-eqb, ne_eqb)
