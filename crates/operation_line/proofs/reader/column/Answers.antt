-- Each arm by the letter that it is of.
use Rattle.operation_line.specs.Numbers.{column_of}
use Rattle.operation_line.proofs.reader.column.Goals as goal

pub returns-in-X : goal.returns-in-X
unfolding column_of
returns-in-X c = rw c.in-X.is

pub returns-in-Y : goal.returns-in-Y
unfolding column_of
returns-in-Y c = rw c.in-Y.is

pub returns-in-Z : goal.returns-in-Z
unfolding column_of
returns-in-Z c = rw c.in-Z.is
