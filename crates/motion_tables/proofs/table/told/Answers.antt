-- By cases of the answer.
use Rattle.finite_group.specs.Answers.{place_of}
use Rattle.motion_tables.proofs.table.told.Goals as goal

pub returns-in-Ok : goal.returns-in-Ok
returns-in-Ok c = rw c.in-Ok.is

pub returns-in-Err : goal.returns-in-Err
unfolding place_of
returns-in-Err c = rw (c.in-Err.is, c.number.ensures)
