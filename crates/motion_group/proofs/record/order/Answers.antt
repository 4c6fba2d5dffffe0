-- What was read decides.
use Rattle.motion_group.specs.Accepted.{order-read}
use Rattle.motion_group.proofs.record.order.Goals as goal

pub returns-in-Accepted : goal.returns-in-Accepted
returns-in-Accepted c = rw (order-read _ _ c.read_record-group.ensures, c.in-Accepted.is)

pub returns-in-Refused : goal.returns-in-Refused
returns-in-Refused c = rw (order-read _ _ c.read_record-group.ensures, c.in-Refused.is, c.in_numbers.ensures)
