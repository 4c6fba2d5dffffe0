-- The answer on the list decides.
use Rattle.magnetic_group.specs.Numbers.{order-given, order-refused}
use Rattle.magnetic_group.proofs.order.Goals as goal

pub returns-in-Group : goal.returns-in-Group
returns-in-Group c =
    order-given c.args.text.now c.list-g.result c.list-g.ensures.0 c.in-Group.is

pub returns-in-Refused : goal.returns-in-Refused
returns-in-Refused c =
    order-refused c.args.text.now c.list-g.result c.list-g.ensures.0 c.in-Refused.refusal
    c.in-Refused.is
