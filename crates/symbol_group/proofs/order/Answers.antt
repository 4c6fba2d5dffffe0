-- The answer decides.
use Rattle.symbol_group.specs.Slots.{order-refused, order-given}
use Rattle.symbol_group.proofs.order.Goals as goal

pub returns-in-Group : goal.returns-in-Group
returns-in-Group c =
    order-given c.args.text.now c.new-g.result c.new-g.ensures c.in-Group.is

pub returns-in-Refused : goal.returns-in-Refused
returns-in-Refused c =
    order-refused c.args.text.now c.new-g.result
    c.new-g.ensures c.in-Refused.refusal c.in-Refused.is
