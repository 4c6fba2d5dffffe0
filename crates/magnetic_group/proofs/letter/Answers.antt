-- The answer on the list decides.
use Rattle.magnetic_group.specs.Numbers.{letter-given, letter-refused}
use Rattle.magnetic_group.proofs.letter.Goals as goal

pub returns-in-Group : goal.returns-in-Group
returns-in-Group c =
    letter-given c.args.text.now c.list-g.result c.list-g.ensures.0 c.in-Group.is

pub returns-in-Refused : goal.returns-in-Refused
returns-in-Refused c =
    letter-refused c.args.text.now c.list-g.result c.list-g.ensures.0 c.in-Refused.refusal
    c.in-Refused.is
