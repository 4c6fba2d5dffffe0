-- Nothing, and zeros behind it.
use Rattle.std.specs.Prelude.{refl}
use Rattle.hall.specs.Answers.{in_room}
use Rattle.hall.proofs.answers.no_text.Goals as goal

pub returns : goal.returns
unfolding in_room
returns c = refl
