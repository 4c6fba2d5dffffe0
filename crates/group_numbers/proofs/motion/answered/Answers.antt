-- The value as it is, or the refusal by its number and place.
use mathlib.Core.Path.{sym, ◌∙◌}
use Rattle.answer_numbers.specs.Packing.{told-whole}
use Rattle.group_numbers.specs.MotionBounds.{tellable-as}
use Rattle.group_numbers.proofs.motion.answered.Goals as goal

pub returns-in-Err : goal.returns-in-Err
returns-in-Err c =
    let refused = c.in-Err.is in
    c.refused.ensures ∙ told-whole (tellable-as (sym refused) c.requires) ∙ simp refused
