-- The value as it is, or the refusal by its number, at 0.
use mathlib.Core.Path.{◌∙◌}
use Rattle.finite_group.specs.Answers.{place_of}
use Rattle.table_numbers.proofs.answered.Goals as goal

pub returns-in-Err : goal.returns-in-Err
unfolding place_of
returns-in-Err c = c.refused.ensures ∙ simp (c.number.ensures, c.in-Err.is)
