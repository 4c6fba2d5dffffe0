-- What `is_point` finds of the difference.
use mathlib.Core.Path.{◌∙◌}
use Rattle.centering.specs.Lattices.{congruent_of, difference_of}
use Rattle.centering.proofs.Centering.congruent.Goals as goal

pub returns : goal.returns
unfolding congruent_of difference_of
returns c = c.is_point.ensures ∙ rw c.difference.ensures
