-- The definition itself.
use mathlib.Core.Path.{refl}
use Rattle.subgroup_laws.specs.Removal.{outside_of}
use Rattle.element_sets.proofs.sets.outside.Goals as goal

pub returns : goal.returns
unfolding outside_of
returns c = refl
