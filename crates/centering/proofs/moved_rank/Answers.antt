-- The sums modulo 12 are the triple's coordinates.
use mathlib.Core.Path.{refl}
use native.Mathlib.Omega.{arith}
use Rattle.laws.specs.Lattice.{rank}
use Rattle.laws.specs.Residue.{◌⊕◌}
use Rattle.centering.proofs.moved_rank.Goals as goal

pub returns : goal.returns
unfolding rank ◌⊕◌
returns c = (refl, omega arith)
