-- One law for the three coordinates.
use Rattle.laws.specs.Matrix.{plus, opposite}
use Rattle.laws.specs.Residue.{residue-difference}
use Rattle.operation.specs.Meaning.{vector_of}
use Rattle.centering.specs.Lattices.{difference_of}
use Rattle.centering.proofs.difference.Goals as goal

pub returns : goal.returns
unfolding difference_of vector_of plus opposite
returns c = simp residue-difference
