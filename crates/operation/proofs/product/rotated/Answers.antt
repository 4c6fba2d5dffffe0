-- What is moved by nothing is rotated.
use lib.IntN.{+ℤ_idr}
use Rattle.laws.specs.Matrix.{plus}
use Rattle.operation.specs.Meaning.{vector_of}
use Rattle.operation.specs.Product.{rotated_of, moved_of}
use Rattle.operation.proofs.product.rotated.Goals as goal

pub returns : goal.returns
unfolding rotated_of moved_of plus vector_of
returns c = simp (c.moved.ensures, +ℤ_idr)
