-- The product of the rotations decides, and the moved translation goes with it.
use mathlib.Core.Path.{sym, ◌∙◌}
use Rattle.laws.specs.Motion.{product}
use Rattle.operation.specs.Meaning.{motion_of}
use Rattle.operation.specs.Product.{product_of, operation_of, moved_of, rotation-inside, rotation-outside}
use Rattle.operation.proofs.product.mul.Goals as goal

pub returns-in_default : goal.returns-in_default
unfolding product_of motion_of product
returns-in_default c = simp (rotation-outside _ _ (sym c.rotation_times.ensures ∙ c.in_default.is))

pub returns : goal.returns
unfolding product_of operation_of moved_of motion_of product
returns c =
    let inside = rotation-inside _ _ _ (sym c.rotation_times.ensures ∙ c.in-Some.is) in
    simp (inside.0, inside.1, c.moved-translation.ensures)
