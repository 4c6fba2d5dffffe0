-- `times`: the ranges are those of `product-range`. Assumes nothing.
use mathlib.Core.Path.{refl}
use native.Mathlib.Omega.{arith}
use Rattle.operation.specs.DigitDeterminant.{digit_of_product, product-range}
use Rattle.operation.proofs.rotation_type.times.Goals as goal

pub overflow_mul-result : goal.overflow_mul-result
overflow_mul-result c = omega (arith, product-range c.args.a c.args.b c.requires.0 c.requires.1)

pub overflow_add-result : goal.overflow_add-result
overflow_add-result c = omega (arith, product-range c.args.a c.args.b c.requires.0 c.requires.1)

pub overflow_sub-result-2 : goal.overflow_sub-result-2
overflow_sub-result-2 c = omega (arith, product-range c.args.a c.args.b c.requires.0 c.requires.1)

pub returns : goal.returns
unfolding digit_of_product
returns c = (refl, (product-range c.args.a c.args.b c.requires.0 c.requires.1).2)
