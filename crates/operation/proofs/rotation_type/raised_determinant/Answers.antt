-- `raised_determinant`: its two sums are those of `determinant-digits`. Assumes nothing.
use native.Mathlib.Omega.{arith}
use Rattle.operation.specs.DigitDeterminant.{terms_added, terms_taken, terms-range, determinant-digits}
use Rattle.operation.proofs.rotation_type.raised_determinant.Goals as goal

pub overflow_sub-result : goal.overflow_sub-result
unfolding terms_added terms_taken
overflow_sub-result c =
    omega (arith, terms-range c.args.r c.requires)

pub returns : goal.returns
unfolding terms_added terms_taken
returns c = (
  rw (
    c.triple.ensures.0,
    c.triple-2.ensures.0,
    c.triple-3.ensures.0,
    c.triple-4.ensures.0,
    c.triple-5.ensures.0,
    c.triple-6.ensures.0,
  )
      (determinant-digits c.args.r c.requires),
  omega (arith, terms-range c.args.r c.requires),
)
