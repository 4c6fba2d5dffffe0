-- The trailing zeros' count is the lowest member.
use mathlib.Core.Path.{◌≡◌}
use native.Mathlib.Omega.{arith}
use lib.Count.{trailing_le}
use Rattle.laws.specs.Sets.{trailing_below, trailing-member, trailing-some}
use Rattle.element_sets.proofs.sets.lowest.Goals as goal

pub overflow_cast-result : goal.overflow_cast-result
overflow_cast-result c = omega (arith, trailing_le 64 c.args.s)

pub returns : goal.returns
returns c l =
    let some : c.args.s ≡ 0 → ⊥ = λ e. omega arith in
    let h = trailing-some 64 c.args.s c.ranges.s.fits some in
    (trailing-member 64 c.args.s h, h, trailing_below 64 c.args.s)
