-- The bitwise xor takes the member out.
use mathlib.Core.Path.{◌≡◌, ap, ◌∙◌}
use Prim.Native.Nat.{ℕ, ◌%◌, ◌^◌}
use native.Mathlib.Omega.{arith}
use Rattle.laws.specs.Sets.{member_below, shifted_one}
use Rattle.subgroup_laws.specs.Removal.{xor-without}
use Rattle.element_sets.proofs.sets.without.Goals as goal

pub returns : goal.returns
returns c m =
    let h = member_below 64 c.args.s c.args.i c.ranges.s.fits m in
    let e : c.args.i % 64 ≡ c.args.i = omega arith in
    rw (shifted_one 64 (c.args.i % 64) (omega arith) ∙ ap (λ (i : ℕ). 2 ^ i) e) (xor-without c.args.s c.args.i m)
