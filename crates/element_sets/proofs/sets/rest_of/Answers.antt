-- 2 ^ n - 1 is the set of all elements.
use mathlib.Core.Path.{◌≡◌, ap, ◌∙◌}
use Prim.Native.Nat.{ℕ, ◌-◌, ◌%◌, ◌^◌}
use native.Mathlib.Omega.{arith}
use lib.Pow.{pow_pos}
use Rattle.laws.specs.Sets.{shifted_one}
use Rattle.subgroup_laws.specs.Removal.{outside_of, rest_of}
use Rattle.element_sets.proofs.sets.rest_of.Goals as goal

pub overflow_sub-n : goal.overflow_sub-n
overflow_sub-n c = rw (shifted_one 64 (c.args.n % 64) (omega arith)) (pow_pos (c.args.n % 64))

pub returns : goal.returns
unfolding rest_of
returns c h =
    let e : c.args.n % 64 ≡ c.args.n = omega arith in
    c.outside.ensures
    ∙ ap (λ (z : ℕ). outside_of (z - 1) c.args.s) (shifted_one 64 (c.args.n % 64) (omega arith) ∙ ap (λ (i : ℕ). 2 ^ i) e)
