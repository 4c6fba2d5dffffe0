-- The ones of the remainder are the members below y.
use mathlib.Core.Path.{ap, ◌∙◌}
use Prim.Native.Nat.{ℕ, ◌%◌, ◌^◌}
use native.Mathlib.Omega.{arith}
use native.Mathlib.Nat.{mod-lt}
use lib.Count.{ones, ones-le}
use lib.Pow.{pow_pos}
use Rattle.laws.specs.Sets.{shifted_one}
use Rattle.subgroup_laws.specs.Permutations.{position-ones}
use Rattle.conjugation.proofs.permutation.position.Goals as goal

pub overflow_cast-result : goal.overflow_cast-result
overflow_cast-result c = omega (
  arith,
  rw (← shifted_one 64 c.args.y c.requires) at
      (ones-le c.args.y (c.args.s % 2 ^ c.args.y) (mod-lt c.args.s (pow_pos c.args.y))),
)

pub returns : goal.returns
returns c = ap (λ (k : ℕ). ones (c.args.s % k)) (shifted_one 64 c.args.y c.requires) ∙ position-ones c.args.s c.args.y
