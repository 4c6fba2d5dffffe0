-- Bit i, shifted to the end.
use mathlib.Core.Path.{◌≡◌, ap}
use Prim.Native.Nat.{◌%◌}
use native.Mathlib.Omega.{arith}
use Rattle.laws.specs.Sets.{member}
use Rattle.element_sets.proofs.sets.contains.Goals as goal

pub returns : goal.returns
unfolding member
returns c h = let e : c.args.i % 64 ≡ c.args.i = omega arith in ap (member c.args.s) e
