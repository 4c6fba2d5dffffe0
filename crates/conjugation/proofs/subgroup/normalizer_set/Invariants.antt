-- The set is built in ascending order.
use mathlib.Core.Path.{◌≡◌}
use mathlib.Core.Bool.{Bool}
use mathlib.Core.List.{List}
use Prim.Native.Nat.{ℕ}
use lib.Dec.{eqb}
use Rattle.laws.specs.Sets.{set_of}
use Rattle.subgroup_laws.specs.Subsets.{conjugate_of}
use Rattle.subgroup_laws.specs.Table.{product}
use Rattle.conjugation.proofs.subgroup.normalizer_set.Given as goal

-- whether g conjugates s to itself
abbrev keeps : List ℕ → ℕ → ℕ → ℕ → ℕ → Bool
keeps t n e s g = eqb (conjugate_of n (product n t) e s g) s

abbrev pub invariant-loop-g : goal.invariant-loop-g
invariant-loop-g l = l.found ≡ set_of l.g (keeps l.t l.n l.e l.s)
