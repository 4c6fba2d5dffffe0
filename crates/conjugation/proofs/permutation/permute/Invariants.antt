-- The invariant: the positions of the members below x stand in front, and i counts them.
use mathlib.Core.Path.{◌≡◌}
use lib.Count.{ones_in}
use lib.ListN.{length}
use Rattle.subgroup_laws.specs.Permutations.{permuted}
use Rattle.subgroup_laws.specs.Table.{product}
use Rattle.conjugation.proofs.permutation.permute.Given as goal

abbrev pub invariant-loop-x : goal.invariant-loop-x
invariant-loop-x l = (l.i ≡ ones_in l.x l.s) × (length l.list ≡ length l.initial.list)
    × (l.list ≡ permuted l.n (product l.n l.t) l.e l.s l.g l.x l.initial.list)
