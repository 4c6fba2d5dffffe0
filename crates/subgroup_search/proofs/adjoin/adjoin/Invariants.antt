-- The invariant is the state of the growth with no representative being followed. Each turn takes one representative out of those that
-- wait, and each that comes in makes the set larger.
use Prim.Native.Nat.{◌+◌, ◌-◌}
use lib.Count.{ones}
use Rattle.subgroup_laws.specs.Adjoin.{Growing}
use Rattle.subgroup_laws.specs.Table.{product}
use Rattle.subgroup_search.proofs.adjoin.adjoin.Given as goal

abbrev pub invariant-loop-grown : goal.invariant-loop-grown
invariant-loop-grown l = Growing l.n (product l.n l.t) l.e l.h l.g l.g l.grown.set l.grown.waiting (λ x. ⊥)

abbrev pub decreases-loop-grown : goal.decreases-loop-grown
decreases-loop-grown l = ones l.grown.waiting + (l.n - ones l.grown.set)
