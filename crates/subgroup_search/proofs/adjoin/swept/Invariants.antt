-- The invariant: the members of h still to come, and the state of the growth.
use Rattle.subgroup_laws.specs.Table.{product}
use Rattle.subgroup_search.specs.Growth.{Sweeping}
use Rattle.subgroup_search.proofs.adjoin.swept.Given as goal

abbrev pub invariant-loop-x : goal.invariant-loop-x
invariant-loop-x l =
    goal.iterator-loop-x.can_next l.x-iterator × goal.iterator-loop-x.is_finite l.x-iterator
    × Sweeping l.n (product l.n l.t) l.e l.h l.g l.g l.fn.old.set l.fn.old.waiting l.r l.grown.set l.grown.waiting l.x-iterator.left
