-- The invariant is `Trying`. Each turn tries the lowest element that is left, and is done with its coset.
use Rattle.subgroup_laws.specs.Representatives.{Trying}
use Rattle.subgroup_laws.specs.Table.{product}
use Rattle.subgroup_search.proofs.classes.first_conjugate.Given as goal

abbrev pub invariant-loop-left : goal.invariant-loop-left
invariant-loop-left l = Trying l.n (product l.n l.t) l.e l.s l.left l.best

abbrev pub decreases-loop-left : goal.decreases-loop-left
decreases-loop-left l = l.left
