-- The invariant is `Generating`. Each turn takes the lowest element that is left as a generator.
use Rattle.subgroup_laws.specs.Generators.{Generating}
use Rattle.subgroup_laws.specs.Table.{product}
use Rattle.table_check.proofs.associativity.generators.Given as goal

abbrev pub invariant-loop-left : goal.invariant-loop-left
invariant-loop-left l = Generating l.n (product l.n l.t) l.e l.found l.reached l.left

abbrev pub decreases-loop-left : goal.decreases-loop-left
decreases-loop-left l = l.left
