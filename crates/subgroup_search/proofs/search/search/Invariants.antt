-- The invariant is `Searching`. Each turn settles one set more, and there are no more sets than slots.
use mathlib.Core.Path.{◌≡◌}
use Prim.Native.Nat.{◌-◌}
use lib.ListN.{length}
use Rattle.subgroup_laws.specs.Table.{product}
use Rattle.subgroup_search.specs.SearchLoop.{Searching}
use Rattle.subgroup_search.proofs.search.search.Given as goal

abbrev pub invariant-loop-done : goal.invariant-loop-done
invariant-loop-done l = (length l.initial.sets ≡ length l.sets) × Searching l.n (product l.n l.t) l.e l.classes l.initial.sets l.sets l.count l.done

abbrev pub decreases-loop-done : goal.decreases-loop-done
decreases-loop-done l = length l.initial.sets - l.done
