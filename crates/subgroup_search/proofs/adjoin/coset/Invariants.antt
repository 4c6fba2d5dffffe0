-- The invariant: the members still to come, and the products of the others.
use mathlib.Core.List.{List}
use Prim.Native.Nat.{ℕ}
use Rattle.subgroup_laws.specs.ImageLoop.{Imaging}
use Rattle.subgroup_laws.specs.Table.{product}
use Rattle.subgroup_search.proofs.adjoin.coset.Given as goal

-- x b
abbrev value : List ℕ → ℕ → ℕ → ℕ → ℕ
value t n b x = product n t x b

abbrev pub invariant-loop-x : goal.invariant-loop-x
invariant-loop-x l =
    goal.iterator-loop-x.can_next l.x-iterator × goal.iterator-loop-x.is_finite l.x-iterator
    × Imaging l.n (value l.t l.n l.b) l.s l.x-iterator.left l.found
