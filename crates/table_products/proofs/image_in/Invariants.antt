-- The invariant: the members still to come, and, if the cells are elements, the values of the others.
use mathlib.Core.List.{List}
use Prim.Native.Nat.{ℕ, ◌^◌, ◌<◌}
use Rattle.subgroup_laws.specs.ImageLoop.{Imaging}
use Rattle.subgroup_laws.specs.Table.{product, Cells}
use Rattle.table_products.proofs.image_in.Given as goal

-- (a x) b
abbrev value : List ℕ → ℕ → ℕ → ℕ → ℕ → ℕ
value t n a b x = product n t (product n t a x) b

abbrev pub invariant-loop-x : goal.invariant-loop-x
invariant-loop-x l =
    goal.iterator-loop-x.can_next l.x-iterator × goal.iterator-loop-x.is_finite l.x-iterator
    × (l.x-iterator.left < 2 ^ l.n) × (Cells l.n l.t → Imaging l.n (value l.t l.n l.a l.b) l.s l.x-iterator.left l.found)
