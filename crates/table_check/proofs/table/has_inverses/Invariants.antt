-- The loop passes elements that have an inverse.
use mathlib.Core.Path.{◌≡◌}
use mathlib.Core.Bool.{true}
use Prim.Native.Nat.{ℕ, ◌<◌}
use lib.Dec.{ltb}
use Rattle.subgroup_laws.specs.Groups.{inverse_of}
use Rattle.subgroup_laws.specs.Table.{product}
use Rattle.table_check.proofs.table.has_inverses.Given as goal

abbrev pub invariant-loop-x : goal.invariant-loop-x
invariant-loop-x l = (i : ℕ) → i < l.x → ltb (inverse_of l.n (product l.n l.t) l.e i) l.n ≡ true
