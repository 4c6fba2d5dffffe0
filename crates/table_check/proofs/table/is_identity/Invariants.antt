-- The loop passes the elements that e leaves as they are from both sides.
use mathlib.Core.Path.{◌≡◌}
use mathlib.Core.Bool.{true, ◌&&◌}
use Prim.Native.Nat.{ℕ, ◌<◌}
use lib.Dec.{eqb}
use Rattle.subgroup_laws.specs.Table.{product}
use Rattle.table_check.proofs.table.is_identity.Given as goal

abbrev pub invariant-loop-x : goal.invariant-loop-x
invariant-loop-x l = (i : ℕ) → i < l.x → (eqb (product l.n l.t l.e i) i && eqb (product l.n l.t i l.e) i) ≡ true
