-- The loop passes the members whose products with x are held.
use mathlib.Core.Path.{◌≡◌}
use mathlib.Core.Bool.{true, cond}
use Prim.Native.Nat.{ℕ, ◌<◌}
use Rattle.laws.specs.Sets.{member}
use Rattle.subgroup_laws.specs.Table.{product}
use Rattle.conjugation.proofs.subgroup.holds_row.Given as goal

abbrev pub invariant-loop-y : goal.invariant-loop-y
invariant-loop-y l = (i : ℕ) → i < l.y → cond (member l.s i) (member l.s (product l.n l.t l.x i)) true ≡ true
