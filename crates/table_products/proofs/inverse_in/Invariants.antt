-- The search passes elements that are no inverse, and is left at the first that is one.
use mathlib.Core.Path.{◌≡◌}
use mathlib.Core.Bool.{false}
use Prim.Native.Nat.{ℕ, ◌<◌}
use Rattle.subgroup_laws.specs.Groups.{is_inverse}
use Rattle.subgroup_laws.specs.Table.{product}
use Rattle.table_products.proofs.inverse_in.Given as goal

abbrev pub invariant-loop-y : goal.invariant-loop-y
invariant-loop-y l = (i : ℕ) → i < l.y → is_inverse (product l.n l.t) l.e l.x i ≡ false
