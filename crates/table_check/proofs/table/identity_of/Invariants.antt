-- The search passes elements that are no identity, and is left at the first that is one.
use mathlib.Core.Path.{◌≡◌}
use mathlib.Core.Bool.{false}
use Prim.Native.Nat.{ℕ, ◌<◌}
use Rattle.subgroup_laws.specs.Groups.{is_identity}
use Rattle.subgroup_laws.specs.Table.{product}
use Rattle.table_check.proofs.table.identity_of.Given as goal

abbrev pub invariant-loop-e : goal.invariant-loop-e
invariant-loop-e l = (i : ℕ) → i < l.e → is_identity l.n (product l.n l.t) i ≡ false
