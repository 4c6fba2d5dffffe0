-- The tests of the definition; the loop passes the members whose products are held.
use mathlib.Core.Path.{◌≡◌}
use mathlib.Core.Bool.{true, cond}
use Prim.Native.Nat.{ℕ, ◌<◌}
use Rattle.laws.specs.Sets.{member}
use Rattle.subgroup_laws.specs.Subsets.{holds_row}
use Rattle.subgroup_laws.specs.Table.{product}
use Rattle.conjugation.proofs.subgroup.is_subgroup.Given as goal

abbrev pub invariant-loop-x : goal.invariant-loop-x
invariant-loop-x l = (i : ℕ) → i < l.x → cond (member l.s i) (holds_row l.n (product l.n l.t) l.s i) true ≡ true
