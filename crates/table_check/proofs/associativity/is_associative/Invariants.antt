-- The three loops pass triples that associate, with a generator in the middle.
use mathlib.Core.Path.{◌≡◌}
use mathlib.Core.Logic.{◌⊎◌}
use mathlib.Core.Bool.{true}
use Prim.Native.Nat.{ℕ, ◌^◌, ◌<◌}
use Rattle.laws.specs.Sets.{member}
use Rattle.subgroup_laws.specs.Generators.{Middle}
use Rattle.subgroup_laws.specs.Table.{product}
use Rattle.table_check.proofs.associativity.is_associative.Given as goal

abbrev pub invariant-loop-k : goal.invariant-loop-k
invariant-loop-k l = (m : ℕ) → m < l.k → product l.n l.t (product l.n l.t l.i l.j) m ≡ product l.n l.t l.i (product l.n l.t l.j m)

abbrev pub invariant-loop-i : goal.invariant-loop-i
invariant-loop-i l =
    (m : ℕ) → m < l.i → (k : ℕ) → k < l.n → product l.n l.t (product l.n l.t m l.j) k ≡ product l.n l.t m (product l.n l.t l.j k)

abbrev pub invariant-loop-j : goal.invariant-loop-j
invariant-loop-j l =
    goal.iterator-loop-j.can_next l.j-iterator × goal.iterator-loop-j.is_finite l.j-iterator × (l.j-iterator.left < 2 ^ l.n)
    × ((j : ℕ) → member l.initial.j-iterator.left j ≡ true → (member l.j-iterator.left j ≡ true) ⊎ Middle l.n (product l.n l.t) l.e j)
