-- The invariant: the elements left are none of h, and the extensions by the others were put in.
use mathlib.Core.Path.{◌≡◌}
use mathlib.Core.Bool.{true, false}
use Prim.Native.Nat.{ℕ, ◌^◌, ◌<◌}
use lib.ListN.{length}
use Rattle.laws.specs.Sets.{member}
use Rattle.subgroup_laws.specs.Table.{product}
use Rattle.subgroup_search.specs.SearchLoop.{ExtendedBut}
use Rattle.std.specs.Prelude.{Some}
use Rattle.subgroup_search.proofs.search.extend.Given as goal

abbrev pub invariant-loop-left : goal.invariant-loop-left
invariant-loop-left l =
    (length l.sets ≡ length l.initial.sets) × (l.left < 2 ^ l.n) × ((j : ℕ) → member l.left j ≡ true → member l.h j ≡ false)
    × ExtendedBut l.n (product l.n l.t) l.e l.classes l.h l.left l.count l.initial.sets l.sets (Some l.found)

abbrev pub decreases-loop-left : goal.decreases-loop-left
decreases-loop-left l = l.left
