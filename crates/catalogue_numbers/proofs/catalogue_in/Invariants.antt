-- The loop's invariant: the first i of the kept bytes are copied. The measure is how many are left.
use mathlib.Core.Path.{◌≡◌}
use Prim.Native.Nat.{◌-◌, ◌≤◌}
use lib.ListN.{length}
use Rattle.catalogue_numbers.specs.CatalogueState.{found_so_far}
use Rattle.catalogue_numbers.proofs.catalogue_in.Given as goal

abbrev pub invariant-loop-i : goal.invariant-loop-i
invariant-loop-i l = (l.i ≤ 80) × (81 ≤ length l.state) × (l.bytes ≡ found_so_far l.state l.i)

abbrev pub decreases-loop-i : goal.decreases-loop-i
decreases-loop-i l = 80 - l.i
