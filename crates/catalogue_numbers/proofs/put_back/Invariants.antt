-- The loop's invariant: the status and the first i bytes are put back. The measure is how many are left.
use mathlib.Core.Path.{◌≡◌}
use Prim.Native.Nat.{◌-◌, ◌≤◌}
use lib.ListN.{length}
use Rattle.catalogue_numbers.specs.CatalogueState.{put_so_far}
use Rattle.catalogue_numbers.proofs.put_back.Given as goal

abbrev pub invariant-loop-i : goal.invariant-loop-i
invariant-loop-i l = (l.i ≤ 80) × (81 ≤ length l.initial.state) × (l.state ≡ put_so_far l.initial.state l.bytes l.i)

abbrev pub decreases-loop-i : goal.decreases-loop-i
decreases-loop-i l = 80 - l.i
