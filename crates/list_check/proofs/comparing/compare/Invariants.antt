-- The loop's invariant: no entry passed is off, and the set holds the operations that they are.
use mathlib.Core.Path.{◌≡◌}
use mathlib.Core.Bool.{false}
use Prim.Native.Nat.{ℕ, ◌<◌}
use lib.ListN.{length}
use Rattle.list_check.specs.Checked.{off_at, slot_at, entry_at}
use Rattle.list_check.specs.Slots.{Seen}
use Rattle.list_check.proofs.comparing.compare.Given as goal

abbrev pub invariant-loop-i : goal.invariant-loop-i
invariant-loop-i l =
    ((j : ℕ) → j < l.i → off_at l.c (length l.operations) (slot_at l.operations) (entry_at l.list) j ≡ false)
    × Seen l.c (length l.operations) (slot_at l.operations) (entry_at l.list) l.i l.seen
