-- The invariants: what was reached is right factor to listed products only, whichever operations are listed. While columns are gone through for one member,
-- it stays such a factor.
use mathlib.Core.List.{List}
use Prim.Native.Nat.{◌<◌}
use lib.ListN.{length}
use Rattle.operation.specs.declared.Operation.{Operation}
use Rattle.centering.specs.declared.Centering.{Centering}
use Rattle.group_record.specs.Criterion.{Right}
use Rattle.group_record.specs.Closing.{listed_at, Widening, WidenedTo}
use Rattle.record_items.proofs.allowed.widen.Given as goal

abbrev pub invariant-loop-i : goal.invariant-loop-i
invariant-loop-i l = WidenedTo l.fn.known l.fn.members l.count l.columns l.stored l.known l.members l.reached

abbrev pub invariant-loop-j : goal.invariant-loop-j
invariant-loop-j l =
    WidenedTo l.fn.known l.fn.members l.count l.columns l.stored l.known l.members l.reached
    × ((letter : Centering) (operations : List Operation) → Widening letter operations l.fn.known l.fn.members l.count l.columns l.stored
    → (l.p < length operations) × Right letter operations (listed_at operations l.p))
