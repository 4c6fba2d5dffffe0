-- The invariant: with each operation passed, and with each reached, as right factor every product is listed.
use mathlib.Core.Path.{◌≡◌}
use Prim.Native.Nat.{ℕ, ◌<◌}
use lib.ListN.{length}
use Rattle.record_items.specs.Items.{operations_of}
use Rattle.group_record.specs.Criterion.{Right}
use Rattle.group_record.specs.Closing.{listed_at, Sound, Stored}
use Rattle.record_items.proofs.allowed.every_product.Given as goal

abbrev pub invariant-loop-j : goal.invariant-loop-j
invariant-loop-j l =
    (length l.columns ≡ 240) × Stored l.c (operations_of l.edition l.n l.bytes) l.columns l.stored
    × Sound l.c (operations_of l.edition l.n l.bytes) l.known l.members l.count
    × ((k : ℕ) → k < l.j → Right l.c (operations_of l.edition l.n l.bytes) (listed_at (operations_of l.edition l.n l.bytes) k))
