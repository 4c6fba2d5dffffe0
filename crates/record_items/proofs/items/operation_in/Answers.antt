-- The test is that of the definition.
use Prim.Native.Nat.{◌+◌, ◌*◌}
use native.Mathlib.Omega.{arith}
use lib.ListN.{length}
use borrow.Author.Tests.{le-leb, lt-leb}
use Rattle.group_record.specs.BothEditions.{width_in}
use Rattle.record_items.specs.Items.{operation_in, item-short}
use Rattle.record_items.proofs.items.operation_in.Goals as goal

pub overflow_add-end : goal.overflow_add-end
overflow_add-end c =
    omega (arith, c.items_length.ensures, c.items_length-2.ensures, item-short c.args.edition c.args.i (omega arith))

pub returns-then-bytes-end : goal.returns-then-bytes-end
unfolding operation_in
returns-then-bytes-end c =
    rw (lt-leb (width_in c.args.edition * c.args.i + width_in c.args.edition) (length c.args.bytes.now)
    (omega (arith, c.items_length.ensures, c.items_length-2.ensures, c.if-bytes-end.true)))
    c.identity.ensures

pub returns : goal.returns
unfolding operation_in
returns c =
    rw (le-leb (width_in c.args.edition * c.args.i + width_in c.args.edition) (length c.args.bytes.now)
    (omega (arith, c.items_length.ensures, c.items_length-2.ensures, c.if-bytes-end.false)))
    c.operation_at.ensures
