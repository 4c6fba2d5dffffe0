-- By cases of what was read; what was read is a listing of allowed operations, and its table is written where the slots hold it.
use native.Mathlib.Omega.{arith}
use Rattle.subgroup_laws.specs.TableCells.{square-limit}
use Rattle.group_table.specs.ReadTables.{read-allowed, record-short, record-filled, record-refused}
use Rattle.group_table.proofs.record.fill_cells.Goals as goal

pub overflow_mul-order : goal.overflow_mul-order
overflow_mul-order c = record {
  fits =
      let few =
      (read-allowed c.args.bytes.now c.read_record-group.result
      c.read_record-group.ensures (λ i. omega (arith, c.shared_slice_known-1.given i))
      c.in-Accepted.is).0.few in
      omega (arith, square-limit c.read_record-group.result.count few);
}

pub returns-then-cells-order : goal.returns-then-cells-order
returns-then-cells-order c =
    record-short c.args.bytes.now c.read_record-group.result
    c.read_record-group.ensures (λ i. omega (arith, c.shared_slice_known-1.given i))
    c.in-Accepted.is c.args.cells.now c.if-cells-order.true

pub fill_rows-requires : goal.fill_rows-requires
fill_rows-requires c =
    let (writable, allowed) =
    read-allowed c.args.bytes.now c.read_record-group.result
    c.read_record-group.ensures
    (λ i. omega (arith, c.shared_slice_known-1.given i)) c.in-Accepted.is in
    (writable, allowed, omega (arith, c.if-cells-order.false))

pub returns-else-cells-order : goal.returns-else-cells-order
returns-else-cells-order c =
    record-filled c.args.bytes.now
    c.read_record-group.result
    c.read_record-group.ensures
    (λ i. omega (arith, c.shared_slice_known-1.given i))
    c.in-Accepted.is
    c.args.cells.now _
    (omega (arith, c.if-cells-order.false)) c.fill_rows.ensures

pub returns-in-Refused : goal.returns-in-Refused
returns-in-Refused c =
    record-refused c.args.bytes.now c.read_record-group.result
    c.read_record-group.ensures c.in-Refused.why c.in-Refused.is
    c.args.cells.now
