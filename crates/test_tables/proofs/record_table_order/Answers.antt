-- The order of the table that is made.
use mathlib.Core.Path.{ap}
use Rattle.group_table.specs.declared.RecordTable.{RecordTable}
use Rattle.test_tables.proofs.record_table_order.Goals as goal

pub returns : goal.returns
returns c = ap (λ (t : RecordTable). t.order) c.from_record-table.ensures
