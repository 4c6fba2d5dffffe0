-- The cell of the table that the record has.
use mathlib.Core.Path.{ap, ◌∙◌}
use Rattle.group_table.specs.declared.RecordTable.{RecordTable}
use Rattle.test_tables.specs.Cells.{cell_at}
use Rattle.test_tables.proofs.record_table_cell.Goals as goal

pub returns : goal.returns
returns c =
    c.cell_at.ensures
    ∙ ap (λ (t : RecordTable). cell_at t.cells c.args.place) c.from_record-table.ensures
