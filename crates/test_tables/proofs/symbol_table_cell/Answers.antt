-- The cell of the table that the symbol has.
use mathlib.Core.Path.{ap, ◌∙◌}
use Rattle.group_table.specs.declared.SymbolTable.{SymbolTable}
use Rattle.test_tables.specs.Cells.{cell_at}
use Rattle.test_tables.proofs.symbol_table_cell.Goals as goal

pub returns : goal.returns
returns c =
    c.cell_at.ensures
    ∙ ap (λ (t : SymbolTable). cell_at t.cells c.args.place) c.from_symbol-table.ensures
