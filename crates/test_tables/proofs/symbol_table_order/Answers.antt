-- The order of the table that is made.
use mathlib.Core.Path.{ap}
use Rattle.group_table.specs.declared.SymbolTable.{SymbolTable}
use Rattle.test_tables.proofs.symbol_table_order.Goals as goal

pub returns : goal.returns
returns c = ap (λ (t : SymbolTable). t.order) c.from_symbol-table.ensures
