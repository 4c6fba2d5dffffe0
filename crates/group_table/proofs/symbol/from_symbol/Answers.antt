-- The cells are filled into blank slots, and the order says which answer it is.
use mathlib.Core.Path.{sym, ◌∙◌}
use Rattle.group_table.specs.SymbolSteps.{symbol-by-value}
use Rattle.group_table.proofs.symbol.from_symbol.Goals as goal

pub returns-in-Ok : goal.returns-in-Ok
returns-in-Ok c =
    symbol-by-value c.args.text.now _ _
    (sym c.in-Ok.is ∙ c.fill_cells-found.ensures.0)
    c.fill_cells-found.ensures.1

pub returns-in-Err : goal.returns-in-Err
returns-in-Err c =
    symbol-by-value c.args.text.now _ _
    (sym c.in-Err.is ∙ c.fill_cells-found.ensures.0)
    c.fill_cells-found.ensures.1
