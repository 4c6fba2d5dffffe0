-- The cells are filled into blank slots, and the order says which answer it is.
use mathlib.Core.Path.{sym, ◌∙◌}
use native.Mathlib.Omega.{arith}
use Rattle.group_table.specs.ReadTables.{record-by-value}
use Rattle.group_table.proofs.record.from_record.Goals as goal

pub returns-in-Ok : goal.returns-in-Ok
returns-in-Ok c =
    record-by-value c.args.bytes.now
    (λ i. omega (arith, c.shared_slice_known-1.given i)) _ _
    (sym c.in-Ok.is ∙ c.fill_cells-found.ensures.0)
    c.fill_cells-found.ensures.1

pub returns-in-Err : goal.returns-in-Err
returns-in-Err c =
    record-by-value c.args.bytes.now
    (λ i. omega (arith, c.shared_slice_known-1.given i)) _ _
    (sym c.in-Err.is ∙ c.fill_cells-found.ensures.0)
    c.fill_cells-found.ensures.1
