-- By cases of the order, which is small enough for its square; the cells are those that were filled.
use Rattle.std.specs.Prelude.{Err}
use mathlib.Core.Path.{sym, ◌∙◌, ap}
use native.Mathlib.Omega.{arith}
use Rattle.motion_tables.specs.Answers.{of_record, filled_from}
use Rattle.motion_tables.specs.Orders.{record-end}
use Rattle.motion_tables.proofs.record.table.Goals as goal

pub overflow_mul-end : goal.overflow_mul-end
overflow_mul-end c =
    omega (
      arith,
      record-end _ (λ i. omega (arith, c.shared_slice_known-1.given i)) _
          (sym c.fill_cells.ensures.0 ∙ c.in-Ok.is),
    )

pub returns-in-Ok : goal.returns-in-Ok
returns-in-Ok c =
    (ap (λ o. filled_from (of_record o)) (sym c.in-Ok.is ∙ c.fill_cells.ensures.0), c.fill_cells.ensures.1)

pub returns-in-Err : goal.returns-in-Err
returns-in-Err c = (
  ap (λ r. filled_from (Err r)) c.in_numbers.ensures
      ∙ ap (λ o. filled_from (of_record o)) (sym c.in-Err.is ∙ c.fill_cells.ensures.0),
  c.fill_cells.ensures.1,
)
