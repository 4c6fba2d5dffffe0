-- The first column that has left −1..1 decides; where none has, the three columns are the product.
use mathlib.Core.Path.{sym, ◌∙◌}
use Rattle.laws.specs.Matrix.{times}
use Rattle.operation.specs.Meaning.{matrix_of}
use Rattle.operation.specs.Columns.{all-columns}
use Rattle.operation.specs.Product.{column_times, rotation_times, column-inside, column-outside}
use Rattle.operation.proofs.product.rotation_times.Goals as goal

pub returns-in_err-x : goal.returns-in_err-x
unfolding column_times rotation_times matrix_of times
returns-in_err-x c = simp (c.from_residual.ensures, all-columns, column-outside _ _ _ (sym c.column_times.ensures ∙ c.in_err-x.was))

pub returns-in_err-y : goal.returns-in_err-y
unfolding column_times rotation_times matrix_of times
returns-in_err-y c =
    let x = column-inside _ _ _ _ (sym c.column_times.ensures ∙ c.in_ok-x.was) in
    simp (c.from_residual-in_err-y.ensures, all-columns, x.0, column-outside _ _ _ (sym c.column_times-2.ensures ∙ c.in_err-y.was))

pub returns-in_err-z : goal.returns-in_err-z
unfolding column_times rotation_times matrix_of times
returns-in_err-z c =
    let x = column-inside _ _ _ _ (sym c.column_times.ensures ∙ c.in_ok-x.was) in
    let y = column-inside _ _ _ _ (sym c.column_times-2.ensures ∙ c.in_ok-y.was) in
    simp (c.from_residual-in_err-z.ensures, all-columns, x.0, y.0, column-outside _ _ _ (sym c.column_times-3.ensures ∙ c.in_err-z.was))

pub returns : goal.returns
unfolding column_times rotation_times matrix_of times
returns c =
    let x = column-inside _ _ _ _ (sym c.column_times.ensures ∙ c.in_ok-x.was) in
    let y = column-inside _ _ _ _ (sym c.column_times-2.ensures ∙ c.in_ok-y.was) in
    let z = column-inside _ _ _ _ (sym c.column_times-3.ensures ∙ c.in_ok-z.was) in
    simp (all-columns, x.0, x.1, x.2, x.3, y.0, y.1, y.2, y.3, z.0, z.1, z.2, z.3)
