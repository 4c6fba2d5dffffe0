-- The two operations, their product, and the answer's case.
use mathlib.Core.Path.{sym, ◌∙◌, ap, ap₂}
use Rattle.operation.specs.Product.{product_of}
use Rattle.test_products.specs.Packed.{product_rows}
use Rattle.test_products.proofs.product_rows.Goals as goal

pub returns-in-Some : goal.returns-in-Some
returns-in-Some c =
    c.rows.ensures ∙ ap product_rows (sym c.in-Some.is ∙ c.mul.ensures
    ∙ ap₂ product_of c.operation_in.ensures
    c.operation_in-2.ensures)

pub returns-in-None : goal.returns-in-None
returns-in-None c =
    ap product_rows (sym c.in-None.is ∙ c.mul.ensures
    ∙ ap₂ product_of c.operation_in.ensures c.operation_in-2.ensures)
