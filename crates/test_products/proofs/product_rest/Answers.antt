-- The two operations, their product, and the answer's case.
use mathlib.Core.Path.{sym, ◌∙◌, ap, ap₂}
use Rattle.operation.specs.Product.{product_of}
use Rattle.test_products.specs.Packed.{product_rest}
use Rattle.test_products.proofs.product_rest.Goals as goal

pub returns-in-Some : goal.returns-in-Some
returns-in-Some c =
    c.rest.ensures ∙ ap product_rest (sym c.in-Some.is ∙ c.mul.ensures
    ∙ ap₂ product_of c.operation_in.ensures
    c.operation_in-2.ensures)

pub returns-in-None : goal.returns-in-None
returns-in-None c =
    ap product_rest (sym c.in-None.is ∙ c.mul.ensures
    ∙ ap₂ product_of c.operation_in.ensures c.operation_in-2.ensures)
