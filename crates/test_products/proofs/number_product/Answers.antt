-- The answer's case.
use mathlib.Core.Path.{sym, ◌∙◌, ap}
use Rattle.test_products.specs.Packed.{number_told}
use Rattle.test_products.proofs.number_product.Goals as goal

pub returns-in-Some : goal.returns-in-Some
returns-in-Some c = ap number_told (sym c.in-Some.is ∙ c.product.ensures)

pub returns-in-None : goal.returns-in-None
returns-in-None c = ap number_told (sym c.in-None.is ∙ c.product.ensures)
