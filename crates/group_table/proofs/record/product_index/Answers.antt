-- The product's code is sought; there is no product with an entry outside −1..1, since its place would be 48.
use Rattle.std.proofs.Common.{◌≡◌, sym, ◌∙◌, ap, arith, eqb}
use Rattle.std.specs.Prelude.{None, Option}
use Rattle.laws.specs.Growth.{place}
use Rattle.operation.specs.Product.{product_of}
use Rattle.group_table.specs.CodeSearch.{product_place}
use Rattle.group_table.proofs.record.product_index.Goals as goal
use Rattle.operation.specs.declared.Operation.{Operation}

pub returns-in_default : goal.returns-in_default
returns-in_default c =
    let outside : product_of c.args.f c.args.g ≡ None = sym c.mul.ensures ∙ c.in_default.is in
    absurd (omega (arith, ap (λ (p : Option Operation). product_place p c.args.codes.now) outside))

-- The code that is sought is that of the product.
pub index_of-requires : goal.index_of-requires
index_of-requires c =
    let codes = c.args.codes.now in
    let place_is : place eqb c.rotation_code.result codes ≡ product_place (product_of c.args.f c.args.g) codes =
    rw c.rotation_code.ensures (ap (λ (p : Option Operation). product_place p codes) (sym c.in-Some.is ∙ c.mul.ensures)) in
    omega (arith, place_is)

pub overflow_cast-result : goal.overflow_cast-result
overflow_cast-result c =
    let codes = c.args.codes.now in
    let place_is : place eqb c.rotation_code.result codes ≡ product_place (product_of c.args.f c.args.g) codes =
    rw c.rotation_code.ensures (ap (λ (p : Option Operation). product_place p codes) (sym c.in-Some.is ∙ c.mul.ensures)) in
    omega (arith, place_is, c.index_of.ensures)

pub returns : goal.returns
returns c =
    let codes = c.args.codes.now in
    let place_is : place eqb c.rotation_code.result codes ≡ product_place (product_of c.args.f c.args.g) codes =
    rw c.rotation_code.ensures (ap (λ (p : Option Operation). product_place p codes) (sym c.in-Some.is ∙ c.mul.ensures)) in
    c.index_of.ensures ∙ place_is
