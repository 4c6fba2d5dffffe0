-- By cases of the product: its number says it and its flag.
use mathlib.Core.Path.{sym, ◌∙◌, ap, ap₂}
use Prim.Native.Nat.{ℕ, ◌+◌, ◌%◌}
use native.Mathlib.Omega.{arith}
use Rattle.laws.specs.Distinct.{has}
use Rattle.operation.specs.Product.{product_of}
use Rattle.operation.specs.declared.Operation.{Operation}
use Rattle.packed_operation.specs.Number.{said_by, flag_of}
use Rattle.packed_operation.specs.Answered.{inside-says}
use Rattle.group_record.specs.OperationItems.{item_of}
use Rattle.group_record.specs.Reading.{alike_items, product_listed}
use Rattle.magnetic_record.specs.Reading.{half}
use Rattle.magnetic_record_reading.specs.Search.{items_of}
use Rattle.magnetic_record_reading.specs.Numbers.{no_number}
use Rattle.magnetic_record_reading.proofs.group.is_product.Goals as goal

pub returns-in_default : goal.returns-in_default
returns-in_default c =
    let items = items_of c.args.n c.args.bytes.now in
    let flag = (flag_of c.args.f + flag_of c.args.g) % 2 in
    let none = no_number (product_of (said_by c.args.f) (said_by c.args.g)) flag (sym c.product.ensures ∙ c.in_default.is) in
    ap (product_listed c.args.c (half flag items)) (sym none)

pub returns : goal.returns
returns c =
    let items = items_of c.args.n c.args.bytes.now in
    let flag = (flag_of c.args.f + flag_of c.args.g) % 2 in
    let inside = sym c.product.ensures ∙ c.in-Some.is in
    let (says, bit) = inside-says (said_by c.args.f) (said_by c.args.g) flag _ (omega arith) inside in
    let said = c.said.ensures in
    let flagged = c.flag.ensures.0 ∙ bit in
    let moved = ap₂ (λ (o : Operation) (k : ℕ). has (alike_items c.args.c) (item_of o) (half k items)) said flagged in
    c.is_listed.ensures ∙ moved ∙ ap (product_listed c.args.c (half flag items)) (sym says)
