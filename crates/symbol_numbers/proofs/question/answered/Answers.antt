-- By the question; an index below the count is that of a slot.
use mathlib.Core.Path.{◌≡◌, ◌∙◌, ap}
use native.Mathlib.Omega.{arith}
use lib.ListN.{length}
use borrow.Author.Tests.{lt-ltb, le-ltb}
use Rattle.operation.specs.Product.{identity_operation}
use Rattle.laws.specs.Indices.{at-any}
use Rattle.answer_numbers.specs.Packing.{operation_number}
use borrow.Author.Rules.{rules}
use Rattle.symbol_numbers.proofs.question.answered.Goals as goal

pub returns-then-count-i : goal.returns-then-count-i
returns-then-count-i c =
    c.refused.ensures ∙ rw (c.in-Operation.is, le-ltb _ c.args.count c.if-count-i.true)

pub returns-else-count-i : goal.returns-else-count-i
returns-else-count-i c =
    let whole : length c.args.operations ≡ 48 = search rules in
    let below = c.if-count-i.false in
    c.operation_number.ensures
    ∙ ap operation_number (at-any c.args.operations _ _ identity_operation (omega (arith, below, c.requires, whole)))
    ∙ rw (c.in-Operation.is, lt-ltb _ c.args.count below)
