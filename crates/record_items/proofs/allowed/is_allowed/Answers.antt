-- The three parts of what is allowed, in the order in which they are tried; the last decides by its right factors.
use Rattle.std.proofs.lemmas.Bool.{not_from_false, not_from_true}
use mathlib.Core.Path.{◌≡◌, sym, ◌∙◌, ap₂}
use native.Mathlib.Omega.{arith}
use borrow.Author.Tests.{not-true, not-false}
use mathlib.Core.Bool.{true}
use Rattle.laws.specs.Growth.{place}
use Rattle.laws.specs.Truth.{all}
use Rattle.operation.specs.Product.{identity_operation, product_of}
use Rattle.operation.specs.declared.Operation.{Operation}
use Rattle.group_record.specs.Record.{item_of}
use Rattle.group_record.specs.Reading.{alike_items, keeps_item}
use Rattle.record_items.specs.Items.{items_of, items-count}
use Rattle.group_record.specs.Closing.{product_at, lost, unit-place, without-identity, keep-into, unit-right, decided}
use Rattle.record_items.proofs.allowed.is_allowed.Goals as goal

pub all_keep-requires : goal.all_keep-requires
all_keep-requires c = (c.requires.0, c.requires.1)

pub returns-then-not-all_keep : goal.returns-then-not-all_keep
returns-then-not-all_keep c =
    lost c.args.c (items_of c.args.edition c.args.n c.args.bytes.now) (sym c.all_keep.ensures
    ∙ not-true c.all_keep.result (not_from_false _ c.if-not-all_keep.true))

pub product_at-requires : goal.product_at-requires
product_at-requires c = (c.requires.0, c.requires.1)

pub returns-in_default : goal.returns-in_default
returns-in_default c =
    let missing = rw c.in_default.is at c.product_at.ensures in
    -- What was sought is the identity.
    let unit-at : c.args.n ≡ place (alike_items c.args.c) (item_of identity_operation)
    (items_of c.args.edition c.args.n
    c.args.bytes.now) =
    let items = items_of c.args.edition c.args.n c.args.bytes.now in
    missing.0 ∙ ap₂ (λ (f g : Operation). product_at c.args.c items (product_of f g)) c.identity.ensures
    c.identity-2.ensures ∙ unit-place c.args.c items in
    without-identity c.args.c (items_of c.args.edition c.args.n c.args.bytes.now) _ (unit-at)
    (omega (arith, items-count c.args.edition c.args.n c.args.bytes.now))

pub every_product-requires : goal.every_product-requires
every_product-requires c =
    let unit-at : c.in-Some.e ≡ place (alike_items c.args.c) (item_of identity_operation)
    (items_of c.args.edition c.args.n
    c.args.bytes.now) =
    let items = items_of c.args.edition c.args.n c.args.bytes.now in
    c.in-Some.ensures.0 ∙ ap₂ (λ (f g : Operation). product_at c.args.c items (product_of f g)) c.identity.ensures
    c.identity-2.ensures ∙ unit-place c.args.c items in
    -- All rotations keep the lattice.
    let kept_at : all (keeps_item c.args.c)
    (items_of c.args.edition c.args.n c.args.bytes.now) ≡ true =
    sym c.all_keep.ensures ∙ not-false c.all_keep.result (not_from_true _ c.if-not-all_keep.false) in
    let items = items_of c.args.edition c.args.n c.args.bytes.now in
    let into = keep-into c.args.c items (kept_at) in (
      c.requires.0,
      c.requires.1,
      c.requires.2,
      into,
      omega (arith, c.in-Some.ensures.1),
      unit-right c.args.c items c.requires.2 into _ (unit-at) (omega (arith, items-count c.args.edition c.args.n c.args.bytes.now, c.in-Some.ensures.1)),
    )

pub returns : goal.returns
returns c =
    let unit-at : c.in-Some.e ≡ place (alike_items c.args.c) (item_of identity_operation)
    (items_of c.args.edition c.args.n
    c.args.bytes.now) =
    let items = items_of c.args.edition c.args.n c.args.bytes.now in
    c.in-Some.ensures.0 ∙ ap₂ (λ (f g : Operation). product_at c.args.c items (product_of f g)) c.identity.ensures
    c.identity-2.ensures ∙ unit-place c.args.c items in
    let kept_at : all (keeps_item c.args.c)
    (items_of c.args.edition c.args.n c.args.bytes.now) ≡ true =
    sym c.all_keep.ensures ∙ not-false c.all_keep.result (not_from_true _ c.if-not-all_keep.false) in
    let count = items-count c.args.edition c.args.n c.args.bytes.now in
    let (right, lacks) = c.every_product.ensures in
    decided c.args.c (items_of c.args.edition c.args.n c.args.bytes.now) c.requires.2 (kept_at) _
    (unit-at) (omega (arith, count, c.in-Some.ensures.1))
    c.every_product.result ((λ e k h. right e k (omega (arith, count))), lacks)
