use Rattle.group_record.specs.BothEditions.{edition_of, width_in, item-inside}
use Rattle.group_record.specs.declared.items.Item.{Item}
use Rattle.group_record.specs.Reading.{item_before}
use borrow.Author.Tests.{lt-ltb, le-ltb}
use native.Mathlib.Omega.{arith}
use Prim.Native.Nat.{◌+◌}
use mathlib.Core.Path.{refl, sym, ◌∙◌, ap}
use Rattle.group_record.specs.Walk.{ascending-next, ascending-stop, ascending-end}
use Rattle.record_items.specs.Items.{item_at}
use Rattle.record_items.proofs.rules.codes_ascend.Goals as goal

pub loop-i-init : goal.loop-i-init
loop-i-init c = refl

pub item_at-item-requires : goal.item_at-item-requires
item_at-item-requires c =
    item-inside c.args.edition c.loop-i.i c.args.n _ (omega arith)
    c.requires.2

pub item_at-next-requires : goal.item_at-next-requires
item_at-next-requires c =
    item-inside c.args.edition (c.loop-i.i + 1) c.args.n _ (omega arith)
    c.requires.2

pub returns-then-next-item : goal.returns-then-next-item
unfolding item_at
returns-then-next-item c =
    let first = ap (λ (i : Item). i.code) c.item_at-item.ensures in
    let second = ap (λ (i : Item). i.code) c.item_at-next.ensures in
    let fails =
    le-ltb (item_at c.args.edition c.args.bytes.now c.loop-i.i).code (item_at c.args.edition c.args.bytes.now (c.loop-i.i + 1)).code
    (omega (arith, first, second, c.if-next-item.true)) in
    sym (ascending-stop (width_in c.args.edition) (edition_of c.args.edition).read c.args.n c.args.bytes.now item_before c.loop-i.i (omega arith) fails)
    ∙ c.loop-i.invariant

pub loop-i-preserved : goal.loop-i-preserved
unfolding item_at
loop-i-preserved c =
    let first = ap (λ (i : Item). i.code) c.item_at-item.ensures in
    let second = ap (λ (i : Item). i.code) c.item_at-next.ensures in
    let holds =
    lt-ltb (item_at c.args.edition c.args.bytes.now c.loop-i.i).code (item_at c.args.edition c.args.bytes.now (c.loop-i.i + 1)).code
    (omega (arith, first, second, c.if-next-item.false)) in
    sym (ascending-next (width_in c.args.edition) (edition_of c.args.edition).read c.args.n c.args.bytes.now item_before c.loop-i.i (omega arith) holds)
    ∙ c.loop-i.invariant

pub returns : goal.returns
returns c =
    sym (ascending-end (width_in c.args.edition) (edition_of c.args.edition).read c.args.n c.args.bytes.now item_before c.loop-i.i (omega arith) (omega arith))
    ∙ c.loop-i.invariant
