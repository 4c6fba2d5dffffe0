use Rattle.std.proofs.lemmas.Bool.{not_from_false, not_from_true}
use mathlib.Core.Path.{refl, sym, ◌∙◌}
use native.Mathlib.Omega.{arith}
use borrow.Author.Tests.{not-true, not-false}
use Rattle.magnetic_record.specs.SecondEdition.{magnetic_in}
use Rattle.magnetic_record.specs.Reading.{flagged_pair_listed}
use Rattle.magnetic_record_reading.specs.Search.{items_of, item_at}
use Rattle.magnetic_record_reading.specs.Numbers.{pair-said}
use Rattle.group_record.specs.Walk.{all-next, all-stop, all_end}
use Rattle.magnetic_record_reading.proofs.group.are_products.Goals as goal

pub loop-j-init : goal.loop-j-init
loop-j-init c = refl

pub offset_bounds-numbers-i : goal.offset_bounds-numbers-i
offset_bounds-numbers-i c = omega (arith, c.requires.0.few)

pub bounds-numbers-i : goal.bounds-numbers-i
bounds-numbers-i c = omega (arith, c.requires.0.few)

pub offset_bounds-numbers-j : goal.offset_bounds-numbers-j
offset_bounds-numbers-j c = omega (arith, c.requires.0.few)

pub bounds-numbers-j : goal.bounds-numbers-j
bounds-numbers-j c = omega (arith, c.requires.0.few)

pub is_product-requires : goal.is_product-requires
is_product-requires c = c.requires.0

pub returns-then-not-is_product : goal.returns-then-not-is_product
returns-then-not-is_product c =
    let items = items_of c.args.n c.args.bytes.now in
    let f = item_at c.args.bytes.now c.args.i in
    let g = item_at c.args.bytes.now c.loop-j.j in
    let said = pair-said c.args.c items f g _ _ (c.requires.1 c.args.i c.requires.2) (c.requires.1 c.loop-j.j (omega arith)) in
    let fails = sym (c.is_product.ensures ∙ said) ∙ not-true c.is_product.result (not_from_false _ c.if-not-is_product.true) in
    sym (all-stop 6 magnetic_in c.args.n c.args.bytes.now (flagged_pair_listed items c.args.c f) c.loop-j.j (omega arith) fails) ∙ c.loop-j.invariant

pub loop-j-preserved : goal.loop-j-preserved
loop-j-preserved c =
    let items = items_of c.args.n c.args.bytes.now in
    let f = item_at c.args.bytes.now c.args.i in
    let g = item_at c.args.bytes.now c.loop-j.j in
    let said = pair-said c.args.c items f g _ _ (c.requires.1 c.args.i c.requires.2) (c.requires.1 c.loop-j.j (omega arith)) in
    let passes = sym (c.is_product.ensures ∙ said) ∙ not-false c.is_product.result (not_from_true _ c.if-not-is_product.false) in
    sym (all-next 6 magnetic_in c.args.n c.args.bytes.now (flagged_pair_listed items c.args.c f) c.loop-j.j (omega arith) passes)
    ∙ c.loop-j.invariant

pub returns : goal.returns
returns c =
    let test = flagged_pair_listed (items_of c.args.n c.args.bytes.now) c.args.c (item_at c.args.bytes.now c.args.i) in
    sym (all_end 6 magnetic_in c.args.n c.args.bytes.now test c.loop-j.j (omega arith) (omega arith)) ∙ c.loop-j.invariant
