use Rattle.std.proofs.lemmas.Bool.{not_from_false, not_from_true}
use mathlib.Core.Path.{refl, sym, ◌∙◌}
use native.Mathlib.Omega.{arith}
use borrow.Author.Tests.{not-true, not-false}
use Rattle.magnetic_record.specs.SecondEdition.{magnetic_in}
use Rattle.magnetic_record.specs.Reading.{is_magnetic_item}
use Rattle.group_record.specs.Walk.{all-next, all-stop, all_end}
use Rattle.magnetic_record_reading.proofs.reader.items_fit.Goals as goal

pub loop-i-init : goal.loop-i-init
loop-i-init c = refl

pub returns-then-not-is_item : goal.returns-then-not-is_item
returns-then-not-is_item c =
    let fails = sym c.is_item.ensures ∙ not-true c.is_item.result (not_from_false _ c.if-not-is_item.true) in
    sym (all-stop 6 magnetic_in c.args.n c.args.bytes.now (is_magnetic_item c.args.c) c.loop-i.i (omega arith) fails) ∙ c.loop-i.invariant

pub loop-i-preserved : goal.loop-i-preserved
loop-i-preserved c =
    let passes = sym c.is_item.ensures ∙ not-false c.is_item.result (not_from_true _ c.if-not-is_item.false) in
    sym (all-next 6 magnetic_in c.args.n c.args.bytes.now (is_magnetic_item c.args.c) c.loop-i.i (omega arith) passes) ∙ c.loop-i.invariant

pub returns : goal.returns
returns c =
    sym (all_end 6 magnetic_in c.args.n c.args.bytes.now (is_magnetic_item c.args.c) c.loop-i.i (omega arith) (omega arith)) ∙ c.loop-i.invariant
