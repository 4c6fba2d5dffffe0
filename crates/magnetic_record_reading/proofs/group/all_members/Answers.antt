use Rattle.std.proofs.lemmas.Bool.{not_from_false, not_from_true}
use mathlib.Core.Path.{refl, sym, ◌∙◌}
use native.Mathlib.Omega.{arith}
use borrow.Author.Tests.{not-true, not-false}
use Rattle.magnetic_record.specs.SecondEdition.{magnetic_in}
use Rattle.magnetic_record.specs.Reading.{flagged_member}
use Rattle.magnetic_record_reading.specs.Search.{items_of}
use Rattle.group_record.specs.Walk.{all-next, all-stop, all_end}
use Rattle.magnetic_record_reading.proofs.group.all_members.Goals as goal

pub loop-i-init : goal.loop-i-init
loop-i-init c = refl

pub is_member-requires : goal.is_member-requires
is_member-requires c = (c.requires.0, c.requires.1, omega arith)

pub returns-then-not-is_member : goal.returns-then-not-is_member
returns-then-not-is_member c =
    let test = flagged_member c.args.c (items_of c.args.n c.args.bytes.now) in
    let fails = sym c.is_member.ensures ∙ not-true c.is_member.result (not_from_false _ c.if-not-is_member.true) in
    sym (all-stop 6 magnetic_in c.args.n c.args.bytes.now test c.loop-i.i (omega arith) fails) ∙ c.loop-i.invariant

pub loop-i-preserved : goal.loop-i-preserved
loop-i-preserved c =
    let test = flagged_member c.args.c (items_of c.args.n c.args.bytes.now) in
    let passes = sym c.is_member.ensures ∙ not-false c.is_member.result (not_from_true _ c.if-not-is_member.false) in
    sym (all-next 6 magnetic_in c.args.n c.args.bytes.now test c.loop-i.i (omega arith) passes) ∙ c.loop-i.invariant

pub returns : goal.returns
returns c =
    let test = flagged_member c.args.c (items_of c.args.n c.args.bytes.now) in
    sym (all_end 6 magnetic_in c.args.n c.args.bytes.now test c.loop-i.i (omega arith) (omega arith)) ∙ c.loop-i.invariant
