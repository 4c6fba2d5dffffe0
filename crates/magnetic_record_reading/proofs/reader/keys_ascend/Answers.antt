use mathlib.Core.Path.{refl, sym, ◌∙◌}
use Prim.Native.Nat.{◌+◌}
use native.Mathlib.Omega.{arith}
use borrow.Author.Tests.{lt-ltb, le-ltb}
use Rattle.magnetic_record.specs.SecondEdition.{magnetic_in, magnetic_key}
use Rattle.magnetic_record.specs.Record.{key_before}
use Rattle.magnetic_record_reading.specs.Search.{item_at}
use Rattle.group_record.specs.Walk.{ascending-next, ascending-stop, ascending-end}
use Rattle.magnetic_record_reading.proofs.reader.keys_ascend.Goals as goal

pub loop-i-init : goal.loop-i-init
loop-i-init c = refl

pub returns-then-key_at : goal.returns-then-key_at
returns-then-key_at c =
    let next = c.key_at.ensures in
    let here = c.key_at-in-loop-i.ensures in
    let first = magnetic_key (item_at c.args.bytes.now c.loop-i.i) in
    let second = magnetic_key (item_at c.args.bytes.now (c.loop-i.i + 1)) in
    let fails = le-ltb first second (omega (arith, here, next, c.if-key_at.true)) in
    sym (ascending-stop 6 magnetic_in c.args.n c.args.bytes.now key_before c.loop-i.i (omega arith) fails) ∙ c.loop-i.invariant

pub loop-i-preserved : goal.loop-i-preserved
loop-i-preserved c =
    let next = c.key_at.ensures in
    let here = c.key_at-in-loop-i.ensures in
    let first = magnetic_key (item_at c.args.bytes.now c.loop-i.i) in
    let second = magnetic_key (item_at c.args.bytes.now (c.loop-i.i + 1)) in
    let holds = lt-ltb first second (omega (arith, here, next, c.if-key_at.false)) in
    sym (ascending-next 6 magnetic_in c.args.n c.args.bytes.now key_before c.loop-i.i (omega arith) holds) ∙ c.loop-i.invariant

pub returns : goal.returns
returns c =
    sym (ascending-end 6 magnetic_in c.args.n c.args.bytes.now key_before c.loop-i.i (omega arith) (omega arith)) ∙ c.loop-i.invariant
