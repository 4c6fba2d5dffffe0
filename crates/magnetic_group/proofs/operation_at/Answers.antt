-- The answer on the list decides, then the count; an index below the count is that of a slot, and its number says the operation.
use native.Mathlib.Omega.{arith}
use Rattle.magnetic_group.specs.Numbers.{Listed, slots-listed, operation-refused, operation-past, operation-given}
use Rattle.magnetic_group.proofs.operation_at.Goals as goal

pub offset_bounds-numbers-index : goal.offset_bounds-numbers-index
offset_bounds-numbers-index c =
    let made : Listed c.args.text.now c.list-g.result.count c.list-g.new.numbers =
    slots-listed c.args.text.now c.list-g.result c.list-g.new.numbers c.in-Group.is c.list-g.ensures.0 c.list-g.ensures.1 in
    omega (arith, made.few, c.if-index-g.true)

pub bounds-numbers-index : goal.bounds-numbers-index
bounds-numbers-index c =
    let made : Listed c.args.text.now c.list-g.result.count c.list-g.new.numbers =
    slots-listed c.args.text.now c.list-g.result c.list-g.new.numbers c.in-Group.is c.list-g.ensures.0 c.list-g.ensures.1 in
    omega (arith, made.few, c.if-index-g.true)

pub returns-in-Group : goal.returns-in-Group
returns-in-Group c =
    let made = slots-listed c.args.text.now c.list-g.result c.list-g.new.numbers c.in-Group.is c.list-g.ensures.0 c.list-g.ensures.1 in
    operation-given c.args.text.now c.list-g.result.count c.list-g.new.numbers made c.args.index _ c.if-index-g.true _ c.said.ensures _ c.flag.ensures.0

pub returns-in-Group-2 : goal.returns-in-Group-2
returns-in-Group-2 c =
    let made = slots-listed c.args.text.now c.list-g.result c.list-g.new.numbers c.in-Group.is c.list-g.ensures.0 c.list-g.ensures.1 in
    operation-past c.args.text.now c.list-g.result.count c.list-g.new.numbers made c.args.index c.if-index-g.false

pub returns-in-Refused : goal.returns-in-Refused
returns-in-Refused c =
    operation-refused c.args.text.now c.list-g.result c.list-g.ensures.0 c.in-Refused.refusal c.in-Refused.is c.args.index
