-- The answer decides, then the count; an index below the count is that of a slot.
use native.Mathlib.Omega.{arith}
use Rattle.symbol_group.specs.Slots.{operation-refused, operation-past, operation-given, index-small}
use Rattle.symbol_group.proofs.operation_at.Goals as goal

pub offset_bounds-g-index : goal.offset_bounds-g-index
offset_bounds-g-index c =
    let small = index-small c.args.text.now c.new-g.result c.new-g.ensures c.in-Group.is c.args.index c.if-index-g.true in omega arith

pub bounds-g-index : goal.bounds-g-index
bounds-g-index c = index-small c.args.text.now c.new-g.result c.new-g.ensures c.in-Group.is c.args.index c.if-index-g.true

pub returns-in-Group : goal.returns-in-Group
returns-in-Group c = operation-given c.args.text.now c.new-g.result c.new-g.ensures c.in-Group.is c.args.index _ c.if-index-g.true

pub returns-in-Group-2 : goal.returns-in-Group-2
returns-in-Group-2 c = operation-past c.args.text.now c.new-g.result c.new-g.ensures c.in-Group.is c.args.index c.if-index-g.false

pub returns-in-Refused : goal.returns-in-Refused
returns-in-Refused c =
    operation-refused c.args.text.now c.new-g.result
    c.new-g.ensures c.in-Refused.refusal c.args.index
    c.in-Refused.is
