-- The symbol's answer decides, and then the list.
use Rattle.std.proofs.Common.{sym, ◌∙◌, length-take-le}
use Rattle.list_check.specs.Answers.{used-once, used-there, symbol-answer, list-answer-used}
use Rattle.list_check.proofs.check_list.Goals as goal

pub slice_bounds-operations-end : goal.slice_bounds-operations-end
slice_bounds-operations-end c = used-there c.args.text.now c.args.list.now c.new-g.result c.new-g.ensures

pub slice_bounds-check_bytes-end : goal.slice_bounds-check_bytes-end
slice_bounds-check_bytes-end c =
    let g = c.new-g.result in
    sym (length-take-le g.count g.operations (used-there c.args.text.now c.args.list.now g c.new-g.ensures))

pub check_bytes-requires : goal.check_bytes-requires
check_bytes-requires c = used-once c.args.text.now c.args.list.now c.new-g.result c.new-g.ensures c.in-Group.is

pub returns-in-Refused : goal.returns-in-Refused
returns-in-Refused c =
    symbol-answer c.args.text.now c.args.list.now c.new-g.result c.new-g.ensures c.in-Refused.refusal c.in-Refused.is

pub returns-in-Group : goal.returns-in-Group
returns-in-Group c =
    c.check_bytes.ensures ∙ list-answer-used c.args.text.now c.args.list.now c.new-g.result c.new-g.ensures c.in-Group.is
