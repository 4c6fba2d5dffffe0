use mathlib.Core.Path.{sym, subst}
use native.Mathlib.Omega.{arith}
use Rattle.answer_text.specs.Lines.{Plain, line-short}
use Rattle.answer_text.specs.RecordLines.{lines_start, lines_next, lines_end, part-operation}
use Rattle.answer_text.proofs.AnswerText.put_operations.Goals as goal

pub loop-i-init : goal.loop-i-init
loop-i-init c = (omega arith, lines_start c.args.n c.args.bytes.now c.args.self.now.bytes c.args.self.now.length)

pub put_operation-requires : goal.put_operation-requires
put_operation-requires c =
    let found = part-operation c.args.bytes.now c.loop-i.i c.operation_in.result c.operation_in.ensures in
    (subst Plain (sym found) (c.requires.2 c.loop-i.i c.loop-i-test.true), omega (arith, c.requires.3, c.loop-i.invariant.0, c.loop-i-test.true))

pub loop-i-preserved : goal.loop-i-preserved
loop-i-preserved c =
    let f = c.operation_in.result in
    let found = part-operation c.args.bytes.now c.loop-i.i f c.operation_in.ensures in
    let short = line-short f (subst Plain (sym found) (c.requires.2 c.loop-i.i c.loop-i-test.true)) in (
      omega (arith, c.put_operation.ensures.place, c.loop-i.invariant.0),
      lines_next c.args.n c.args.bytes.now c.loop-i.i c.loop-i-test.true f found c.loop-i.invariant.1 c.put_operation.ensures,
    )

pub returns : goal.returns
returns c = lines_end c.args.n c.args.bytes.now c.loop-i.i (omega arith) c.loop-i.invariant.1
