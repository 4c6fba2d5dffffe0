-- Each part's text can be written, some of the piece is taken each time, and what is kept and what is written, with what is left, come to the same.
use Rattle.std.specs.Prelude.{◌++◌, take}
use Rattle.std.proofs.Common.{arith, ◌∙◌, subst}
use Rattle.std.specs.Io.KnownBytes.{Appends}
use Rattle.std.proofs.KnownBytes.{Appends-trans}
use Rattle.lines.specs.Feeding.{handed_over}
use Rattle.lines.specs.Keeping.{held}
use Rattle.hall.specs.Output.{texts_of}
use Rattle.hall.specs.Answers.{answered-writable, next-places, next-within, next-later, next-kept, next-written, kept_whole, written_whole}
use Rattle.hall.proofs.answer_piece.Goals as goal

pub write_text-requires : goal.write_text-requires
write_text-requires g c = answered-writable _ _ c.answer_next-answered.result c.answer_next-answered.ensures

pub overflow_add-from : goal.overflow_add-from
overflow_add-from g c =
    let l = c.loop-from in
    let call = c.answer_next-answered in
    let within = next-within c.args.piece.now l.from l.line l.invariant.1 call.result call.ensures l.invariant.0 in
    omega arith

pub loop-from-smaller : goal.loop-from-smaller
loop-from-smaller g c =
    let l = c.loop-from in
    let call = c.answer_next-answered in
    let later = next-later c.args.piece.now l.from l.line l.invariant.1 call.result call.ensures (omega arith) in
    omega arith

pub loop-from-preserved : goal.loop-from-preserved
loop-from-preserved g c =
    let l = c.loop-from in
    let piece = c.args.piece.now in
    let call = c.answer_next-answered in
    let (written, there, all) = l.invariant.3 in
    let more = c.write_text.ensures c.if-not-write_text.false in (
      next-within piece l.from l.line l.invariant.1 call.result call.ensures l.invariant.0,
      next-places piece l.from l.line l.invariant.1 call.result call.ensures,
      next-kept piece l.from l.line l.invariant.1 call.result call.ensures ∙ l.invariant.2,
      (
        written ++ take call.result.text.length call.result.text.bytes,
        Appends-trans _ _ _ written (take call.result.text.length call.result.text.bytes) there more,
        next-written piece l.from l.line l.invariant.1 call.result call.ensures written _ all,
      ),
    )

pub returns : goal.returns
returns g c =
    let l = c.loop-from in
    let (written, there, all) = l.invariant.3 in
    let whole = texts_of (handed_over (held c.args.kept) c.args.piece.now) in (
      kept_whole c.args.piece.now l.from (held l.line) (omega arith) ∙ l.invariant.2,
      subst (Appends (g.W.Write.contents c.args.out.now) (g.W.Write.contents l.out)) {x = written} {y = whole}
          (written_whole c.args.piece.now l.from (held l.line) written whole (omega arith) all) there,
    )
