-- One byte more is copied in each turn.
use Rattle.std.proofs.Common.{◌≡◌, ◌∙◌, ap, arith, List, ℕ, ◌++◌, length, get_or, drop, set, length-set}
use Rattle.std.proofs.Math.Seq.{take-length}
use Rattle.lines.specs.Copying.{copied, copied_more}
use Rattle.magnetic_record_writing.proofs.copier.copy_bytes.Goals as goal

pub loop-i-preserved : goal.loop-i-preserved
loop-i-preserved c =
    let byte = get_or c.args.bytes.now c.loop-i.i 0 in
    let more = copied_more c.args.out.now c.args.bytes.now c.loop-i.i (omega arith) (omega arith) in
    (length-set c.loop-i.out c.loop-i.i byte ∙ c.loop-i.invariant.0, ap (λ (r : List ℕ). set r c.loop-i.i byte) c.loop-i.invariant.1 ∙ more)

pub returns : goal.returns
returns c =
    let done : c.loop-i.i ≡ length c.args.bytes.now = omega arith in
    c.loop-i.invariant.1 ∙ ap (copied c.args.out.now c.args.bytes.now) done
    ∙ ap (λ (r : List ℕ). r ++ drop (length c.args.bytes.now) c.args.out.now) (take-length c.args.bytes.now)
