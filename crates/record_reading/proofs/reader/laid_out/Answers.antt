use mathlib.Core.Path.{sym, ◌∙◌}
use native.Mathlib.Omega.{arith}
use Rattle.record_items.specs.Items.{operation-there}
use Rattle.record_reading.specs.Found.{laid_out}
use Rattle.record_reading.specs.Slots.{filled_next, filled-start, filled-end}
use Rattle.record_reading.proofs.reader.laid_out.Goals as goal

pub loop-i-init : goal.loop-i-init
loop-i-init c = rw c.identity-operations.ensures (sym (filled-start c.args.edition c.args.n c.args.bytes.now))

pub loop-i-preserved : goal.loop-i-preserved
loop-i-preserved c =
    let wide = c.requires.1 in
    let there = operation-there c.args.edition c.args.n c.loop-i.i c.args.bytes.now (omega arith) wide in
    rw (c.loop-i.invariant, c.operation_in.ensures ∙ there) (filled_next c.args.edition c.args.n c.args.bytes.now c.loop-i.i (omega arith) (omega arith))

pub returns : goal.returns
unfolding laid_out
returns c =
    let done = c.loop-i.invariant ∙ filled-end c.args.edition c.args.n c.args.bytes.now c.loop-i.i (omega arith) (omega arith) in
    λ k. record {
      answer = c.args.answer;
      edition = c.args.edition;
      layer = c.is_small.ensures k;
      centering = c.lattice.ensures k;
      count = c.args.n;
      operations = done k;
    }
