use Rattle.std.proofs.Common.{◌∙◌, sym, arith}
use Rattle.hall_symbol.specs.Runs.{run-here, run_on, scan_end}
use Rattle.hall_symbol.proofs.bytes.scan.Goals as goal

pub returns-then-not-passes : goal.returns-then-not-passes
returns-then-not-passes g c =
    λ f e.
    let i = c.loop-i.i in
    let reached = c.loop-i.invariant f e in
    let stop = run-here f c.args.text.now i (omega arith) (sym (e _ _ (omega (arith, c.type_inv.text i)) c.passes.ensures) ∙ c.if-not-passes.true) in
    omega arith

pub loop-i-preserved : goal.loop-i-preserved
loop-i-preserved g c =
    λ f e.
    let i = c.loop-i.i in
    let reached = c.loop-i.invariant f e in
    let on = run_on f c.args.text.now i (omega arith) (sym (e _ _ (omega (arith, c.type_inv.text i)) c.passes.ensures) ∙ c.if-not-passes.false) in
    omega arith

pub returns : goal.returns
returns g c = λ f e. c.max.ensures ∙ scan_end f c.args.text.now c.args.at c.loop-i.i (omega arith) c.loop-i.auto.i-end (c.loop-i.invariant f e)
