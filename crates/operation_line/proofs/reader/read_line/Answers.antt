use mathlib.Core.Path.{◌≡◌, sym, ◌∙◌, ap}
use native.Mathlib.Omega.{arith}
use lib.ListN.{length}
use borrow.Author.Tests.{lt-ltb}
use Rattle.operation_line.specs.Reading.{read_line}
use Rattle.operation_line.specs.Numbers.{ended_numbers}
use Rattle.operation_line.specs.Ended.{holds-begin, holds-within, holds_on, holds-stop, holds-end}
use Rattle.operation_line.proofs.reader.read_line.Goals as goal

pub returns-then-line-gt64 : goal.returns-then-line-gt64
unfolding read_line
returns-then-line-gt64 c = rw (lt-ltb _ _ c.if-line-gt64.true)

pub loop-i-init : goal.loop-i-init
loop-i-init c = holds-begin _

pub step-requires : goal.step-requires
step-requires c = holds-within _ _ _ c.loop-i.invariant

pub returns-in_default : goal.returns-in_default
returns-in_default c =
    holds-stop _ _ _ c.loop-i.invariant c.loop-i-test.true (sym c.step.ensures ∙ c.in_default.is)
    c.if-line-gt64.false

pub loop-i-preserved : goal.loop-i-preserved
loop-i-preserved c =
    holds_on _ _ _ c.loop-i.invariant c.loop-i-test.true _ (sym c.step.ensures ∙ c.in-Some.is)

pub returns : goal.returns
returns c =
    let loop = c.loop-i in
    let line = c.args.line.now in
    let last : loop.i ≡ length line = omega (arith, loop.invariant.within) in
    c.at_end.ensures ∙ ap (λ n. ended_numbers n loop.state) (sym last) ∙ holds-end line loop.i loop.state loop.invariant last c.if-line-gt64.false
