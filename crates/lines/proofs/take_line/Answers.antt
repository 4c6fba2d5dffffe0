use mathlib.Core.Path.{◌≡◌, ◌∙◌, ap}
use mathlib.Core.Bool.{false}
use mathlib.Core.List.{[]}
use Prim.Native.Nat.{ℕ}
use native.Mathlib.Omega.{arith}
use lib.ListN.{length}
use Rattle.lines.specs.Taking.{taking-none, taking-all, taking-end, taking-more}
use Rattle.lines.specs.Keeping.{line_in}
use Rattle.lines.specs.declared.Line.{Line}
use borrow.Author.Rules.{rules}
use Rattle.lines.proofs.take_line.Goals as goal

pub loop-i-init : goal.loop-i-init
loop-i-init c =
    let whole : length c.args.kept.bytes ≡ 80 = search rules in
    taking-none c.args.kept c.args.piece.now whole c.counted-line.result c.counted-line.ensures

pub returns-then-byte-eq10 : goal.returns-then-byte-eq10
returns-then-byte-eq10 c =
    let l = c.loop-i in
    let whole : length c.args.kept.bytes ≡ 80 = search rules in
    c.ended.ensures ∙ taking-end c.args.kept c.args.piece.now whole l.line l.i l.invariant (omega arith) c.if-byte-eq10.true

pub loop-i-preserved : goal.loop-i-preserved
loop-i-preserved c =
    let l = c.loop-i in
    let whole : length c.args.kept.bytes ≡ 80 = search rules in
    taking-more c.args.kept c.args.piece.now whole l.line l.i l.invariant (omega arith) c.join-line.result c.if-byte-eq10.false c.join-line.ensures

pub returns : goal.returns
returns c =
    let l = c.loop-i in
    let whole : length c.args.kept.bytes ≡ 80 = search rules in
    let all : length c.args.piece.now ≡ l.i = omega arith in
    ap (λ (n : Line). record { kept = l.line; taken = length c.args.piece.now; finished = false; line = n }) c.no_line.ensures
    ∙ ap (λ (n : ℕ). record { kept = l.line; taken = n; finished = false; line = line_in [] }) all
    ∙ taking-all c.args.kept c.args.piece.now whole l.line l.i l.invariant (omega arith)
