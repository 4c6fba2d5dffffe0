-- By the status: all 80 bytes, or as many as it says.
use mathlib.Core.Path.{◌≡◌, sym, ◌∙◌, ap}
use mathlib.Core.List.{List, ◌++◌}
use Prim.Native.Nat.{ℕ}
use native.Mathlib.Omega.{arith}
use lib.ListN.{length, take, drop}
use lib.Seq.{take_all}
use Rattle.std.proofs.Common.{length-take-le}
use Rattle.lines.specs.Keeping.{zeros}
use Rattle.lines.specs.Storing.{line-over, line-few}
use Rattle.lines.specs.declared.Line.{Line}
use borrow.Author.Rules.{rules}
use Rattle.lines.proofs.line_of.Goals as goal

abbrev lined : ℕ → List ℕ → Line
lined n bytes = record { length = n; bytes = bytes }

pub returns-then-kept-gt80 : goal.returns-then-kept-gt80
returns-then-kept-gt80 c =
    let bytes = c.args.kept.bytes in
    let whole : length c.args.kept.bytes ≡ 80 = search rules in
    ap (lined 81) (c.padded.ensures ∙ ap (λ (n : ℕ). bytes ++ drop n zeros) whole
    ∙ ap (λ (l : List ℕ). l ++ drop 80 zeros) (sym (take_all 80 bytes (omega arith))))
    ∙ line-over c.args.kept whole c.if-kept-gt80.true

pub returns : goal.returns
returns c =
    let kept = c.args.kept in
    let whole : length c.args.kept.bytes ≡ 80 = search rules in
    ap (lined kept.status) (c.padded-2.ensures
    ∙ ap (λ (n : ℕ). take kept.status kept.bytes ++ drop n zeros) (length-take-le kept.status kept.bytes (omega arith)))
    ∙ line-few kept whole c.if-kept-gt80.false
