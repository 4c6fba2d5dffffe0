-- No byte, no line; else the line.
use mathlib.Core.Path.{◌≡◌, ◌∙◌, ap}
use mathlib.Core.Bool.{Bool, true, false}
use lib.ListN.{length}
use Rattle.lines.specs.Taking.{last_none, last_one}
use Rattle.lines.specs.declared.Line.{Line}
use Rattle.lines.specs.declared.Last.{Last}
use borrow.Author.Rules.{rules}
use Rattle.lines.proofs.last_line.Goals as goal

abbrev told : Bool → Line → Last
told t l = record { finished = t; line = l }

pub returns-then-kept-eq0 : goal.returns-then-kept-eq0
returns-then-kept-eq0 c =
    let whole : length c.args.kept.bytes ≡ 80 = search rules in
    ap (told false) c.no_line.ensures ∙ last_none c.args.kept whole c.if-kept-eq0.true

pub returns : goal.returns
returns c =
    let whole : length c.args.kept.bytes ≡ 80 = search rules in
    ap (told true) c.line_of.ensures ∙ last_one c.args.kept whole c.if-kept-eq0.false
