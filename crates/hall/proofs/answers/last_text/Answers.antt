-- The text of the last line, if there is one.
use Rattle.std.specs.Prelude.{◌≡◌, ◌≤◌, length}
use Rattle.std.proofs.Common.{sym, subst}
use borrow.Author.Rules.{rules}
use Rattle.lines.specs.Taking.{last-length}
use Rattle.lines.specs.declared.Last.{Last}
use Rattle.hall.specs.Answers.{last-part}
use Rattle.hall.proofs.answers.last_text.Goals as goal

pub text_of-requires : goal.text_of-requires
text_of-requires c =
    let whole : length c.args.kept.bytes ≡ 80 = search rules in
    subst (λ (l : Last). l.line.length ≤ 81) (sym c.last_line-last.ensures) (last-length c.args.kept whole)

pub returns : goal.returns
returns c = last-part c.args.kept c.last_line-last.result c.last_line-last.ensures c.text_of.result c.text_of.ensures
