-- The part that is taken decides: its line's text, or none.
use Rattle.std.specs.Prelude.{◌≡◌, ◌≤◌, length}
use Rattle.std.proofs.Common.{sym, subst}
use borrow.Author.Rules.{rules}
use Rattle.lines.specs.Taking.{taken-length}
use Rattle.lines.specs.declared.Taken.{Taken}
use Rattle.hall.specs.Answers.{answered-part}
use Rattle.hall.proofs.answers.answer_next.Goals as goal

pub text_of-text-requires : goal.text_of-text-requires
text_of-text-requires c =
    let whole : length c.args.kept.bytes ≡ 80 = search rules in
    subst (λ (t : Taken). t.line.length ≤ 81) (sym c.take_line-part.ensures) (taken-length c.args.kept whole c.args.piece.now)

pub returns : goal.returns
returns c =
    answered-part c.args.kept c.args.piece.now c.take_line-part.result c.take_line-part.ensures c.text_of-text.result c.text_of-text.ensures
