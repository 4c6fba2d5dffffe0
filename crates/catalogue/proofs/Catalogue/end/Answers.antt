-- 46, or what the lines' room hands over.
use mathlib.Core.Path.{◌≡◌, subst, sym}
use Prim.Native.Nat.{◌≤◌}
use lib.ListN.{length}
use Rattle.lines.specs.Taking.{last-length}
use Rattle.lines.specs.declared.Last.{Last}
use Rattle.catalogue.specs.Answers.{kept_in}
use Rattle.catalogue.specs.Steps.{end_after, end-told}
use borrow.Author.Rules.{rules}
use Rattle.catalogue.proofs.Catalogue.end.Goals as goal

pub returns-then-status-gt81 : goal.returns-then-status-gt81
returns-then-status-gt81 c =
    end_after c.args.self c.args.out.now c.if-status-gt81.true

pub told-answer-requires : goal.told-answer-requires
told-answer-requires c =
    let whole : length c.args.self.bytes ≡ 80 = search rules in
    subst (λ (l : Last). l.line.length ≤ 81) (sym c.last_line-last.ensures) (last-length (kept_in c.args.self) whole)

pub returns : goal.returns
returns c =
    end-told c.args.self c.args.out.now c.if-status-gt81.false c.last_line-last.result c.last_line-last.ensures c.told-answer.result _ c.told-answer.ensures.0
    c.told-answer.ensures.1
