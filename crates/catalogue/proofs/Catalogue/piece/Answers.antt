-- 45, 46, or what the lines' room hands over.
use mathlib.Core.Path.{◌≡◌, subst, sym}
use Prim.Native.Nat.{◌≤◌}
use lib.ListN.{length}
use Rattle.lines.specs.Taking.{taken-length}
use Rattle.lines.specs.declared.Taken.{Taken}
use Rattle.catalogue.specs.Answers.{kept_in}
use Rattle.catalogue.specs.Steps.{long-piece, piece-after, piece-taken}
use borrow.Author.Rules.{rules}
use Rattle.catalogue.proofs.Catalogue.piece.Goals as goal

pub returns-then-piece-gt4096 : goal.returns-then-piece-gt4096
returns-then-piece-gt4096 c =
    long-piece c.args.self c.args.piece.now c.args.out.now c.if-piece-gt4096.true

pub returns-then-status-gt81 : goal.returns-then-status-gt81
returns-then-status-gt81 c =
    piece-after c.args.self c.args.piece.now c.args.out.now c.if-piece-gt4096.false c.if-status-gt81.true

pub told-answer-requires : goal.told-answer-requires
told-answer-requires c =
    let whole : length c.args.self.bytes ≡ 80 = search rules in
    subst (λ (t : Taken). t.line.length ≤ 81) (sym c.take_line-part.ensures) (taken-length (kept_in c.args.self) whole c.args.piece.now)

pub returns : goal.returns
returns c =
    piece-taken c.args.self c.args.piece.now c.args.out.now c.if-piece-gt4096.false c.if-status-gt81.false c.take_line-part.result c.take_line-part.ensures
    c.told-answer.result _ c.told-answer.ensures.0 c.told-answer.ensures.1 c.going_on.result c.going_on.ensures
