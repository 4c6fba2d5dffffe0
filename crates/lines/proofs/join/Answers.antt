-- A line of 80 bytes gets no longer; else the byte is stored behind the others.
use mathlib.Core.Path.{◌≡◌}
use lib.ListN.{length}
use Rattle.lines.specs.Storing.{join-full, join_more}
use borrow.Author.Rules.{rules}
use Rattle.lines.proofs.join.Goals as goal

pub returns-then-kept-ge80 : goal.returns-then-kept-ge80
returns-then-kept-ge80 c =
    let whole : length c.args.kept.bytes ≡ 80 = search rules in
    join-full c.args.kept whole c.args.byte c.if-kept-ge80.true

pub returns : goal.returns
returns c =
    let whole : length c.args.kept.bytes ≡ 80 = search rules in
    join_more c.args.kept whole c.args.byte c.if-kept-ge80.false
