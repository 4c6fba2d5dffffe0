-- Each code that is passed is another, and where the search stops the code stands.
use Rattle.std.proofs.Common.{arith}
use Rattle.space_group.specs.Places.{place-hit, place-miss}
use Rattle.group_table.proofs.record.index_of.Goals as goal

pub loop-i-preserved : goal.loop-i-preserved
loop-i-preserved c =
    let i = c.loop-i.i in
    let miss = place-miss c.args.code c.args.codes.now i (omega arith) (λ h. c.loop-i-test.true h) in
    omega arith

pub returns : goal.returns
returns c =
    let i = c.loop-i.i in
    let hit = place-hit c.args.code c.args.codes.now i (omega arith) c.loop-i-test.false in
    omega arith
