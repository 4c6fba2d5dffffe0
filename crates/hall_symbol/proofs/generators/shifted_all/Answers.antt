use Rattle.std.proofs.Common.{rules, ◌≡◌, arith, length}
use Rattle.hall_symbol.specs.Listed.{moved-next}
use Rattle.hall_symbol.proofs.generators.shifted_all.Goals as goal

pub loop-i-preserved : goal.loop-i-preserved
loop-i-preserved c =
    let long : length c.args.list.operations ≡ 9 = search rules in
    rw (c.loop-i.invariant, c.shifted.ensures) (moved-next c.args.v c.args.list.operations c.loop-i.i _ (omega arith) (omega arith))
