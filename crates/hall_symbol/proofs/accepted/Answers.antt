-- The moved list fills the slots.
use mathlib.Core.Path.{◌≡◌}
use native.Mathlib.Omega.{arith}
use lib.ListN.{length}
use Rattle.hall_symbol.specs.Listed.{accepted-answer}
use borrow.Author.Rules.{rules}
use Rattle.hall_symbol.proofs.accepted.Goals as goal

pub returns : goal.returns
returns c =
    let long : length c.args.list.operations ≡ 9 = search rules in
    accepted-answer c.args.centering c.args.list c.args.v c.shifted_all-count.result (omega arith) c.shifted_all-count.ensures
