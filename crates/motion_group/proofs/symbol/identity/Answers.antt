-- The symbol's order decides; the table of an accepted symbol has its identity first.
use mathlib.Core.Path.{sym, ◌∙◌}
use Rattle.motion_group.specs.Accepted.{symbol-identity-first}
use Rattle.motion_group.proofs.symbol.identity.Goals as goal

pub returns-in-Ok : goal.returns-in-Ok
returns-in-Ok c =
    let is = sym c.order.ensures ∙ c.in-Ok.is in
    simp (is, symbol-identity-first _ _ is)

pub returns-in-Err : goal.returns-in-Err
returns-in-Err c = simp (sym c.order.ensures ∙ c.in-Err.is, c.in_numbers.ensures)
