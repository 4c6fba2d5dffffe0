-- Both products are compared with the identity.
use mathlib.Core.Path.{sym, ◌∙◌}
use borrow.Author.Tests.{eq-eqb, ne_eqb}
use Rattle.laws.specs.Truth.{and-fails-left}
use Rattle.subgroup_laws.specs.Groups.{is_inverse}
use Rattle.table_products.proofs.is_inverse.Goals as goal

pub returns-then-cell-e : goal.returns-then-cell-e
unfolding is_inverse
returns-then-cell-e c = simp (← c.cell.ensures, eq-eqb _ _ c.if-cell-e.true, ← c.cell-then-cell-e.ensures)

pub returns-else-cell-e : goal.returns-else-cell-e
unfolding is_inverse
returns-else-cell-e c = let h = ne_eqb _ _ c.if-cell-e.false in h ∙ sym (and-fails-left _ _ (ne_eqb _ _ (λ q. c.if-cell-e.false (c.cell.ensures ∙ q))))
