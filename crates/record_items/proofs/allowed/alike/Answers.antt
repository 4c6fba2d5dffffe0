-- The codes decide, then the classes of the translations.
use Rattle.group_record.specs.Reading.{alike_items}
use borrow.Author.Tests.{eq-eqb, ne_eqb}
use Rattle.record_items.proofs.allowed.alike.Goals as goal

pub returns-then-code-item : goal.returns-then-code-item
unfolding alike_items
returns-then-code-item c = simp (← c.item_at-item.ensures, eq-eqb _ _ c.if-code-item.true) c.congruent.ensures

pub returns-else-code-item : goal.returns-else-code-item
unfolding alike_items
returns-else-code-item c = simp (← c.item_at-item.ensures, ne_eqb _ _ c.if-code-item.false)
