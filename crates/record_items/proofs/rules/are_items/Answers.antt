-- A conjunction: the first test, and the second where the first holds.
use Rattle.group_record.specs.Reading.{are_items}
use Rattle.record_items.proofs.rules.are_items.Goals as goal

pub returns-then-items_fit : goal.returns-then-items_fit
unfolding are_items
returns-then-items_fit c = simp (← c.items_fit.ensures, c.if-items_fit.true) c.codes_ascend.ensures

pub returns-else-items_fit : goal.returns-else-items_fit
unfolding are_items
returns-else-items_fit c = simp (← c.items_fit.ensures, c.if-items_fit.false)
