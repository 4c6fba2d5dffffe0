-- A conjunction: the first test, or the second where the first holds.
use Rattle.group_record.specs.Rules.{are_good}
use Rattle.magnetic_record_reading.proofs.reader.are_items.Goals as goal

pub returns-then-items_fit : goal.returns-then-items_fit
unfolding are_good
returns-then-items_fit c = simp (← c.items_fit.ensures, c.if-items_fit.true) c.keys_ascend.ensures

pub returns-else-items_fit : goal.returns-else-items_fit
unfolding are_good
returns-else-items_fit c = simp (← c.items_fit.ensures, c.if-items_fit.false)
