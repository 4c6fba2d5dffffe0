-- By cases of the edition.
use Rattle.record_items.proofs.items.items_length.Goals as goal

pub returns-in-First : goal.returns-in-First
returns-in-First c = rw c.in-First.is

pub returns-in-Third : goal.returns-in-Third
returns-in-Third c = rw c.in-Third.is
