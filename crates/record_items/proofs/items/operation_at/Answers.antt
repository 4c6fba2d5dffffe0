-- What the item says.
use mathlib.Core.Path.{◌∙◌, ap}
use Rattle.group_record.specs.Reading.{operation_of_item}
use Rattle.record_items.proofs.items.operation_at.Goals as goal

pub returns : goal.returns
returns c = c.operation_of_item.ensures ∙ ap operation_of_item c.item_at.ensures
