use Rattle.group_record.specs.Reading.{item_in}
use Rattle.answer_text.proofs.operations.operation_in.Goals as goal

pub returns : goal.returns
unfolding item_in
returns c = c.operation_of_item.ensures
