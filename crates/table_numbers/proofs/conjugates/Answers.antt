-- The answer on the table, packed, and the lent lists as they were left.
use Rattle.answer_numbers.specs.Packing.{packed-as}
use Rattle.finite_group.specs.Answers.{table_answer}
use Rattle.table_numbers.proofs.conjugates.Goals as goal

pub returns : goal.returns
returns c =
    (packed-as table_answer c.answered.ensures c.conjugates.ensures.0, c.conjugates.ensures.1, c.conjugates.ensures.2)
