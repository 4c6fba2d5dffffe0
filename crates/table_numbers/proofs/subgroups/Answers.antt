-- The answer on the table, packed, and the lent list as it was left.
use Rattle.answer_numbers.specs.Packing.{packed-as}
use Rattle.finite_group.specs.Answers.{table_answer}
use Rattle.table_numbers.proofs.subgroups.Goals as goal

pub returns : goal.returns
returns c =
    (packed-as table_answer c.answered.ensures c.enumerate_subgroups.ensures.0, c.enumerate_subgroups.ensures.1)
