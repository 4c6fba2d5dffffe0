-- The answer on the table, packed.
use Rattle.answer_numbers.specs.Packing.{packed-as}
use Rattle.finite_group.specs.Answers.{table_answer}
use Rattle.table_numbers.proofs.conjugate.Goals as goal

pub returns : goal.returns
returns c = packed-as table_answer c.answered.ensures c.conjugate.ensures
