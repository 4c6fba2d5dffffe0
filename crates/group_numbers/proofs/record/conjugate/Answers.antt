-- The answer on the record's group, packed.
use mathlib.Core.List.{List}
use Prim.Native.Nat.{ℕ}
use Rattle.finite_group.specs.Answers.{conjugate_entry}
use Rattle.answer_numbers.specs.Packing.{packed-as}
use Rattle.motion_tables.specs.Answers.{motion_answer}
use Rattle.group_numbers.specs.MotionBounds.{tellable-as, on-record}
use Rattle.table_numbers.specs.TableBounds.{table-conjugate}
use Rattle.group_numbers.proofs.record.conjugate.Goals as goal

pub answered-requires : goal.answered-requires
answered-requires c =
    tellable-as c.conjugate.ensures (on-record _ (λ (n : ℕ) (t : List ℕ). conjugate_entry n t c.args.set c.args.element)
    (λ n t. table-conjugate n t c.args.set c.args.element))

pub returns : goal.returns
returns c = packed-as motion_answer c.answered.ensures c.conjugate.ensures
