-- The answer on the symbol's group, packed, and the lent list as it was left.
use mathlib.Core.List.{List}
use Prim.Native.Nat.{ℕ}
use Rattle.finite_group.specs.Answers.{classes_answer}
use Rattle.answer_numbers.specs.Packing.{packed-as}
use Rattle.motion_tables.specs.Answers.{motion_answer}
use Rattle.group_numbers.specs.MotionBounds.{tellable-as, on-symbol}
use Rattle.table_numbers.specs.TableBounds.{table-classes}
use Rattle.group_numbers.proofs.symbol.classes.Goals as goal

pub answered-requires : goal.answered-requires
answered-requires c =
    tellable-as c.conjugacy_classes.ensures.0
    (on-symbol _ (λ (n : ℕ) (t : List ℕ). classes_answer n t c.args.sets.now) (λ n t. table-classes n t c.args.sets.now))

pub returns : goal.returns
returns c =
    (packed-as motion_answer c.answered.ensures c.conjugacy_classes.ensures.0, c.conjugacy_classes.ensures.1)
