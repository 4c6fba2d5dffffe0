-- The answer on the symbol's group, packed, and the lent lists as they were left.
use mathlib.Core.List.{List}
use Prim.Native.Nat.{ℕ}
use Rattle.finite_group.specs.Answers.{conjugates_entry}
use Rattle.answer_numbers.specs.Packing.{packed-as}
use Rattle.motion_tables.specs.Answers.{motion_answer}
use Rattle.group_numbers.specs.MotionBounds.{tellable-as, on-symbol}
use Rattle.table_numbers.specs.TableBounds.{table-conjugates}
use Rattle.group_numbers.proofs.symbol.conjugates.Goals as goal

pub answered-requires : goal.answered-requires
answered-requires c =
    tellable-as c.conjugates.ensures.0 (on-symbol _
    (λ (n : ℕ) (t : List ℕ). conjugates_entry n t c.args.set c.args.sets.now c.args.conjugators.now)
    (λ n t. table-conjugates n t c.args.set c.args.sets.now c.args.conjugators.now))

pub returns : goal.returns
returns c =
    (packed-as motion_answer c.answered.ensures c.conjugates.ensures.0, c.conjugates.ensures.1, c.conjugates.ensures.2)
