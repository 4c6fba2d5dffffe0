-- The answer on the symbol's group, packed, and the lent list as it was left.
use mathlib.Core.List.{List}
use Prim.Native.Nat.{ℕ}
use Rattle.finite_group.specs.Answers.{permutation_entry}
use Rattle.answer_numbers.specs.Packing.{packed-as}
use Rattle.motion_tables.specs.Answers.{motion_answer}
use Rattle.group_numbers.specs.MotionBounds.{tellable-as, on-symbol}
use Rattle.table_numbers.specs.TableBounds.{table-permutation}
use Rattle.group_numbers.proofs.symbol.permutation.Goals as goal

pub answered-requires : goal.answered-requires
answered-requires c =
    tellable-as c.normalizer_action.ensures.0
    (on-symbol _ (λ (n : ℕ) (t : List ℕ). permutation_entry n t c.args.set c.args.element c.args.positions.now)
    (λ n t. table-permutation n t c.args.set c.args.element c.args.positions.now))

pub returns : goal.returns
returns c =
    (packed-as motion_answer c.answered.ensures c.normalizer_action.ensures.0, c.normalizer_action.ensures.1)
