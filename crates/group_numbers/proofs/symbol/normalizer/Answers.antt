-- The answer on the symbol's group, packed.
use mathlib.Core.List.{List}
use Prim.Native.Nat.{ℕ}
use Rattle.finite_group.specs.Answers.{normalizer_entry}
use Rattle.answer_numbers.specs.Packing.{packed-as}
use Rattle.motion_tables.specs.Answers.{motion_answer}
use Rattle.group_numbers.specs.MotionBounds.{tellable-as, on-symbol}
use Rattle.table_numbers.specs.TableBounds.{table-normalizer}
use Rattle.group_numbers.proofs.symbol.normalizer.Goals as goal

pub answered-requires : goal.answered-requires
answered-requires c =
    tellable-as c.normalizer.ensures (on-symbol _ (λ (n : ℕ) (t : List ℕ). normalizer_entry n t c.args.set) (λ n t. table-normalizer n t c.args.set))

pub returns : goal.returns
returns c = packed-as motion_answer c.answered.ensures c.normalizer.ensures
