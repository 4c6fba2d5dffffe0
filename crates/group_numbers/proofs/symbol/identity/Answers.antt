-- The answer on the symbol's group, packed.
use mathlib.Core.List.{List}
use Prim.Native.Nat.{ℕ}
use Rattle.finite_group.specs.Answers.{identity_answer}
use Rattle.answer_numbers.specs.Packing.{packed-as}
use Rattle.motion_tables.specs.Answers.{motion_answer}
use Rattle.group_numbers.specs.MotionBounds.{tellable-as, on-symbol}
use Rattle.table_numbers.specs.TableBounds.{table-identity}
use Rattle.group_numbers.proofs.symbol.identity.Goals as goal

pub answered-requires : goal.answered-requires
answered-requires c =
    tellable-as c.identity.ensures (on-symbol _ (λ (n : ℕ) (t : List ℕ). identity_answer n t) (λ n t. table-identity n t))

pub returns : goal.returns
returns c = packed-as motion_answer c.answered.ensures c.identity.ensures
