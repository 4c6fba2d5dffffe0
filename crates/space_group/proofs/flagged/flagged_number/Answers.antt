-- The number of the plain generator leaves its highest bit free for the flag.
use native.Mathlib.Omega.{arith}
use Rattle.space_group.specs.FlaggedGenerators.{flag-free, with-flag, without-flag}
use Rattle.space_group.proofs.flagged.flagged_number.Goals as goal

pub overflow_add-result : goal.overflow_add-result
overflow_add-result c = let free = flag-free _ _ c.generator_number-plain.ensures in omega arith

pub returns-then-flag : goal.returns-then-flag
returns-then-flag c = with-flag _ _ _ c.generator_number-plain.ensures c.if-flag.true

pub returns-else-flag : goal.returns-else-flag
returns-else-flag c = without-flag _ _ _ c.generator_number-plain.ensures c.if-flag.false
