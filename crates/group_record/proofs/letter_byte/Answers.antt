-- The capital's byte leaves room for the small one.
use mathlib.Core.Path.{ap, ◌∙◌}
use Prim.Native.Nat.{ℕ, ◌+◌}
use native.Mathlib.Omega.{arith}
use Rattle.layer_group.specs.Slots.{small-fits}
use Rattle.group_record.proofs.letter_byte.Goals as goal

pub overflow_add-result : goal.overflow_add-result
overflow_add-result c = omega (arith, c.byte-capital.ensures, small-fits c.args.c)

pub returns-then-layer : goal.returns-then-layer
returns-then-layer c = ap (λ (b : ℕ). b + 32) c.byte-capital.ensures ∙ rw c.if-layer.true
