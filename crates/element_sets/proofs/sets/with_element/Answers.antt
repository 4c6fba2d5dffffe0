-- 1 shifted left by i is 2 ^ i.
use mathlib.Core.Path.{◌≡◌, ap, ◌∙◌}
use Prim.Native.Nat.{ℕ, ◌%◌, ◌^◌}
use native.Mathlib.Omega.{arith}
use lib.Bits.{bit_or}
use Rattle.laws.specs.Sets.{shifted_one}
use Rattle.element_sets.proofs.sets.with_element.Goals as goal

pub returns : goal.returns
returns c h =
    let e : c.args.i % 64 ≡ c.args.i = omega arith in
    ap (bit_or c.args.s) (shifted_one 64 (c.args.i % 64) (omega arith) ∙ ap (λ (i : ℕ). 2 ^ i) e)
