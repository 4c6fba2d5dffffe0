-- The two steps, of which the laws of the lanes say what they leave.
use mathlib.Core.Path.{◌∙◌, ap, ap₂}
use Prim.Native.Nat.{ℕ, ◌*◌, ◌-◌, ◌/◌, ◌%◌}
use native.Mathlib.Omega.{arith}
use Rattle.operation.specs.Twelves.{bytes_of, first-covers, rest-small, second-covers, steps-reduce}
use Rattle.operation.proofs.product.reduced.Goals as goal

pub overflow_sub-rest : goal.overflow_sub-rest
overflow_sub-rest c = omega (arith, c.bytes.ensures.0, first-covers _ c.requires)

pub overflow_mul-rest-2 : goal.overflow_mul-rest-2
overflow_mul-rest-2 c =
    record { fits = omega (arith, c.bytes.ensures.0, rest-small _ c.requires) }

pub overflow_sub-left : goal.overflow_sub-left
overflow_sub-left c =
    let second = c.bytes-2.ensures.0 ∙ ap (λ (n : ℕ). bytes_of ((c.args.sum - n * 1020) * 683 / 8192)) c.bytes.ensures.0 in
    omega (arith, second, c.bytes.ensures.0, second-covers _ c.requires)

pub returns : goal.returns
returns c =
    let sum = c.args.sum in
    let left : ℕ → ℕ → ℕ = λ p q. sum - p * 1020 - q * 12 in
    let second = c.bytes-2.ensures.0 ∙ ap (λ (n : ℕ). bytes_of ((sum - n * 1020) * 683 / 8192)) c.bytes.ensures.0 in
    ap₂ (λ (p q : ℕ). record { x = left p q % 256; y = left p q / 2097152 % 256; z = left p q / 4398046511104 % 256 }) c.bytes.ensures.0 second ∙
    steps-reduce _ c.requires
