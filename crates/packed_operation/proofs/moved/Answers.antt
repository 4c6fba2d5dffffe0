-- The three sums, and what the step leaves of them.
use mathlib.Core.Path.{◌∙◌, ap}
use Prim.Native.Nat.{ℕ, ◌+◌, ◌*◌, ◌-◌, ◌/◌}
use native.Mathlib.Omega.{arith}
use Rattle.operation.specs.Twelves.{bytes_of}
use Rattle.packed_operation.specs.Number.{twelfth_lanes, translation_said, said_by}
use Rattle.packed_operation.specs.Rows.{said-narrow}
use Rattle.packed_operation.specs.Moved.{said-short, sum_is, sum-small, covers, left_is, moved-small}
use Rattle.packed_operation.proofs.moved.Goals as goal

pub overflow_mul-sum-3 : goal.overflow_mul-sum-3
unfolding twelfth_lanes
overflow_mul-sum-3 c =
    let f = c.args.f in
    let g = c.args.g in
    let sum =
    (λ i. c.rows_times.ensures.0 i + c.twelfths.ensures.0 i +
    ((translation_said g).x + (translation_said g).y + (translation_said g).z) * 48378534690827)
    ∙ sum_is (said_by f) (said_by g) (said-narrow f) (said-short f) (said-short g) in
    record { fits = omega (arith, sum, sum-small (said_by f) (said_by g) (said-narrow f) (said-short f) (said-short g)) }

pub overflow_sub-result : goal.overflow_sub-result
unfolding twelfth_lanes
overflow_sub-result c =
    let f = c.args.f in
    let g = c.args.g in
    let sum =
    (λ i. c.rows_times.ensures.0 i + c.twelfths.ensures.0 i +
    ((translation_said g).x + (translation_said g).y + (translation_said g).z) * 48378534690827)
    ∙ sum_is (said_by f) (said_by g) (said-narrow f) (said-short f) (said-short g) in
    let taken = c.bytes.ensures.0 ∙ ap (λ (n : ℕ). bytes_of (n * 683 / 8192)) sum in
    omega (arith, taken, sum, covers (said_by f) (said_by g) (said-narrow f) (said-short f) (said-short g))

pub returns : goal.returns
unfolding twelfth_lanes
returns c =
    let f = c.args.f in
    let g = c.args.g in
    let sum =
    (λ i. c.rows_times.ensures.0 i + c.twelfths.ensures.0 i +
    ((translation_said g).x + (translation_said g).y + (translation_said g).z) * 48378534690827)
    ∙ sum_is (said_by f) (said_by g) (said-narrow f) (said-short f) (said-short g) in
    let taken = c.bytes.ensures.0 ∙ ap (λ (n : ℕ). bytes_of (n * 683 / 8192)) sum in
    let left = (λ i. sum i - taken i * 12) ∙ left_is (said_by f) (said_by g) (said-narrow f) (said-short f) (said-short g) in
    (left, omega (arith, left, moved-small (said_by f) (said_by g) (said-narrow f) (said-short f) (said-short g)))
