-- The rows of the right factor as the definition has them, and the law of the nine sums.
use mathlib.Core.Path.{◌∙◌}
use native.Mathlib.Omega.{arith}
use Rattle.operation.specs.Lanes.{rows_times}
use Rattle.packed_operation.specs.Number.{row_digits, rotation_said, said-second, said-third}
use Rattle.packed_operation.specs.Rows.{said-narrow, numbers-cover, numbers-lanes}
use Rattle.packed_operation.specs.Times.{rows-small}
use Rattle.packed_operation.proofs.rotations.Goals as goal

pub overflow_sub-result : goal.overflow_sub-result
unfolding row_digits
overflow_sub-result c =
    let f = c.args.f in
    let g = c.args.g in
    let ra = c.row-a.ensures.0 in
    let rb = c.row-b.ensures.0 ∙ said-second g in
    let rc = c.row-c.ensures.0 ∙ said-third g in
    let p = c.rows_times.ensures.0 ∙ λ i. rows_times (rotation_said f) (ra i) (rb i) (rc i) in
    omega (arith, numbers-cover (rotation_said g) (said-narrow g) (rotation_said f) (said-narrow f) _ _ _ _ _ ra rb rc p c.row_sums.ensures.0)

pub returns : goal.returns
unfolding row_digits
returns c =
    let f = c.args.f in
    let g = c.args.g in
    let ra = c.row-a.ensures.0 in
    let rb = c.row-b.ensures.0 ∙ said-second g in
    let rc = c.row-c.ensures.0 ∙ said-third g in
    let p = c.rows_times.ensures.0 ∙ λ i. rows_times (rotation_said f) (ra i) (rb i) (rc i) in
    let lanes = numbers-lanes (rotation_said g) (said-narrow g) (rotation_said f) (said-narrow f) _ _ _ _ _ ra rb rc p c.row_sums.ensures.0 in
    (lanes, omega (arith, lanes, rows-small (rotation_said f) (rotation_said g) (said-narrow f) (said-narrow g)))
