-- What is answered on the cells is what is answered on the record's table.
use mathlib.Core.List.{List}
use Prim.Native.Nat.{ℕ}
use native.Mathlib.Omega.{arith}
use Rattle.finite_group.specs.Answers.{subgroups_answer, subgroups_bytes}
use Rattle.motion_group.specs.Accepted.{every-slot, filled-holds, record-holds, record-inside}
use Rattle.motion_group.specs.Cells.{asked, lent-asked}
use Rattle.motion_group.proofs.record.enumerate_subgroups.Goals as goal

pub slice_bounds-subgroups_in-end : goal.slice_bounds-subgroups_in-end
slice_bounds-subgroups_in-end c =
    omega (arith, record-inside _ (λ i. omega (arith, c.shared_slice_known-1.given i)) c.table-filled.ensures.0)

pub returns : goal.returns
returns c =
    let filled = filled-holds c.table-filled.ensures
    (record-holds _ _ (λ i. omega (arith, c.shared_slice_known-1.given i)) every-slot) in (
      asked filled (λ (n : ℕ) (t : List ℕ). subgroups_answer n t c.args.sets.now) c.subgroups_in.ensures.0,
      lent-asked filled c.args.sets.now (λ (n : ℕ) (t : List ℕ). subgroups_bytes n t c.args.sets.now) c.subgroups_in.ensures.1,
    )
