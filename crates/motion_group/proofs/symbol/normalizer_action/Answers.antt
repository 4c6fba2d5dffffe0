-- What is answered on the cells is what is answered on the symbol's table.
use mathlib.Core.List.{List}
use Prim.Native.Nat.{ℕ}
use native.Mathlib.Omega.{arith}
use Rattle.finite_group.specs.Answers.{permutation_entry, permutation_list}
use Rattle.motion_group.specs.Accepted.{every-slot, filled-holds, symbol-holds, symbol-inside}
use Rattle.motion_group.specs.Cells.{asked, lent-asked}
use Rattle.motion_group.proofs.symbol.normalizer_action.Goals as goal

pub slice_bounds-permutation_in-end : goal.slice_bounds-permutation_in-end
slice_bounds-permutation_in-end c =
    omega (arith, symbol-inside _ c.table-filled.ensures.0)

pub returns : goal.returns
returns c =
    let filled = filled-holds c.table-filled.ensures (symbol-holds _ _ every-slot) in (
      asked filled (λ (n : ℕ) (t : List ℕ). permutation_entry n t c.args.set c.args.element c.args.positions.now) c.permutation_in.ensures.0,
      lent-asked filled c.args.positions.now (λ (n : ℕ) (t : List ℕ). permutation_list n t c.args.set c.args.element
          c.args.positions.now) c.permutation_in.ensures.1,
    )
