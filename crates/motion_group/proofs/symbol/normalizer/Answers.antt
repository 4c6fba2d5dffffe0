-- What is answered on the cells is what is answered on the symbol's table.
use mathlib.Core.List.{List}
use Prim.Native.Nat.{ℕ}
use native.Mathlib.Omega.{arith}
use Rattle.finite_group.specs.Answers.{normalizer_entry}
use Rattle.motion_group.specs.Accepted.{every-slot, filled-holds, symbol-holds, symbol-inside}
use Rattle.motion_group.specs.Cells.{asked}
use Rattle.motion_group.proofs.symbol.normalizer.Goals as goal

pub slice_bounds-normalizer_in-end : goal.slice_bounds-normalizer_in-end
slice_bounds-normalizer_in-end c =
    omega (arith, symbol-inside _ c.table-filled.ensures.0)

pub returns : goal.returns
returns c =
    let filled = filled-holds c.table-filled.ensures (symbol-holds _ _ every-slot) in
    asked filled (λ (n : ℕ) (t : List ℕ). normalizer_entry n t c.args.set) c.normalizer_in.ensures
