-- What is answered on the cells is what is answered on the symbol's table.
use mathlib.Core.List.{List}
use Prim.Native.Nat.{ℕ}
use native.Mathlib.Omega.{arith}
use Rattle.finite_group.specs.Answers.{classes_answer, classes_bytes}
use Rattle.motion_group.specs.Accepted.{every-slot, filled-holds, symbol-holds, symbol-inside}
use Rattle.motion_group.specs.Cells.{asked, lent-asked}
use Rattle.motion_group.proofs.symbol.conjugacy_classes.Goals as goal

pub slice_bounds-classes_in-end : goal.slice_bounds-classes_in-end
slice_bounds-classes_in-end c =
    omega (arith, symbol-inside _ c.table-filled.ensures.0)

pub returns : goal.returns
returns c =
    let filled = filled-holds c.table-filled.ensures (symbol-holds _ _ every-slot) in (
      asked filled (λ (n : ℕ) (t : List ℕ). classes_answer n t c.args.sets.now) c.classes_in.ensures.0,
      lent-asked filled c.args.sets.now (λ (n : ℕ) (t : List ℕ). classes_bytes n t c.args.sets.now) c.classes_in.ensures.1,
    )
