-- Rows, twelfths and flag fill the number from below, so their sum fits.
use Prim.Native.Nat.{◌%◌, ◌≤◌}
use native.Mathlib.Omega.{arith}
use Rattle.packed_operation.proofs.number.Goals as goal

pub overflow_add-result-4 : goal.overflow_add-result-4
overflow_add-result-4 c =
    let flag : c.args.flag % 2 ≤ 1 = omega arith in
    record {
      fits =
          omega (
            arith,
            flag,
            c.packed_twelfths.ensures.1,
            c.packed_row-3.ensures.1,
            c.packed_row-2.ensures.1,
            c.packed_row.ensures.1,
          );
    }
