-- The three rows, each in its lane.
use Prim.Native.Nat.{◌+◌, ◌*◌}
use native.Mathlib.Omega.{arith}
use Rattle.packed_operation.specs.Number.{key_of}
use Rattle.packed_operation.proofs.key.Goals as goal

pub returns : goal.returns
unfolding key_of
returns c = (
  (λ i. c.row.ensures.0 i + c.row-2.ensures.0 i * 2097152 + c.row-3.ensures.0 i * 4398046511104),
  omega arith,
)
