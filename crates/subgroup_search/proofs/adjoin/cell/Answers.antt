-- The cell of row i and column j: its place is below n², which is at most 2304.
use mathlib.Core.Path.{refl}
use Prim.Native.Nat.{◌+◌, ◌*◌}
use native.Mathlib.Omega.{arith}
use Rattle.subgroup_laws.specs.Table.{product}
use Rattle.subgroup_laws.specs.TableCells.{cell-place}
use Rattle.subgroup_search.proofs.adjoin.cell.Goals as goal

pub overflow_mul-result : goal.overflow_mul-result
overflow_mul-result c = let h = cell-place c.args.n c.args.i c.args.j c.requires.0.limit c.requires.1 c.requires.2 in omega arith

pub overflow_add-result : goal.overflow_add-result
overflow_add-result c = let h = cell-place c.args.n c.args.i c.args.j c.requires.0.limit c.requires.1 c.requires.2 in omega arith

pub bounds-t-i : goal.bounds-t-i
bounds-t-i c =
    let h = cell-place c.args.n c.args.i c.args.j c.requires.0.limit c.requires.1 c.requires.2 in
    omega (arith, c.requires.0.size)

pub overflow_cast-result : goal.overflow_cast-result
overflow_cast-result c = omega (arith, c.shared_slice_known-1.given (c.args.i * c.args.n + c.args.j))

pub returns : goal.returns
unfolding product
returns c =
    let h = cell-place c.args.n c.args.i c.args.j c.requires.0.limit c.requires.1 c.requires.2 in
    (refl, c.requires.0.below _ h.0)
