-- A place with a slot gives its cell.
use native.Mathlib.Omega.{arith}
use borrow.Author.Tests.{lt-ltb, le-ltb}
use Rattle.test_tables.proofs.cell_at.Goals as goal

pub returns-then-place-ge2304 : goal.returns-then-place-ge2304
returns-then-place-ge2304 c = rw (le-ltb _ 2304 c.if-place-ge2304.true)

pub bounds-cells-place : goal.bounds-cells-place
bounds-cells-place c = omega arith

pub overflow_cast-result : goal.overflow_cast-result
overflow_cast-result c = omega (arith, c.shared_slice_known-1.given c.args.place)

pub returns : goal.returns
returns c = rw (lt-ltb _ 2304 c.if-place-ge2304.false)
