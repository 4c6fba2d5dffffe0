use mathlib.Core.Path.{◌≡◌, refl, ◌∙◌, ap}
use mathlib.Core.List.{List}
use Prim.Native.Nat.{ℕ, ◌<◌, ◌*◌, ◌+◌}
use native.Mathlib.Omega.{arith}
use lib.ListN.{length, get_or, length-set}
use Rattle.group_table.specs.StepTables.{RowReady, place_inside, steps-fit, row_first, row_inside, row_next}
use Rattle.group_table.specs.Overlay.{begun, begun-length}
use Rattle.group_table.specs.declared.symbol.Parent.{Parent}
use Rattle.group_table.proofs.symbol.fill_row.Goals as goal

module _ (n m i : ℕ) (steps : List ℕ) (parents : List Parent) (cells : List ℕ) (R : RowReady n m i steps parents cells) where
  -- A column's cell of the row has a slot,
  slot : (after : List ℕ) (j : ℕ) → length after ≡ length cells → j < n → i * n + j < length after
  slot after j long b =
      let before = place_inside i j n n R.row b in
      let whole : length cells ≡ length R.lent =
      ap length R.filled ∙ begun-length R.table R.lent (omega (arith, R.goes.size, R.room)) (i * n) (omega (arith, R.goes.size, before)) in
      omega (arith, before, R.room, whole, long)

  -- that of its parent too,
  parent-slot : (after : List ℕ) (j : ℕ) (d : Parent) → length after ≡ length cells → 0 < j → j < n → i * n + (get_or parents j d).earlier < length after
  parent-slot after j d long a b = slot after (get_or parents j d).earlier long (omega (arith, (R.come j d a b).earlier))

  -- and so has the step from what stands there.
  step-slot : (after : List ℕ) (j : ℕ) (d : Parent) → after ≡ begun (i * n + j) R.table R.lent → 0 < j → j < n
      → get_or after (i * n + (get_or parents j d).earlier) 0 * m + (get_or parents j d).generator < 432
  step-slot after j d held a b =
      let C = R.come j d a b in
      let below = row_inside n m steps R.table R.lent after R.room R.traversed R.goes i R.row j _ _ b C held in
      omega (arith, place_inside _ (get_or parents j d).generator n m below C.generator, steps-fit n m steps R.traversed)

pub bounds-cells-row : goal.bounds-cells-row
bounds-cells-row c =
    let at = slot _ _ _ _ _ _ c.requires c.args.cells.now 0 refl (omega (arith, c.requires.row)) in
    omega arith

pub loop-j-init : goal.loop-j-init
loop-j-init c = (
  length-set c.args.cells.now _ _,
  λ table lent G room e. row_first c.args.count c.args.generators c.args.steps.now table lent c.args.cells.now room c.requires.traversed G c.args.i
      c.requires.row e,
)

pub bounds-cells-row-in-loop-j : goal.bounds-cells-row-in-loop-j
bounds-cells-row-in-loop-j c = parent-slot _ _ _ _ _ _ c.requires c.loop-j.cells c.loop-j.j _ c.loop-j.invariant.0 (omega arith) c.loop-j-test.true

pub bounds-steps-left : goal.bounds-steps-left
bounds-steps-left c =
    step-slot _ _ _ _ _ _ c.requires c.loop-j.cells c.loop-j.j _
    (c.loop-j.invariant.1 c.requires.table c.requires.lent c.requires.goes c.requires.room c.requires.filled) (omega arith) c.loop-j-test.true

pub bounds-cells-row-in-loop-j-2 : goal.bounds-cells-row-in-loop-j-2
bounds-cells-row-in-loop-j-2 c = slot _ _ _ _ _ _ c.requires c.loop-j.cells c.loop-j.j c.loop-j.invariant.0 c.loop-j-test.true

pub loop-j-preserved : goal.loop-j-preserved
loop-j-preserved c = (
  length-set c.loop-j.cells _ _ ∙ c.loop-j.invariant.0,
  λ table lent G room e. row_next c.args.count c.args.generators c.args.steps.now table lent c.loop-j.cells room c.requires.traversed G c.args.i
      c.requires.row c.loop-j.j _ _ c.loop-j-test.true (c.requires.come c.loop-j.j _ (omega arith) c.loop-j-test.true)
      (c.loop-j.invariant.1 table lent G room e),
)
