use mathlib.Core.List.{List}
use Prim.Native.Nat.{ℕ, ◌*◌, ◌+◌, ◌<◌}
use native.Mathlib.Omega.{arith}
use lib.ListN.{length}
use Rattle.subgroup_laws.specs.TableCells.{cell-place}
use Rattle.group_table.specs.Columns.{Composing, Within, within_same, within-onward, within-set, set-kept, column-next, first_below, through-both, composing-below}
use Rattle.group_table.proofs.record.compose.Goals as goal

-- A cell has a slot.
slot : (n : ℕ) (table cells after : List ℕ) (p g q i j : ℕ) → Composing n table cells p g q → Within n cells after → i < n → j < n
    → i * n + j < length after
slot n table cells after p g q i j D W h b = omega (arith, (cell-place n i j D.products.few h b).0, D.room, W.long)

pub loop-i-init : goal.loop-i-init
loop-i-init c = (within_same c.args.n c.args.cells.now, λ table D. (λ k right. right, λ k h. absurd (omega arith)))

pub bounds-cells-k : goal.bounds-cells-k
bounds-cells-k c =
    let (table, D) = c.requires in
    let index = first_below c.args.n table c.args.cells.now c.args.p c.args.g c.args.q D c.loop-i.cells (c.loop-i.invariant.1 table D).0 c.loop-i.i
    c.loop-i-test.true in
    slot c.args.n table c.args.cells.now c.loop-i.cells c.args.p c.args.g c.args.q _ c.args.g D c.loop-i.invariant.0 index D.second.0

pub bounds-cells-i-in-loop-i : goal.bounds-cells-i-in-loop-i
bounds-cells-i-in-loop-i c =
    let (table, D) = c.requires in
    slot c.args.n table c.args.cells.now c.loop-i.cells c.args.p c.args.g c.args.q c.loop-i.i c.args.q D c.loop-i.invariant.0 c.loop-i-test.true
    (composing-below c.args.n table c.args.cells.now c.args.p c.args.g c.args.q D)

pub loop-i-preserved : goal.loop-i-preserved
loop-i-preserved c =
    let n = c.args.n in
    let at = c.loop-i.i * n + c.args.q in
    let below : c.args.q < n = composing-below n c.requires.0 c.args.cells.now c.args.p c.args.g c.args.q c.requires.1 in
    let whole = (cell-place n c.loop-i.i c.args.q c.requires.1.products.few c.loop-i-test.true below).0 in
    let inside : at < length c.loop-i.cells =
    slot n c.requires.0 c.args.cells.now c.loop-i.cells c.args.p c.args.g c.args.q c.loop-i.i c.args.q c.requires.1 c.loop-i.invariant.0
    c.loop-i-test.true below in (
      within-onward n c.args.cells.now c.loop-i.cells _ c.loop-i.invariant.0 (within-set n c.loop-i.cells at _ whole),
      λ table D.
          let (kept, rows) = c.loop-i.invariant.1 table D in
          let e = through-both n table c.args.cells.now c.args.p c.args.g c.args.q D c.loop-i.cells kept c.loop-i.i c.loop-i-test.true in (
            λ k right. set-kept table c.loop-i.cells at _ inside e k (kept k right),
            column-next n table c.loop-i.cells c.args.q c.loop-i.i _ c.loop-i-test.true inside e rows,
          ),
    )

pub returns : goal.returns
returns c = (
  c.loop-i.invariant.0,
  λ table D.
      let (kept, rows) = c.loop-i.invariant.1 table D in
      (kept, (composing-below c.args.n table c.args.cells.now c.args.p c.args.g c.args.q D, λ i h. rows i (omega arith))),
)
