use mathlib.Core.Path.{refl, ◌∙◌}
use Prim.Native.Nat.{◌<◌, ◌+◌, ◌*◌}
use native.Mathlib.Nat.{lt_of_lt_of_le}
use native.Mathlib.Omega.{arith}
use lib.ListN.{length, take, length-set}
use Rattle.subgroup_laws.specs.TableCells.{cell-place}
use Rattle.group_table.specs.Tables.{table_of}
use Rattle.group_table.specs.CodeSearch.{cells_count, cell-found, found_below}
use Rattle.group_table.specs.Columns.{within_same, within-onward, within-set, allowed-products, filling-none, filling-known, filling-begun, filling-cell, filling-widens, filling-next, all-filled}
use Rattle.group_table.proofs.record.fill_rows.Goals as goal

pub loop-j-init : goal.loop-j-init
loop-j-init c = (
  omega arith,
  refl,
  within_same c.args.group.count c.args.cells.now,
  λ letter A. filling-none c.args.group.count (table_of letter (take c.args.group.count c.args.group.operations)) c.args.cells.now _ c.requires.0.few,
)

pub loop-j-preserved-then-filled-j : goal.loop-j-preserved-then-filled-j
loop-j-preserved-then-filled-j c = (
  omega arith,
  c.loop-j.invariant.1,
  c.loop-j.invariant.2,
  λ letter A. filling-known _ _ _ _ _ _ c.loop-j.j c.loop-j-test.true c.if-filled-j.true (c.loop-j.invariant.3 letter A),
)

pub loop-i-init : goal.loop-i-init
loop-i-init c = (c.loop-j.invariant.2, λ letter A. filling-begun _ _ _ _ _ _ _ (c.loop-j.invariant.3 letter A))

pub product_index-requires : goal.product_index-requires
product_index-requires c =
    lt_of_lt_of_le (found_below c.args.group.centering c.args.group.count c.args.group.operations c.requires.0.there c.requires.0.listing c.requires.1 _
    c.codes_of-codes.ensures c.loop-i.i c.loop-j.j _ _ c.loop-i-test.true c.loop-j-test.true) c.requires.0.few

pub loop-i-preserved : goal.loop-i-preserved
loop-i-preserved c =
    let n = c.args.group.count in
    let row = c.loop-i-test.true in
    let column = c.loop-j-test.true in
    let whole = (cell-place n c.loop-i.i c.loop-j.j c.requires.0.few row column).0 in
    let inside : c.loop-i.i * n + c.loop-j.j < length c.loop-i.cells = omega (arith, whole, c.loop-i.invariant.0.long, c.requires.2) in (
      within-onward n c.args.cells.now c.loop-i.cells _ c.loop-i.invariant.0 (within-set n c.loop-i.cells (c.loop-i.i * n + c.loop-j.j) _ whole),
      λ letter A.
          filling-cell n (table_of letter (take n c.args.group.operations)) c.loop-i.cells c.loop-j.filled c.loop-j.generators c.loop-j.m c.loop-j.j
          c.loop-i.i (c.loop-i.invariant.1 letter A) row _ inside
          (c.product_index.ensures ∙ cell-found letter n c.args.group.operations c.requires.0.there c.requires.0.listing A _ c.codes_of-codes.ensures
          c.loop-i.i c.loop-j.j _ _ row column),
    )

pub note-requires : goal.note-requires
note-requires c =
    (omega (arith, c.loop-j-test.true, c.requires.0.few), (c.loop-i.invariant.1 c.args.group.centering c.requires.1).whole.sound.few)

pub widen-requires : goal.widen-requires
widen-requires c =
    let n = c.args.group.count in
    let table = table_of c.args.group.centering (take n c.args.group.operations) in
    let products = allowed-products c.args.group.centering n c.args.group.operations c.requires.0.there c.requires.0.few c.requires.0.listing
    c.requires.1 in (
      table,
      filling-widens n table c.loop-i.cells c.loop-j.filled c.loop-j.generators c.loop-j.m c.loop-j.j c.loop-i.i
          (c.loop-i.invariant.1 c.args.group.centering c.requires.1) products (omega (arith, c.requires.2, c.loop-i.invariant.0.long)) c.loop-j.invariant.1
          (omega (arith, c.requires.0.few, c.loop-j.invariant.0, c.loop-j-test.true)) c.loop-j-test.true (omega arith) _ c.note.ensures,
    )

pub loop-j-preserved : goal.loop-j-preserved
loop-j-preserved c =
    let n = c.args.group.count in (
      omega arith,
      length-set c.loop-j.generators c.loop-j.m _ ∙ c.loop-j.invariant.1,
      within-onward n c.args.cells.now c.loop-i.cells _ c.loop-i.invariant.0 c.widen.ensures.0,
      λ letter A.
          filling-next n (table_of letter (take n c.args.group.operations)) c.loop-i.cells c.loop-j.filled c.loop-j.generators c.loop-j.m c.loop-j.j c.loop-i.i
          (c.loop-i.invariant.1 letter A)
          (allowed-products letter n c.args.group.operations c.requires.0.there c.requires.0.few c.requires.0.listing A)
          (omega (arith, c.requires.2, c.loop-i.invariant.0.long)) c.loop-j.invariant.1
          (omega (arith, c.requires.0.few, c.loop-j.invariant.0, c.loop-j-test.true)) c.loop-j-test.true (omega arith) _ c.note.ensures _ _ c.widen.ensures,
    )

pub returns : goal.returns
returns c =
    all-filled c.args.group.count (table_of c.args.group.centering (take c.args.group.count c.args.group.operations)) c.args.cells.now c.loop-j.cells
    (cells_count c.args.group.centering c.args.group.count c.args.group.operations c.requires.0.there) c.requires.2 c.loop-j.invariant.2
    (λ k h. (c.loop-j.invariant.3 c.args.group.centering c.requires.1).before k (omega arith))
