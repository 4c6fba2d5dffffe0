use mathlib.Core.Path.{sym}
use mathlib.Core.List.{List}
use Prim.Native.Nat.{ℕ, ◌*◌, ◌+◌, ◌<◌}
use native.Mathlib.Omega.{arith}
use lib.ListN.{length, get_or}
use Rattle.subgroup_laws.specs.TableCells.{cell-place}
use Rattle.group_table.specs.Columns.{Correct, Kept, Within, Composing, Widening, within-onward, correct-kept, sound-kept, composing-below}
use Rattle.group_table.specs.declared.record.FilledColumns.{FilledColumns}
use Rattle.group_table.proofs.record.widen.Goals as goal

-- The columns of both factors are there.
composing : (n : ℕ) (table before now : List ℕ) (filled : FilledColumns) (generators : List ℕ) (p s : ℕ) → Widening n table before filled generators
    → Within n before now → Kept table before now → Correct n table now p → s < length generators
    → Composing n table now p (get_or generators s 0) (get_or now (p * n + get_or generators s 0) 0)
composing n table before now filled generators p s W within kept first lt =
    let second = correct-kept table before n now kept (get_or generators s 0) (W.generator s lt) in
    record {
      products = W.products;
      room = omega (arith, W.room, within.long);
      first = first;
      second = second;
      leads = sym (second.1 p first.0);
    }

-- So their product has a slot, and it is an index.
slot : (n : ℕ) (table now : List ℕ) (p g q : ℕ) → Composing n table now p g q → p * n + g < length now
slot n table now p g q D = omega (arith, (cell-place n p g D.products.few D.first.0 D.second.0).0, D.room)

low : (n : ℕ) (table now : List ℕ) (p g q : ℕ) → Composing n table now p g q → q < 48
low n table now p g q D = omega (arith, D.products.few, composing-below n table now p g q D)

pub bounds-filled-i : goal.bounds-filled-i
bounds-filled-i c = let (table, W) = c.requires in omega (arith, c.loop-i-test.true, (c.loop-i.invariant.1 table W).sound.few)

pub loop-generator-init : goal.loop-generator-init
loop-generator-init c = (
  c.loop-i.invariant.0,
  λ table W. let D = c.loop-i.invariant.1 table W in (D, D.sound.member c.loop-i.i c.loop-i-test.true),
)

pub bounds-cells-p : goal.bounds-cells-p
bounds-cells-p c =
    let (table, W) = c.requires in
    let (D, first) = c.loop-generator.invariant.1 table W in
    slot _ _ _ _ _ _ (composing c.args.n table c.args.cells.now c.loop-generator.cells c.args.filled.now c.args.generators.now _
    c.loop-generator.generator-index W
    c.loop-generator.invariant.0 D.kept first c.loop-generator-test.true)

pub bounds-filled-q : goal.bounds-filled-q
bounds-filled-q c =
    let (table, W) = c.requires in
    let (D, first) = c.loop-generator.invariant.1 table W in
    low _ _ _ _ _ _ (composing c.args.n table c.args.cells.now c.loop-generator.cells c.args.filled.now c.args.generators.now _
    c.loop-generator.generator-index W
    c.loop-generator.invariant.0 D.kept first c.loop-generator-test.true)

pub compose-requires : goal.compose-requires
compose-requires c =
    let (table, W) = c.requires in
    let (D, first) = c.loop-generator.invariant.1 table W in (
      table,
      composing c.args.n table c.args.cells.now c.loop-generator.cells c.args.filled.now c.args.generators.now _ c.loop-generator.generator-index W
          c.loop-generator.invariant.0 D.kept first c.loop-generator-test.true,
    )

pub note-requires : goal.note-requires
note-requires c =
    let (table, W) = c.requires in
    let (D, first) = c.loop-generator.invariant.1 table W in (
      low _ _ _ _ _ _ (composing c.args.n table c.args.cells.now c.loop-generator.cells c.args.filled.now c.args.generators.now _
          c.loop-generator.generator-index W
          c.loop-generator.invariant.0 D.kept first c.loop-generator-test.true),
      D.sound.few,
    )

pub loop-generator-preserved : goal.loop-generator-preserved
loop-generator-preserved c = (
  within-onward c.args.n c.args.cells.now c.loop-generator.cells _ c.loop-generator.invariant.0 c.compose.ensures.0,
  λ table W.
      let (D, first) = c.loop-generator.invariant.1 table W in
      let (onward, column) = c.compose.ensures.1 table (composing c.args.n table c.args.cells.now c.loop-generator.cells c.args.filled.now
      c.args.generators.now _ c.loop-generator.generator-index W c.loop-generator.invariant.0 D.kept first c.loop-generator-test.true) in (
        record {
          sound = c.note.ensures c.args.n table _ (sound-kept table c.loop-generator.cells c.args.n _ onward c.loop-generator.filled D.sound) column;
          kept = λ k right. onward k (D.kept k right);
        },
        correct-kept table c.loop-generator.cells c.args.n _ onward _ first,
      ),
)

pub loop-i-smaller : goal.loop-i-smaller
loop-i-smaller c = let (table, W) = c.requires in omega (arith, c.loop-i-test.true, (c.loop-i.invariant.1 table W).sound.few)

pub loop-i-preserved : goal.loop-i-preserved
loop-i-preserved c = (c.loop-generator.invariant.0, λ table W. (c.loop-generator.invariant.1 table W).0)
