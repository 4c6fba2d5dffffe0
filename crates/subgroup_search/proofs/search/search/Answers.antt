use mathlib.Core.Path.{◌≡◌, refl, ◌∙◌}
use Prim.Native.Nat.{◌<◌}
use native.Mathlib.Omega.{arith}
use lib.ListN.{length}
use Rattle.laws.specs.Sets.{shifted_one}
use Rattle.subgroup_laws.specs.Table.{product}
use Rattle.subgroup_search.specs.SearchLoop.{none-result, searching-subgroup, searching-next, searching-overflow, searching-end, restart, restart-start}
use Rattle.std.specs.Prelude.{Some, None}
use Rattle.subgroup_search.proofs.search.search.Goals as goal

pub returns-then-sets-lt8 : goal.returns-then-sets-lt8
returns-then-sets-lt8 c = none-result c.args.n (product c.args.n
    c.args.t.now) c.args.e c.args.classes
    c.requires.group c.requires.cells.limit c.args.sets.now c.if-sets-lt8.true

pub overflow_shl-e : goal.overflow_shl-e
overflow_shl-e c = omega arith

pub loop-done-init : goal.loop-done-init
loop-done-init c =
    let small : c.args.e < 64 = omega arith in (
      refl,
      restart-start c.args.n (product c.args.n c.args.t.now) c.args.e c.args.classes c.requires.group c.requires.cells.limit c.args.sets.now
          c.set_slot.new.sets _ (c.set_slot.ensures
          c.if-sets-lt8.false) c.if-sets-lt8.false (shifted_one 64 c.args.e small),
    )

pub extend-requires : goal.extend-requires
extend-requires c =
    let p = c.requires in (
      p,
      rw (c.slot-h.ensures (omega (arith, c.loop-done-test.true)))
          (searching-subgroup _ _ _ _ c.requires.group c.requires.cells.limit _ c.loop-done.sets c.loop-done.count c.loop-done.done c.loop-done.invariant.1
          c.loop-done-test.true),
      omega arith,
    )

pub returns-in_err-count : goal.returns-in_err-count
returns-in_err-count c =
    let X = rw (
      c.in_err-count.was,
      c.slot-h.ensures
          (omega (
            arith,
            c.loop-done-test.true,
          )),
    ) at c.extend.ensures in
    rw c.from_residual.ensures (restart c.args.n (product c.args.n c.args.t.now) c.args.e c.args.classes c.requires.group c.requires.cells.limit c.args.sets.now
    c.set_slot.new.sets _
    (c.set_slot.ensures
    c.if-sets-lt8.false)
    c.if-sets-lt8.false _ None
    (searching-overflow c.args.n (product c.args.n c.args.t.now) c.args.e c.args.classes c.requires.group c.requires.cells.limit _ c.loop-done.sets
    c.loop-done.count c.loop-done.done c.loop-done.invariant.1
    c.loop-done-test.true _ c.loop-done.invariant.0 X))

pub overflow_add-done : goal.overflow_add-done
overflow_add-done c = omega arith

pub loop-done-smaller : goal.loop-done-smaller
loop-done-smaller c = omega arith

pub loop-done-preserved : goal.loop-done-preserved
loop-done-preserved c =
    let X = rw (
      c.in_ok-count.was,
      c.slot-h.ensures
          (omega (
            arith,
            c.loop-done-test.true,
          )),
    ) at c.extend.ensures in
    let same : length c.loop-done.sets ≡ length c.extend.new.sets = omega arith in (
      c.loop-done.invariant.0 ∙ same,
      searching-next _ _ _ _ c.requires.group c.requires.cells.limit _ c.loop-done.sets c.loop-done.count c.loop-done.done c.loop-done.invariant.1
          c.loop-done-test.true _ _ c.loop-done.invariant.0 X,
    )

pub shape_of-sets : goal.shape_of-sets
shape_of-sets c = omega arith

pub returns : goal.returns
returns c =
    restart c.args.n (product c.args.n c.args.t.now) c.args.e c.args.classes c.requires.group c.requires.cells.limit c.args.sets.now
    c.set_slot.new.sets _
    (c.set_slot.ensures c.if-sets-lt8.false)
    c.if-sets-lt8.false _ (Some c.loop-done.count)
    (searching-end c.args.n (product c.args.n c.args.t.now) c.args.e c.args.classes c.requires.group c.requires.cells.limit _ c.loop-done.sets
    c.loop-done.count c.loop-done.done c.loop-done.invariant.1
    c.loop-done-test.false)
