use mathlib.Core.Path.{◌≡◌}
use Prim.Native.Nat.{◌<◌}
use native.Mathlib.Omega.{arith}
use Rattle.laws.specs.Sets.{member_below, shifted_one}
use Rattle.subgroup_laws.specs.Generators.{generating-start, generating-next, fewer-left, generating-end}
use Rattle.subgroup_laws.specs.TableCells.{product-below}
use Rattle.table_check.proofs.associativity.generators.Goals as goal

pub overflow_shl-reached : goal.overflow_shl-reached
overflow_shl-reached c = omega arith

pub loop-left-init : goal.loop-left-init
loop-left-init c =
    let h : c.args.e < 64 = let y = c.requires.0.limit in omega arith in
    rw (c.rest_of-left.ensures (let y = c.requires.0.limit in omega arith), shifted_one 64 c.args.e h)
    (generating-start _ _ _ c.requires.1 (product-below _ _ c.requires.0))

pub widen-reached-requires : goal.widen-reached-requires
widen-reached-requires c = (
  c.requires.0,
  c.loop-left.invariant.small,
  c.requires.1.below,
  member_below _ _ _ c.loop-left.invariant.left-small
      (c.lowest-j.ensures c.loop-left-test.true).0,
)

pub loop-left-smaller : goal.loop-left-smaller
loop-left-smaller c =
    rw c.outside-left.ensures (fewer-left c.loop-left.left
    c.lowest-j.result c.without-rest.result c.widen-reached.result
    (c.without-rest.ensures
    (c.lowest-j.ensures c.loop-left-test.true).0))

pub loop-left-preserved : goal.loop-left-preserved
loop-left-preserved c =
    rw (
      c.outside-left.ensures,
      c.widen-reached.ensures,
      c.with_element-found.ensures (c.lowest-j.ensures
          c.loop-left-test.true).1,
    )
    (generating-next _ _ _ c.requires.1 (product-below _ _ c.requires.0) c.loop-left.found c.loop-left.reached c.loop-left.left c.lowest-j.result
    c.without-rest.result c.loop-left.invariant (c.lowest-j.ensures
    c.loop-left-test.true).0
    (c.without-rest.ensures
    (c.lowest-j.ensures c.loop-left-test.true).0))

pub returns : goal.returns
returns c =
    let none : c.loop-left.left ≡ 0 = omega arith in (
      generating-end _ _ _ c.requires.1 (product-below _ _ c.requires.0) c.loop-left.found c.loop-left.reached c.loop-left.left none c.loop-left.invariant,
      c.loop-left.invariant.taken-small,
    )
