use mathlib.Core.Path.{◌≡◌, ◌∙◌}
use native.Mathlib.Omega.{arith}
use Rattle.subgroup_laws.specs.Representatives.{trying_start, trying-below, trying-less, trying-next, trying-end}
use Rattle.subgroup_search.specs.RightCosets.{coset-plain}
use Rattle.subgroup_search.proofs.classes.first_conjugate.Goals as goal

pub loop-left-init : goal.loop-left-init
loop-left-init c = rw (c.rest_of-left.ensures (omega arith)) (trying_start _ _ _
    c.requires.0.group _ c.requires.1)

pub coset-requires : goal.coset-requires
coset-requires c = (
  c.requires.0.cells,
  c.requires.1.small,
  trying-below _ _ _ c.requires.0.group _ c.requires.1 c.loop-left.left c.loop-left.best c.loop-left.invariant c.lowest-g.result
      (c.lowest-g.ensures c.loop-left-test.true).0,
)

pub loop-left-smaller : goal.loop-left-smaller
loop-left-smaller c =
    let below =
    trying-below _ _ _ c.requires.0.group _ c.requires.1 c.loop-left.left c.loop-left.best c.loop-left.invariant c.lowest-g.result
    (c.lowest-g.ensures c.loop-left-test.true).0 in
    let plain = coset-plain _ _ _ c.requires.0.group _ c.lowest-g.result c.requires.1.small below in
    rw (
      c.outside-left.ensures,
      c.coset.ensures
          ∙ plain,
    ) (trying-less _ _ _ c.requires.0.group _ c.requires.1 c.loop-left.left c.loop-left.best c.loop-left.invariant c.lowest-g.result
    (c.lowest-g.ensures c.loop-left-test.true).0)

pub loop-left-preserved : goal.loop-left-preserved
loop-left-preserved c =
    let below =
    trying-below _ _ _ c.requires.0.group _ c.requires.1 c.loop-left.left c.loop-left.best c.loop-left.invariant c.lowest-g.result
    (c.lowest-g.ensures c.loop-left-test.true).0 in
    let plain = coset-plain _ _ _ c.requires.0.group _ c.lowest-g.result c.requires.1.small below in
    rw (
      c.outside-left.ensures,
      c.coset.ensures ∙ plain,
      c.earlier_of-best.ensures,
      c.conjugate_set.ensures c.requires.0 c.requires.1.small below,
    )
    (trying-next _ _ _ c.requires.0.group _ c.requires.1 c.loop-left.left c.loop-left.best c.loop-left.invariant c.lowest-g.result
    (c.lowest-g.ensures c.loop-left-test.true).0 c.requires.0.cells.limit)

pub returns : goal.returns
returns c =
    let none : c.loop-left.left ≡ 0 = omega arith in
    trying-end _ _ _ c.requires.0.group _ c.requires.1 c.loop-left.left c.loop-left.best none c.loop-left.invariant
