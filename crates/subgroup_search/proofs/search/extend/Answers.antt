use mathlib.Core.Path.{◌≡◌, refl, ◌∙◌}
use native.Mathlib.Omega.{arith}
use lib.ListN.{length}
use Rattle.laws.specs.Sets.{member_below}
use Rattle.subgroup_laws.specs.Cosets.{coset_of, coset-new}
use Rattle.subgroup_laws.specs.Removal.{outside-less, outside-old, rest_below, rest-apart}
use Rattle.subgroup_laws.specs.Table.{product}
use Rattle.subgroup_search.specs.RightCosets.{coset-plain}
use Rattle.subgroup_search.specs.SearchLoop.{extended-start, extended-next, extended-overflow, extended-end}
use Rattle.std.specs.Prelude.{Some, None}
use Rattle.subgroup_search.proofs.search.extend.Goals as goal

pub loop-left-init : goal.loop-left-init
loop-left-init c =
    rw (c.rest_of-left.ensures (omega arith)) (
      refl,
      rest_below c.args.n c.args.h,
      rest-apart c.args.n c.args.h,
      extended-start c.args.n (product c.args.n c.args.t.now) c.args.e c.args.classes c.requires.0.group c.args.h c.requires.1 c.args.count c.args.sets.now
          c.requires.2,
    )

pub coset-requires : goal.coset-requires
coset-requires c =
    (c.requires.0.cells, c.requires.1.small, member_below _ _ _ c.loop-left.invariant.1 (c.lowest-g.ensures c.loop-left-test.true).0)

pub extend_by-requires : goal.extend_by-requires
extend_by-requires c =
    let i = (c.lowest-g.ensures c.loop-left-test.true).0 in
    (c.requires.0, c.requires.1, member_below _ _ _ c.loop-left.invariant.1 i, c.loop-left.invariant.2 _ i, c.loop-left.invariant.3.room)

pub returns-in_err-found : goal.returns-in_err-found
returns-in_err-found c =
    let low = c.lowest-g.ensures c.loop-left-test.true in
    let below = member_below c.args.n c.loop-left.left c.lowest-g.result c.loop-left.invariant.1 low.0 in
    let X = extended-next c.args.n (product c.args.n c.args.t.now) c.args.e c.args.classes c.requires.0.group c.args.h c.requires.1 c.loop-left.left
    c.lowest-g.result c.args.count c.loop-left.found
    c.args.sets.now c.loop-left.sets c.extend_by.new.sets None
    c.loop-left.invariant.0 below (c.loop-left.invariant.2 _ low.0) low.2 c.loop-left.invariant.3 (rw c.in_err-found.was at c.extend_by.ensures) in
    rw c.from_residual.ensures (extended-overflow c.args.n (product c.args.n c.args.t.now) c.args.e c.args.classes c.requires.0.group c.args.h c.requires.1 _
    c.args.count c.args.sets.now
    _ X)

pub loop-left-smaller : goal.loop-left-smaller
loop-left-smaller c =
    let i = (c.lowest-g.ensures
    c.loop-left-test.true).0 in
    let below = member_below _ _ _ c.loop-left.invariant.1 i in
    let plain =
    coset-plain c.args.n (product c.args.n c.args.t.now) c.args.e c.requires.0.group c.args.h
    c.lowest-g.result c.requires.1.small below in
    rw (
      c.outside-left.ensures,
      c.coset.ensures ∙ plain,
    )
    (outside-less c.loop-left.left _ _ i (coset-new c.args.n (product c.args.n c.args.t.now) c.args.e c.requires.0.group c.args.h c.requires.1 _
    (member_below _ _ _ c.loop-left.invariant.1 i)))

pub loop-left-preserved : goal.loop-left-preserved
loop-left-preserved c =
    let low = c.lowest-g.ensures c.loop-left-test.true in
    let below = member_below c.args.n c.loop-left.left c.lowest-g.result c.loop-left.invariant.1 low.0 in
    let X = extended-next c.args.n (product c.args.n c.args.t.now) c.args.e c.args.classes c.requires.0.group c.args.h c.requires.1 c.loop-left.left
    c.lowest-g.result c.args.count c.loop-left.found
    c.args.sets.now c.loop-left.sets c.extend_by.new.sets (Some c.in_ok-found.found)
    c.loop-left.invariant.0 below (c.loop-left.invariant.2 _ low.0) low.2 c.loop-left.invariant.3 (rw c.in_ok-found.was at
    c.extend_by.ensures) in
    let same : length c.extend_by.new.sets ≡ length c.loop-left.sets = omega arith in
    let plain = coset-plain c.args.n (product c.args.n c.args.t.now) c.args.e c.requires.0.group c.args.h c.lowest-g.result c.requires.1.small below in
    let coset = coset_of c.args.n (product c.args.n c.args.t.now) c.args.e c.args.h c.lowest-g.result in
    let less = outside-less c.loop-left.left coset c.lowest-g.result low.0 (coset-new c.args.n (product c.args.n c.args.t.now) c.args.e c.requires.0.group
    c.args.h c.requires.1
    c.lowest-g.result below) in
    rw (
      c.outside-left.ensures,
      c.coset.ensures ∙ plain,
    )
    (same ∙ c.loop-left.invariant.0, omega (arith, less, c.loop-left.invariant.1), λ j i. c.loop-left.invariant.2 j (outside-old c.loop-left.left coset j i), X)

pub shape_of-sets : goal.shape_of-sets
shape_of-sets c = c.loop-left.invariant.0

pub returns : goal.returns
returns c =
    let none : c.loop-left.left ≡ 0 = omega arith in
    extended-end c.args.n (product c.args.n c.args.t.now) c.args.e c.args.classes c.requires.0.group c.args.h c.requires.1 c.loop-left.left c.args.count
    c.loop-left.found c.args.sets.now c.loop-left.sets none
    c.loop-left.invariant.3
