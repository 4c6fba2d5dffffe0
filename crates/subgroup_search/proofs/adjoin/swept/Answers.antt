use mathlib.Core.Path.{◌≡◌, ap, ◌∙◌}
use native.Mathlib.Omega.{arith}
use Rattle.element_sets.specs.declared.sets.Members.{Members}
use Rattle.laws.specs.Sets.{member_below}
use Rattle.subgroup_laws.specs.Adjoin.{product-forced, new-forced, old-forced}
use Rattle.subgroup_laws.specs.Table.{product}
use Rattle.subgroup_search.specs.Growth.{taken-grown, taken-barred, sweeping-start, sweeping-step, sweeping-end}
use Rattle.subgroup_search.proofs.adjoin.swept.Goals as goal

pub cell-requires : goal.cell-requires
cell-requires c = (c.requires.0.cells, c.requires.3.below, c.requires.2)

pub taken-requires : goal.taken-requires
taken-requires c = (c.requires.0, c.requires.1.small, c.cell.ensures.1, omega arith)

pub returns-in_err-grown : goal.returns-in_err-grown
returns-in_err-grown c =
    let times = product c.args.n c.args.t.now in
    let F = product-forced c.args.n times c.args.e c.args.h c.args.g c.requires.0.group c.requires.1 c.args.g c.args.r c.args.g c.requires.3
    (new-forced c.args.n times c.args.e c.args.h c.args.g c.requires.0.group c.requires.1 c.args.g c.requires.2) in
    rw c.from_residual.ensures (taken-barred c.args.n times c.args.e c.args.h c.args.g c.args.g c.requires.0.group c.requires.1
    (λ x. x ≡ c.args.r) c.args.old.set c.args.old.waiting (times c.args.r c.args.g) c.requires.4 F
    (rw (c.in_err-grown.was, c.cell.ensures.0) at c.taken.ensures))

pub loop-x-init : goal.loop-x-init
loop-x-init c =
    let times = product c.args.n c.args.t.now in
    let e : c.into_iter-x-iterator.result.left ≡ c.args.h =
    ap (λ (m : Members). m.left) c.into_iter-x-iterator.ensures.into_iter_gives ∙ c.of-x-items.ensures in
    let F = product-forced c.args.n times c.args.e c.args.h c.args.g c.requires.0.group c.requires.1 c.args.g c.args.r c.args.g c.requires.3
    (new-forced c.args.n times c.args.e c.args.h c.args.g c.requires.0.group c.requires.1 c.args.g c.requires.2) in
    rw e (
      tt,
      tt,
      sweeping-start _ _ _ _ _ _ _ _ _
          (taken-grown c.args.n times c.args.e c.args.h c.args.g c.args.g c.requires.0.group c.requires.1 (λ x. x ≡ c.args.r) c.args.old.set c.args.old.waiting
          (times c.args.r c.args.g) c.requires.4 F
          (rw (c.in_ok-grown.was, c.cell.ensures.0) at c.taken.ensures)),
    )

pub cell-requires-in-loop-x : goal.cell-requires-in-loop-x
cell-requires-in-loop-x c =
    (c.requires.0.cells, c.requires.3.below, member_below _ _ _ c.requires.1.small (c.loop-x.invariant.2.inside _ c.in-Some.ensures.steps.held))

pub taken-requires-in-loop-x : goal.taken-requires-in-loop-x
taken-requires-in-loop-x c = (c.requires.0, c.requires.1.small, c.cell-in-loop-x.ensures.1, omega arith)

pub returns-in_err-grown-2 : goal.returns-in_err-grown-2
returns-in_err-grown-2 c =
    let x = c.in-Some.x in
    let times = product c.args.n c.args.t.now in
    let F = product-forced c.args.n times c.args.e c.args.h c.args.g c.requires.0.group c.requires.1 c.args.g c.args.r x c.requires.3
    (old-forced c.args.n times c.args.e c.args.h c.args.g c.requires.0.group c.requires.1 c.args.g x
    (c.loop-x.invariant.2.inside x c.in-Some.ensures.steps.held)) in
    rw c.from_residual-in_err-grown-2.ensures (taken-barred c.args.n times c.args.e c.args.h c.args.g c.args.g c.requires.0.group c.requires.1
    (λ x. x ≡ c.args.r) c.loop-x.grown.set c.loop-x.grown.waiting (times c.args.r x) c.loop-x.invariant.2.state F
    (rw (c.in_err-grown-2.was, c.cell-in-loop-x.ensures.0) at c.taken-in-loop-x.ensures))

pub loop-x-preserved : goal.loop-x-preserved
loop-x-preserved c =
    let x = c.in-Some.x in
    let times = product c.args.n c.args.t.now in
    let F = product-forced c.args.n times c.args.e c.args.h c.args.g c.requires.0.group c.requires.1 c.args.g c.args.r x c.requires.3
    (old-forced c.args.n times c.args.e c.args.h c.args.g c.requires.0.group c.requires.1 c.args.g x
    (c.loop-x.invariant.2.inside x c.in-Some.ensures.steps.held)) in (
      tt,
      tt,
      sweeping-step c.args.n times c.args.e c.args.h c.args.g c.args.g c.args.old.set c.args.old.waiting c.args.r c.loop-x.grown.set
          c.loop-x.grown.waiting c.loop-x.x-iterator.left x c.next.new.self.left c.loop-x.invariant.2 c.in-Some.ensures.steps.rest
          (taken-grown c.args.n times c.args.e c.args.h c.args.g c.args.g c.requires.0.group c.requires.1 (λ x. x ≡ c.args.r) c.loop-x.grown.set
          c.loop-x.grown.waiting (times c.args.r x) c.loop-x.invariant.2.state F
          (rw (c.in_ok-grown-2.was, c.cell-in-loop-x.ensures.0) at c.taken-in-loop-x.ensures)),
    )

pub returns : goal.returns
returns c =
    sweeping-end _ _ _ _ _ _ _ _ _ c.requires.0.group c.requires.1 c.loop-x.grown.set c.loop-x.grown.waiting c.loop-x.x-iterator.left
    c.in-None.ensures.steps c.loop-x.invariant.2
