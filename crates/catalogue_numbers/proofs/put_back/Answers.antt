use mathlib.Core.Path.{◌≡◌, ◌∙◌, ap}
use Prim.Native.Nat.{◌-◌, ◌≤◌}
use native.Mathlib.Omega.{arith}
use lib.ListN.{length, set, length-set}
use borrow.Author.Rules.{rules}
use Rattle.catalogue_numbers.specs.CatalogueState.{put_so_far, put-none, put-more, put-length, put_all}
use Rattle.catalogue_numbers.proofs.put_back.Goals as goal

pub bounds-state-0 : goal.bounds-state-0
bounds-state-0 c = omega (arith, c.requires)

pub loop-i-init : goal.loop-i-init
loop-i-init c =
    let first = set c.args.state.now 0 c.args.catalogue.status in
    let long : 81 ≤ length first = simp length-set c.requires in
    (omega arith, long, put-none first c.args.catalogue.bytes (omega arith))

pub bounds-state-i : goal.bounds-state-i
bounds-state-i c =
    let places : length c.args.catalogue.bytes ≡ 80 = search rules in
    let same = put-length (set c.args.state.now 0 c.args.catalogue.status) c.args.catalogue.bytes c.loop-i.state c.loop-i.i c.loop-i.invariant.1 places
    c.loop-i.invariant.0 c.loop-i.invariant.2 in
    omega (arith, c.loop-i.invariant.1)

pub loop-i-preserved : goal.loop-i-preserved
loop-i-preserved c =
    let places : length c.args.catalogue.bytes ≡ 80 = search rules in (
      omega arith,
      c.loop-i.invariant.1,
      put-more (set c.args.state.now 0 c.args.catalogue.status) c.args.catalogue.bytes c.loop-i.state c.loop-i.i c.loop-i.invariant.1 places (omega arith)
          c.loop-i.invariant.2,
    )

pub shape_of-state : goal.shape_of-state
shape_of-state c =
    let places : length c.args.catalogue.bytes ≡ 80 = search rules in
    put-length (set c.args.state.now 0 c.args.catalogue.status) c.args.catalogue.bytes c.loop-i.state c.loop-i.i c.loop-i.invariant.1 places
    c.loop-i.invariant.0 c.loop-i.invariant.2
    ∙ simp length-set

pub returns : goal.returns
returns c =
    let places : length c.args.catalogue.bytes ≡ 80 = search rules in
    let all : c.loop-i.i ≡ 80 = omega arith in
    put_all c.args.catalogue places c.args.state.now c.loop-i.state (omega (arith, c.requires))
    (c.loop-i.invariant.2 ∙ ap (put_so_far (set c.args.state.now 0 c.args.catalogue.status) c.args.catalogue.bytes) all)
