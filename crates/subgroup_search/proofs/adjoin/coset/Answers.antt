use mathlib.Core.Path.{◌≡◌, ap, ◌∙◌}
use mathlib.Core.List.{List}
use Prim.Native.Nat.{ℕ, ◌^◌, ◌<◌}
use native.Mathlib.Omega.{arith}
use lib.Bits.{bit_or}
use Rattle.element_sets.specs.declared.sets.Members.{Members}
use Rattle.laws.specs.Sets.{member_below}
use Rattle.subgroup_laws.specs.ImageLoop.{imaging-start, imaging-step, imaging-end}
use Rattle.subgroup_laws.specs.Table.{product}
use Rattle.subgroup_search.proofs.adjoin.coset.Goals as goal

-- x b
abbrev value : List ℕ → ℕ → ℕ → ℕ → ℕ
value t n b x = product n t x b

pub loop-x-init : goal.loop-x-init
loop-x-init c =
    let e : c.into_iter-x-iterator.result.left ≡ c.args.s =
    ap (λ (m : Members). m.left) c.into_iter-x-iterator.ensures.into_iter_gives ∙ c.of-x-items.ensures in
    rw e (tt, tt, imaging-start _ _ _)

pub cell-requires : goal.cell-requires
cell-requires c = (c.requires.0, member_below _ _ _ c.requires.1 (c.loop-x.invariant.2.inside _ c.in-Some.ensures.steps.held), c.requires.2)

pub loop-x-preserved : goal.loop-x-preserved
loop-x-preserved c =
    let x = c.in-Some.x in
    let low = c.in-Some.ensures.steps in
    let small : c.cell.result < 64 = omega arith in
    let found : c.with_element-found.result ≡ bit_or c.loop-x.found (2 ^ value c.args.t.now c.args.n c.args.b x) =
    c.with_element-found.ensures small ∙ ap (λ (z : ℕ). bit_or c.loop-x.found (2 ^ z)) c.cell.ensures.0 in
    rw found (
      tt,
      tt,
      imaging-step _ _ _ c.loop-x.x-iterator.left c.loop-x.found x c.next.new.self.left c.loop-x.invariant.2 low.held low.rest
          (rw (← c.cell.ensures.0) c.cell.ensures.1),
    )

pub returns : goal.returns
returns c = imaging-end _ _ _ c.requires.1 c.loop-x.x-iterator.left c.loop-x.found c.in-None.ensures.steps c.loop-x.invariant.2
