use mathlib.Core.Path.{◌≡◌, ap, ◌∙◌}
use mathlib.Core.List.{List}
use Prim.Native.Nat.{ℕ, ◌^◌, ◌<◌}
use native.Mathlib.Omega.{arith}
use lib.Bits.{bit_or}
use Rattle.element_sets.specs.declared.sets.Members.{Members}
use Rattle.laws.specs.Sets.{member_below}
use Rattle.subgroup_laws.specs.ImageLoop.{imaging-start, imaging-step, imaging-end}
use Rattle.subgroup_laws.specs.Removal.{without-less}
use Rattle.subgroup_laws.specs.Table.{product}
use Rattle.subgroup_laws.specs.TableCells.{product-below}
use Rattle.table_products.proofs.image_in.Goals as goal

-- (a x) b
abbrev value : List ℕ → ℕ → ℕ → ℕ → ℕ → ℕ
value t n a b x = product n t (product n t a x) b

pub loop-x-init : goal.loop-x-init
loop-x-init c =
    let e : c.into_iter-x-iterator.result.left ≡ c.args.s =
    ap (λ (m : Members). m.left) c.into_iter-x-iterator.ensures.into_iter_gives ∙ c.of-x-items.ensures in
    rw e (tt, tt, c.requires.1, λ C. imaging-start _ _ _)

pub cell-y-requires : goal.cell-y-requires
cell-y-requires c = (c.requires.0, c.requires.2, member_below _ _ _ c.loop-x.invariant.2 c.in-Some.ensures.steps.held)

pub returns-then-n-y : goal.returns-then-n-y
returns-then-n-y c C =
    let x = member_below _ _ _ c.loop-x.invariant.2 c.in-Some.ensures.steps.held in
    let y = product-below c.args.n c.args.t.now C c.args.a c.in-Some.x c.requires.2 x in
    absurd (omega (arith, y, c.cell-y.ensures, c.if-n-y.true))

pub cell-requires : goal.cell-requires
cell-requires c = (c.requires.0, c.if-n-y.false, c.requires.3)

pub loop-x-preserved : goal.loop-x-preserved
loop-x-preserved c =
    let x = c.in-Some.x in
    let low = c.in-Some.ensures.steps in
    let y : c.cell.result ≡ value c.args.t.now c.args.n c.args.a c.args.b x =
    c.cell.ensures ∙ ap (λ (z : ℕ). product c.args.n c.args.t.now z c.args.b) c.cell-y.ensures in (
      tt,
      tt,
      omega (arith, without-less _ _ _ low.rest, c.loop-x.invariant.2),
      λ C.
          let inner = product-below c.args.n c.args.t.now C c.args.a x c.requires.2 (member_below _ _ _ c.loop-x.invariant.2 low.held) in
          let below : value c.args.t.now c.args.n c.args.a c.args.b x < c.args.n =
          product-below c.args.n c.args.t.now C (product c.args.n c.args.t.now c.args.a x) c.args.b inner c.requires.3 in
          let small : c.cell.result < 64 = let k = C.limit in omega (arith, y, below) in
          let found : c.with_element-found.result ≡ bit_or c.loop-x.found (2 ^ value c.args.t.now c.args.n c.args.a c.args.b x) =
          c.with_element-found.ensures small ∙ ap (λ (z : ℕ). bit_or c.loop-x.found (2 ^ z)) y in
          rw found (imaging-step _ _ _ c.loop-x.x-iterator.left c.loop-x.found x c.next.new.self.left (c.loop-x.invariant.3 C) low.held low.rest below),
    )

pub returns : goal.returns
returns c C = imaging-end _ _ _ c.requires.1 c.loop-x.x-iterator.left c.loop-x.found c.in-None.ensures.steps (c.loop-x.invariant.3 C)
