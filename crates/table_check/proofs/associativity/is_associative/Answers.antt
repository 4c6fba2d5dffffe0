use mathlib.Core.Path.{◌≡◌, sym, ap, ◌∙◌}
use mathlib.Core.Logic.{inl, inr}
use mathlib.Core.Bool.{true≢false}
use Prim.Native.Nat.{ℕ}
use native.Mathlib.Omega.{arith}
use borrow.Author.Count.{below_more}
use borrow.Author.Tests.{ne_eqb}
use Rattle.element_sets.specs.declared.sets.Members.{Members}
use Rattle.laws.specs.Sets.{member, member_below, member-empty}
use Rattle.subgroup_laws.specs.Bounded.{fails-every}
use Rattle.subgroup_laws.specs.Generators.{generators-associate}
use Rattle.subgroup_laws.specs.Groups.{associates_at, associates}
use Rattle.subgroup_laws.specs.Removal.{without-cases, without-less}
use Rattle.subgroup_laws.specs.Table.{product}
use Rattle.subgroup_laws.specs.TableCells.{product-below}
use Rattle.table_check.proofs.associativity.is_associative.Goals as goal

pub loop-j-init : goal.loop-j-init
loop-j-init c =
    let e : c.into_iter-j-iterator.result.left ≡ c.generators.result =
    ap (λ (m : Members). m.left) c.into_iter-j-iterator.ensures.into_iter_gives ∙ c.of-j-items.ensures in
    (tt, tt, rw e c.generators.ensures.1, λ j m. inl m)

pub loop-j-preserved : goal.loop-j-preserved
loop-j-preserved c =
    let low = c.in-Some.ensures.steps in (
      tt,
      tt,
      omega (arith, c.loop-j.invariant.2, without-less _ _ _ low.rest),
      λ j m. elim (c.loop-j.invariant.3 j m) [
        | inr f ↦ inr f
        | inl i ↦ elim (without-cases _ _ _ low.rest j i) [
          | inl r ↦ inl r
          | inr q ↦ inr (λ i k h z. rw (← q) (c.loop-i.invariant i (omega arith) k z))
        ]
      ],
    )

pub cell-ij-requires : goal.cell-ij-requires
cell-ij-requires c = (c.requires.0, c.loop-i-test.true, member_below _ _ _ c.loop-j.invariant.2 c.in-Some.ensures.steps.held)

pub cell-jk-requires : goal.cell-jk-requires
cell-jk-requires c = (c.requires.0, member_below _ _ _ c.loop-j.invariant.2 c.in-Some.ensures.steps.held, c.loop-k-test.true)

pub cell-requires : goal.cell-requires
cell-requires c = (c.requires.0, c.cell-ij.ensures.1, c.loop-k-test.true)

pub cell-requires-in-loop-k : goal.cell-requires-in-loop-k
cell-requires-in-loop-k c = (c.requires.0, c.loop-i-test.true, c.cell-jk.ensures.1)

pub loop-k-preserved : goal.loop-k-preserved
loop-k-preserved c =
    let l = c.cell.ensures.0 ∙ ap (λ (z : ℕ). product c.args.n c.args.t.now z c.loop-k.k) c.cell-ij.ensures.0 in
    let r = c.cell-in-loop-k.ensures.0 ∙ ap (product c.args.n c.args.t.now c.loop-i.i) c.cell-jk.ensures.0 in
    below_more _ _ c.loop-k.invariant (sym l ∙ c.if-cell.false ∙ r)

pub loop-i-preserved : goal.loop-i-preserved
loop-i-preserved c = below_more _ _ c.loop-i.invariant (λ k h. c.loop-k.invariant k (omega arith))

pub returns : goal.returns
returns c =
    let start : c.into_iter-j-iterator.result.left ≡ c.generators.result =
    ap (λ (m : Members). m.left) c.into_iter-j-iterator.ensures.into_iter_gives ∙ c.of-j-items.ensures in
    sym (generators-associate _ _ _ c.requires.1 (product-below _ _ c.requires.0) c.generators.result c.generators.ensures.0
    (λ j m. elim (c.loop-j.invariant.3 j (rw start m)) [
      | inl i ↦ absurd (true≢false (sym i ∙ ap (λ (z : ℕ). member z j) c.in-None.ensures.steps ∙ member-empty j))
      | inr f ↦ f
    ]))

pub returns-then-cell : goal.returns-then-cell
unfolding associates associates_at
returns-then-cell c =
    let n = c.args.n in
    let t = c.args.t.now in
    let l = c.cell.ensures.0 ∙ ap (λ (z : ℕ). product n t z c.loop-k.k) c.cell-ij.ensures.0 in
    let r = c.cell-in-loop-k.ensures.0 ∙ ap (product n t c.loop-i.i) c.cell-jk.ensures.0 in
    let j = member_below _ _ _ c.loop-j.invariant.2 c.in-Some.ensures.steps.held in
    sym (fails-every _ n c.loop-i.i c.loop-i-test.true
    (fails-every _ n _ j (fails-every _ n c.loop-k.k c.loop-k-test.true (ne_eqb _ _ (λ e. c.if-cell.true (l ∙ e ∙ sym r))))))
