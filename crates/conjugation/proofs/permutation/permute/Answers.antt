use mathlib.Core.Path.{◌≡◌, refl, sym, ap, ap₂, ◌∙◌}
use mathlib.Core.List.{List, ◌++◌}
use Prim.Native.Nat.{ℕ, ◌+◌, ◌<◌}
use native.Mathlib.Omega.{arith}
use lib.Count.{ones_in}
use lib.ListN.{set, drop}
use Rattle.laws.specs.Sets.{members, ones_below}
use Rattle.subgroup_laws.specs.Conjugation.{inverse-below}
use Rattle.subgroup_laws.specs.Permutations.{position_of, permutation_of, permuted, permuted-in, permuted-out, count-in, count-out, count_room}
use Rattle.subgroup_laws.specs.Subsets.{conjugate_element}
use Rattle.subgroup_laws.specs.Table.{product}
use Rattle.conjugation.proofs.permutation.permute.Goals as goal
use Rattle.conjugation.proofs.permutation.permute.Goals.{then-contains, else-contains}

pub loop-x-init : goal.loop-x-init
unfolding ones_in members
loop-x-init c = (refl, refl, refl)

pub cell-requires : goal.cell-requires
cell-requires c = (
  c.requires.0.cells,
  rw (c.inverse-back.ensures c.requires.0.cells c.requires.2) (inverse-below _ _ _ c.requires.0.group _ c.requires.2),
  c.loop-x-test.true,
)

pub cell-y-requires : goal.cell-y-requires
cell-y-requires c = (c.requires.0.cells, c.cell.ensures.1, c.requires.2)

pub position-requires : goal.position-requires
position-requires c = omega arith

pub bounds-list-i : goal.bounds-list-i
bounds-list-i c =
    let small : c.loop-x.x < 64 = let h = c.requires.0.cells.limit in omega (arith, c.loop-x-test.true) in
    let m = sym (c.contains.ensures small) ∙ c.if-contains.true in
    let room =
    count_room c.args.n (product c.args.n c.args.t.now) c.args.e c.args.s c.args.g c.loop-x.x c.loop-x-test.true c.requires.1 m in
    let h = c.requires.3 in
    omega arith

pub overflow_add-i : goal.overflow_add-i
overflow_add-i c =
    let small : c.loop-x.x < 64 = let h = c.requires.0.cells.limit in omega (arith, c.loop-x-test.true) in
    let m = sym (c.contains.ensures small) ∙ c.if-contains.true in
    let room =
    count_room c.args.n (product c.args.n c.args.t.now) c.args.e c.args.s c.args.g c.loop-x.x c.loop-x-test.true c.requires.1 m in
    let h = c.requires.3 in
    omega arith

pub loop-x-preserved : goal.loop-x-preserved
unfolding position_of conjugate_element
loop-x-preserved c =
    let times = product c.args.n c.args.t.now in
    let small : c.loop-x.x < 64 = let h = c.requires.0.cells.limit in omega (arith, c.loop-x-test.true) in
    elim c.if-contains.branch [
      | then-contains w ↦
          let m = sym (c.contains.ensures small) ∙ w.if-contains.true in
          let room = count_room c.args.n times c.args.e c.args.s c.args.g c.loop-x.x c.loop-x-test.true c.requires.1 m in
          let value : w.position.result ≡ position_of c.args.n times c.args.e c.args.s c.args.g c.loop-x.x =
          w.position.ensures ∙ ap (λ (y : ℕ). ones_in y c.args.s) (w.cell-y.ensures.0
          ∙ ap (λ (y : ℕ). times y c.args.g) (w.cell.ensures.0
          ∙ ap (λ (y : ℕ). times y c.loop-x.x) (c.inverse-back.ensures c.requires.0.cells c.requires.2))) in
          let h = c.requires.3 in (
            w.i-is ∙ ap (λ (k : ℕ). k + 1) c.loop-x.invariant.0 ∙ sym (count-in c.args.n times c.args.e c.args.s c.args.g c.loop-x.x m),
            c.if-contains.auto.list ∙ c.loop-x.invariant.1,
            w.list-is ∙ ap₂ (λ (x : List ℕ) (v : ℕ). set x c.loop-x.i v) c.loop-x.invariant.2 value
                ∙ ap (λ (k : ℕ). set (permuted c.args.n times c.args.e c.args.s c.args.g c.loop-x.x c.args.list.now) k
                (position_of c.args.n times c.args.e c.args.s c.args.g c.loop-x.x)) c.loop-x.invariant.0
                ∙ permuted-in c.args.n times c.args.e c.args.s c.args.g c.loop-x.x c.args.list.now m (omega arith),
          )
      | else-contains w ↦
          let out = sym (c.contains.ensures small) ∙ w.if-contains.false in (
            w.i-is ∙ c.loop-x.invariant.0 ∙ sym (count-out c.args.n times c.args.e c.args.s c.args.g c.loop-x.x out),
            c.if-contains.auto.list ∙ c.loop-x.invariant.1,
            w.list-is ∙ c.loop-x.invariant.2 ∙ permuted-out c.args.n times c.args.e c.args.s c.args.g c.loop-x.x c.args.list.now out,
          )
    ]

pub shape_of-list : goal.shape_of-list
shape_of-list c = c.loop-x.invariant.1

pub returns : goal.returns
unfolding permutation_of
returns c =
    let q : c.loop-x.x ≡ c.args.n = omega arith in
    c.loop-x.invariant.2 ∙ ap (λ (x : ℕ). permuted c.args.n (product c.args.n c.args.t.now) c.args.e c.args.s c.args.g x c.args.list.now) q
    ∙ ap (λ (k : ℕ). permutation_of c.args.n (product c.args.n c.args.t.now) c.args.e c.args.s c.args.g ++ drop k c.args.list.now) (sym
    (ones_below c.args.n c.args.s c.requires.1))
