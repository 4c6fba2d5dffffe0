use Rattle.std.proofs.lemmas.Bool.{not_from_false, not_from_true}
use mathlib.Core.Path.{sym, ◌∙◌}
use Prim.Native.Nat.{◌<◌, ◌^◌}
use native.Mathlib.Omega.{arith}
use lib.Dec.{ltb}
use borrow.Author.Count.{below_more}
use borrow.Author.Tests.{not-true, not-false, lt-ltb, le-ltb}
use Rattle.laws.specs.Sets.{member, shifted_one}
use Rattle.laws.specs.Truth.{and-fails-left, and-fails, both-and}
use Rattle.subgroup_laws.specs.Bounded.{fails-every, passes-every}
use Rattle.subgroup_laws.specs.Subsets.{is_subgroup}
use Rattle.conjugation.proofs.subgroup.is_subgroup.Goals as goal
use Rattle.conjugation.proofs.subgroup.is_subgroup.Goals.{then-n-s-via-then-n-s, then-n-s-via-else-n-s+then-not-contains}

pub overflow_shl-n : goal.overflow_shl-n
overflow_shl-n c = omega arith

pub returns-then-n-s : goal.returns-then-n-s
unfolding is_subgroup
returns-then-n-s c = elim c.then-n-s.branch [
  | then-n-s-via-then-n-s w ↦
      let h : c.args.n < 64 = let k = c.requires.0.limit in omega arith in
      sym (and-fails-left _ _ (le-ltb c.args.s (2 ^ c.args.n) (rw (shifted_one 64 c.args.n h) at w.if-n-s.true)))
  | then-n-s-via-else-n-s+then-not-contains w ↦
      let h : c.args.e < 64 = let k = c.requires.0.limit in let i = c.requires.1 in omega arith in
      sym (and-fails (ltb c.args.s (2 ^ c.args.n)) _ (and-fails-left _ _
      (sym (w.contains.ensures h) ∙ not-true _ (not_from_false _ w.if-not-contains.true))))
]

pub holds_products-requires : goal.holds_products-requires
holds_products-requires c = (c.requires.0, c.loop-x-test.true)

pub returns-then-not-holds_products : goal.returns-then-not-holds_products
unfolding is_subgroup
returns-then-not-holds_products c =
    sym (and-fails (ltb c.args.s (2 ^ c.args.n)) _ (and-fails (member c.args.s c.args.e) _
    (fails-every _ c.args.n c.loop-x.x c.loop-x-test.true (sym c.holds_products.ensures ∙ not-true _ (not_from_false _ c.if-not-holds_products.true)))))

pub loop-x-preserved : goal.loop-x-preserved
loop-x-preserved c = below_more _ _ c.loop-x.invariant (sym c.holds_products.ensures
    ∙ not-false _ (not_from_true _ c.if-not-holds_products.false))

pub returns : goal.returns
unfolding is_subgroup
returns c =
    let h : c.args.n < 64 = let k = c.requires.0.limit in omega arith in
    sym (both-and _ _ (lt-ltb c.args.s (2 ^ c.args.n) (rw (shifted_one 64 c.args.n h) at c.if-n-s.false))
    (both-and _ _ (sym (c.contains.ensures
    (let k = c.requires.0.limit in let i = c.requires.1 in
    omega arith)) ∙ not-false _ (not_from_true _ c.if-not-contains.false)) (passes-every _ _ (λ i k. c.loop-x.invariant i (omega arith)))))
