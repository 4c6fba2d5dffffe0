use mathlib.Core.Path.{◌≡◌, refl, sym, ap, ◌∙◌}
use mathlib.Core.Bool.{Bool}
use mathlib.Core.List.{List}
use Prim.Native.Nat.{ℕ, ◌<◌}
use native.Mathlib.Omega.{arith}
use lib.Dec.{eqb}
use borrow.Author.Tests.{eq-eqb, ne_eqb}
use Rattle.laws.specs.Sets.{set_of, set_of-in, set_of-out, set_of-room, shifted_one}
use Rattle.subgroup_laws.specs.Subsets.{conjugate_of, normalizer_of}
use Rattle.subgroup_laws.specs.Table.{product}
use Rattle.conjugation.proofs.subgroup.normalizer_set.Goals as goal
use Rattle.conjugation.proofs.subgroup.normalizer_set.Goals.{then-conjugate_set-s, else-conjugate_set-s}

-- whether g conjugates s to itself
abbrev keeps : List ℕ → ℕ → ℕ → ℕ → ℕ → Bool
keeps t n e s g = eqb (conjugate_of n (product n t) e s g) s

pub loop-g-init : goal.loop-g-init
unfolding set_of
loop-g-init c = refl

pub overflow_shl-found : goal.overflow_shl-found
overflow_shl-found c = omega arith

pub overflow_add-found : goal.overflow_add-found
overflow_add-found c =
    let k : c.loop-g.g < 64 = omega arith in
    omega (arith, shifted_one 64 c.loop-g.g k, set_of-room c.loop-g.g 64 (keeps c.args.t.now c.args.n c.args.e c.args.s) k)

pub loop-g-preserved : goal.loop-g-preserved
loop-g-preserved c =
    let p = keeps c.args.t.now c.args.n c.args.e c.args.s in
    let k : c.loop-g.g < 64 = omega arith in
    elim c.if-conjugate_set-s.branch [
      | then-conjugate_set-s w ↦ omega (
        arith,
        w.found-is,
        shifted_one 64 c.loop-g.g k,
        set_of-in c.loop-g.g p (eq-eqb _ _ (sym (c.conjugate_set.ensures c.requires.0 c.requires.1 c.loop-g-test.true) ∙ w.if-conjugate_set-s.true)),
      )
      | else-conjugate_set-s w ↦ omega (
        arith,
        w.found-is,
        shifted_one 64 c.loop-g.g k,
        set_of-out c.loop-g.g p (ne_eqb _ _ (λ q. w.if-conjugate_set-s.false (c.conjugate_set.ensures c.requires.0 c.requires.1 c.loop-g-test.true ∙ q))),
      )
    ]

pub returns : goal.returns
unfolding normalizer_of
returns c =
    let e : c.loop-g.g ≡ c.args.n = omega arith in
    c.loop-g.invariant ∙ ap (λ (k : ℕ). set_of k (keeps c.args.t.now c.args.n c.args.e c.args.s)) e
