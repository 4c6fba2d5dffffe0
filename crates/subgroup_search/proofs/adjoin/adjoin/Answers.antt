use mathlib.Core.Path.{◌≡◌}
use mathlib.Core.Bool.{true}
use Prim.Native.Nat.{ℕ, ◌+◌, ◌<◌, ◌^◌}
use native.Mathlib.Omega.{arith}
use lib.Count.{ones, ones-le}
use Rattle.laws.specs.Sets.{member, member_below, bounded, shifted_one}
use Rattle.laws.specs.Truth.{not-passing}
use Rattle.subgroup_laws.specs.Adjoin.{growing-start}
use Rattle.subgroup_laws.specs.Removal.{Without, without-old, without-ones}
use Rattle.subgroup_search.specs.Growth.{growing-next, adjoined-end}
use Rattle.subgroup_search.proofs.adjoin.adjoin.Goals as goal

-- a representative less waits
fewer : (n k waiting r rest : ℕ) → k < 2 ^ n → ((x : ℕ) → member waiting x ≡ true → member k x ≡ true) → member waiting r ≡ true
    → Without waiting r rest → ones waiting ≡ ones rest + 1
fewer n k waiting r rest small inside i W =
    without-ones waiting r rest W n (member_below n k r small (inside r i))
    (bounded n rest (λ x l. not-passing _ (λ m. let j = member_below n k x small (inside x (without-old waiting r rest W x m)) in omega arith)))

pub loop-grown-init : goal.loop-grown-init
loop-grown-init c =
    let h : c.args.e < 64 = let i = c.requires.0.group.identity-below in let j = c.requires.0.cells.limit in omega arith in
    rw (shifted_one 64 c.args.e h) (growing-start _ _ _ _ c.args.g c.requires.0.group c.requires.1 c.args.g)

pub swept-requires : goal.swept-requires
swept-requires c =
    let r = c.lowest-r.result in
    let held = (c.lowest-r.ensures c.loop-grown-test.true).0 in (
      c.requires.0,
      c.requires.1,
      c.requires.2,
      c.loop-grown.invariant.forced r (c.loop-grown.invariant.waiting-inside r held),
      growing-next _ _ _ _ _ _ c.requires.0.group c.requires.1 c.loop-grown.grown.set c.loop-grown.grown.waiting r c.without.result
          (c.without.ensures held) c.loop-grown.invariant,
    )

pub loop-grown-smaller : goal.loop-grown-smaller
loop-grown-smaller c =
    let held = (c.lowest-r.ensures c.loop-grown-test.true).0 in
    let f = fewer _ c.loop-grown.grown.set c.loop-grown.grown.waiting c.lowest-r.result c.without.result c.loop-grown.invariant.small
    c.loop-grown.invariant.waiting-inside held (c.without.ensures held) in
    omega (arith, c.in_ok-grown.ensures.1, f, ones-le _ _ c.in_ok-grown.ensures.0.small, ones-le _ _ c.loop-grown.invariant.small)

pub loop-grown-preserved : goal.loop-grown-preserved
loop-grown-preserved c = c.in_ok-grown.ensures.0

pub returns : goal.returns
returns c =
    let none : c.loop-grown.grown.waiting ≡ 0 = omega arith in
    adjoined-end _ _ _ _ _ _ c.requires.0.group c.requires.1 c.requires.2 c.loop-grown.grown.set c.loop-grown.grown.waiting none c.loop-grown.invariant
