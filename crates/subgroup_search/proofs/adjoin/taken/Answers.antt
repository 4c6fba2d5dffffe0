-- Three returns, one for each case of `Taken`. The members of the coset below the bound are its remainder by 2 ^ bound.
use Rattle.std.proofs.lemmas.Bool.{not_from_false, not_from_true}
use mathlib.Core.Path.{◌≡◌, sym, ◌∙◌}
use mathlib.Core.Bool.{true, false}
use mathlib.Core.List.{List}
use Prim.Native.Nat.{ℕ, ◌%◌, ◌^◌, ◌<◌, ◌≤◌}
use native.Mathlib.Omega.{arith}
use lib.Bits.{bit_and}
use lib.Dec.{eqb}
use borrow.Author.Tests.{not-true, not-false}
use Rattle.laws.specs.Sets.{shifted_one}
use Rattle.subgroup_laws.specs.Cosets.{coset_of}
use Rattle.subgroup_laws.specs.LowMembers.{within-passes, within-fails}
use Rattle.subgroup_laws.specs.Table.{product, GroupTable}
use Rattle.subgroup_search.specs.Growth.{seen, barred, joins}
use Rattle.subgroup_search.specs.RightCosets.{coset-plain}
use Rattle.subgroup_search.proofs.adjoin.taken.Goals as goal

-- an element is below 64
word : {n p bound e : ℕ} {t : List ℕ} {A : Type 0} → GroupTable n t e × A × (p < n) × (bound ≤ n) → p < 64
word c = let h = c.0.cells.limit in let k = c.2 in omega arith

pub returns-then-contains : goal.returns-then-contains
returns-then-contains c = seen (sym (c.contains.ensures (word c.requires)) ∙ c.if-contains.true)

pub coset-joined-requires : goal.coset-joined-requires
coset-joined-requires c = (c.requires.0.cells, c.requires.1, c.requires.2)

pub returns-then-not-within : goal.returns-then-not-within
returns-then-not-within c =
    let h : c.args.bound < 64 = omega arith in
    let coset = coset_of c.args.n (product c.args.n c.args.t.now) c.args.e c.args.h c.args.p in
    let plain =
    coset-plain c.args.n (product c.args.n c.args.t.now) c.args.e c.requires.0.group c.args.h c.args.p
    c.requires.1 c.requires.2 in
    let test : eqb (bit_and (coset % 2 ^ c.args.bound) c.args.h) (coset % 2 ^ c.args.bound) ≡ false =
    rw (← (c.coset-joined.ensures ∙ plain), ← shifted_one 64 c.args.bound h) (sym c.within.ensures ∙ not-true _ (not_from_false _ c.if-not-within.true)) in
    let (i, l, m, new) = within-fails c.args.bound coset c.args.h test in
    barred i l m new

pub returns : goal.returns
returns c =
    let h : c.args.bound < 64 = omega arith in
    let coset = coset_of c.args.n (product c.args.n c.args.t.now) c.args.e c.args.h c.args.p in
    let plain =
    coset-plain c.args.n (product c.args.n c.args.t.now) c.args.e c.requires.0.group c.args.h c.args.p
    c.requires.1 c.requires.2 in
    let test : eqb (bit_and (coset % 2 ^ c.args.bound) c.args.h) (coset % 2 ^ c.args.bound) ≡ true =
    rw (← (c.coset-joined.ensures ∙ plain), ← shifted_one 64 c.args.bound h) (sym c.within.ensures
    ∙ not-false _ (not_from_true _ c.if-not-within.false)) in
    rw (
      c.coset-joined.ensures ∙ plain,
      c.with_element.ensures (word c.requires),
    ) (joins (sym
    (c.contains.ensures (word c.requires))
    ∙ c.if-contains.false) (within-passes c.args.bound coset c.args.h test))
