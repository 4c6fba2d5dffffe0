use borrow.Author.Rules.{rules}
use mathlib.Core.Path.{◌≡◌, refl, sym, ◌∙◌, ap}
use Prim.Native.Nat.{ℕ, min}
use native.Mathlib.Omega.{arith}
use lib.ListN.{length}
use Rattle.std.specs.Option.{MatchOption}
use Rattle.space_group.specs.Traversal.{turn_of}
use Rattle.list_check.specs.Checked.{lowest, slot_at}
use Rattle.list_check.specs.Slots.{code_found, lowest_unseen, unseen_below, seen-stays, slot_is, unseen-lowers, lower-found}
use Rattle.list_check.proofs.comparing.lowest_missing.Goals as goal
use Rattle.list_check.proofs.comparing.lowest_missing.Goals.{then-not-contains, else-not-contains}

pub loop-k-init : goal.loop-k-init
unfolding lowest
loop-k-init c = refl

pub loop-k-preserved : goal.loop-k-preserved
loop-k-preserved c =
    let operations = c.args.operations.now in
    let low = unseen_below c.args.seen operations c.loop-k.k in
    elim c.if-not-contains.branch [
      | then-not-contains w ↦
          let absent = sym (c.contains.ensures (omega arith)) ∙ w.if-not-contains.true in
          let code = w.rotation_code-code.result in
          let same : code ≡ turn_of (slot_at operations c.loop-k.k) =
          w.rotation_code-code.ensures ∙ ap turn_of (slot_is operations c.loop-k.k _ (omega arith)) in
          let lower : MatchOption c.loop-k.lowest (w.map_or.result ≡ code) (λ best. w.map_or.result ≡ min best code) = search rules in
          w.lowest-is ∙ lower-found code low w.map_or.result c.loop-k.lowest (omega (arith, c.requires.1 c.loop-k.k (omega arith))) c.loop-k.invariant lower
          ∙ ap (λ (k : ℕ). code_found (min k low)) same ∙ ap code_found (unseen-lowers c.args.seen operations c.loop-k.k absent)
      | else-not-contains w ↦
          let there = sym (c.contains.ensures (omega arith)) ∙ w.if-not-contains.false in
          w.lowest-is ∙ c.loop-k.invariant ∙ ap code_found (seen-stays c.args.seen operations c.loop-k.k there)
    ]

pub returns : goal.returns
unfolding lowest_unseen
returns c =
    let last : c.loop-k.k ≡ length c.args.operations.now = omega arith in
    c.loop-k.invariant ∙ ap (λ (k : ℕ). code_found (unseen_below c.args.seen c.args.operations.now k)) last
