use mathlib.Core.Path.{◌≡◌, sym, ◌∙◌, ap, subst}
use Prim.Native.Nat.{ℕ, ◌+◌, ◌^◌}
use native.Mathlib.Omega.{arith}
use lib.Bits.{bit_or}
use lib.ListN.{length}
use Rattle.laws.specs.Sets.{member}
use Rattle.list_check.specs.Checked.{off_at, slot_at, entry_at, entry_count}
use Rattle.list_check.specs.Slots.{Seen, first-here, first-nowhere, one_more, seen_nothing, past_off, seen-off, new-on, seen_next, place-found, place-nothing}
use Rattle.list_check.proofs.comparing.compare.Goals as goal

pub loop-i-init : goal.loop-i-init
loop-i-init c = (
  (λ j h. absurd (omega arith)),
  seen_nothing c.args.c (length c.args.operations.now) (slot_at c.args.operations.now) (entry_at c.args.list.now)
      c.requires.1,
)

pub returns-in_default : goal.returns-in_default
returns-in_default c =
    let operations = c.args.operations.now in
    let entry = entry_at c.args.list.now in
    let past = place-nothing c.args.c operations c.operation_at.result (entry c.loop-i.i) c.operation_at.ensures (sym c.in_default.is ∙ c.place_of.ensures) in
    let off = past_off c.args.c (length operations) (slot_at operations) entry c.requires.1 c.loop-i.i past in (
      omega arith,
      first-here (off_at c.args.c (length operations) (slot_at operations) entry) (entry_count c.args.list.now) c.loop-i.i (omega arith)
          c.loop-i.invariant.0 off,
    )

pub returns-then-contains : goal.returns-then-contains
returns-then-contains c =
    let operations = c.args.operations.now in
    let entry = entry_at c.args.list.now in
    let (within, place) =
    place-found c.args.c operations c.operation_at.result (entry c.loop-i.i) c.in-Some.k c.operation_at.ensures (sym c.in-Some.is ∙ c.place_of.ensures) in
    let there = ap (member c.loop-i.seen) (sym place) ∙ sym (c.contains.ensures (omega arith)) ∙ c.if-contains.true in
    let off = seen-off c.args.c (length operations) (slot_at operations) entry c.requires.1 c.loop-i.i (omega arith) c.loop-i.seen c.loop-i.invariant.1
    there in (
      omega arith,
      first-here (off_at c.args.c (length operations) (slot_at operations) entry) (entry_count c.args.list.now) c.loop-i.i (omega arith)
          c.loop-i.invariant.0 off,
    )

pub loop-i-preserved : goal.loop-i-preserved
loop-i-preserved c =
    let operations = c.args.operations.now in
    let entry = entry_at c.args.list.now in
    let (within, place) =
    place-found c.args.c operations c.operation_at.result (entry c.loop-i.i) c.in-Some.k c.operation_at.ensures (sym c.in-Some.is ∙ c.place_of.ensures) in
    let absent = ap (member c.loop-i.seen) (sym place) ∙ sym (c.contains.ensures (omega arith)) ∙ c.if-contains.false in
    let on = new-on c.args.c (length operations) (slot_at operations) entry c.requires.1 c.loop-i.i (omega arith) c.loop-i.seen c.loop-i.invariant.1
    absent in
    let next = seen_next c.args.c (length operations) (slot_at operations) entry c.requires.1 c.loop-i.i (omega arith) c.loop-i.seen
    c.loop-i.invariant.1 in
    let set = ap (λ (k : ℕ). bit_or c.loop-i.seen (2 ^ k)) (sym place) ∙ sym (c.with_element-seen.ensures (omega arith)) in (
      one_more (off_at c.args.c (length operations) (slot_at operations) entry) c.loop-i.i c.loop-i.invariant.0 on,
      subst (λ (m : ℕ). Seen c.args.c (length operations) (slot_at operations) entry (c.loop-i.i + 1) m) set next,
    )

pub returns : goal.returns
returns c =
    let operations = c.args.operations.now in
    let entry = entry_at c.args.list.now in
    let last : c.loop-i.i ≡ entry_count c.args.list.now = omega arith in (
      omega (
        arith,
        first-nowhere (off_at c.args.c (length operations) (slot_at operations) entry) (entry_count c.args.list.now)
            (λ j h. c.loop-i.invariant.0 j (omega arith)),
      ),
      subst (λ (i : ℕ). Seen c.args.c (length operations) (slot_at operations) entry i c.loop-i.seen) last c.loop-i.invariant.1,
    )
