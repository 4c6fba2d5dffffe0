use Rattle.std.specs.Prelude.{Err, Ok}
use mathlib.Core.Path.{◌≡◌, refl, sym, ◌∙◌, ap}
use Prim.Native.Nat.{◌<◌}
use native.Mathlib.Omega.{arith}
use lib.ListN.{length}
use borrow.Author.Tests.{eq-eqb, ne_eqb}
use Rattle.hall_symbol.specs.Bytes.{opening}
use Rattle.hall_symbol.specs.Reader.{answer_of}
use Rattle.hall_symbol.specs.Places.{found-word, no_more}
use Rattle.hall_symbol.specs.Walk.{reached-word, reached-some, reached-end, reached-shift, reached-ninth, reached-rotation, reached-offset}
use borrow.Author.Rules.{rules}
use Rattle.hall_symbol.proofs.parse.Goals as goal

pub loop-word-init : goal.loop-word-init
loop-word-init c =
    let long : length c.args.leading.operations ≡ 9 = search rules in
    record {
      within = omega arith;
      few = rw c.no_previous-previous.ensures (omega arith);
      short = rw c.no_previous-previous.ensures (omega arith);
      slots = long;
      same = rw c.no_previous-previous.ensures;
    }

pub returns-in_default : goal.returns-in_default
returns-in_default c =
    let blank = no_more _ _ c.next_word.result c.next_word.ensures c.in_default.is in
    c.at_end.ensures ∙ ap answer_of (sym (reached-end c.loop-word.invariant refl blank))

pub bounds-text-start : goal.bounds-text-start
bounds-text-start c = (found-word _ _ c.next_word.result _ c.next_word.ensures c.in-Some.is).1

pub returns-then-text-start-eq40 : goal.returns-then-text-start-eq40
unfolding opening
returns-then-text-start-eq40 c = c.at_shift.ensures ∙ ap answer_of (sym
    (reached-shift c.loop-word.invariant (found-word _ _ c.next_word.result _ c.next_word.ensures c.in-Some.is).0
    (found-word _ _ c.next_word.result _ c.next_word.ensures c.in-Some.is).1 (eq-eqb _ _ c.if-text-start-eq40.true)))

pub returns-then-previous-ge8 : goal.returns-then-previous-ge8
unfolding opening
returns-then-previous-ge8 c = c.refused.ensures ∙ ap answer_of (sym
    (reached-ninth c.loop-word.invariant
    (found-word _ _ c.next_word.result _ c.next_word.ensures c.in-Some.is).0 (found-word _ _ c.next_word.result _ c.next_word.ensures c.in-Some.is).1
    (ne_eqb _ _
    c.if-text-start-eq40.false) c.if-previous-ge8.true))

pub slice_bounds-parse_operation-count : goal.slice_bounds-parse_operation-count
slice_bounds-parse_operation-count c =
    let (after, ordered, reaches) =
    reached-word c.loop-word.invariant (found-word _ _ c.next_word.result _ c.next_word.ensures c.in-Some.is).0 in
    ordered

pub slice_bounds-parse_operation-start : goal.slice_bounds-parse_operation-start
slice_bounds-parse_operation-start c =
    let (after, ordered, reaches) =
    reached-word c.loop-word.invariant (found-word _ _ c.next_word.result _ c.next_word.ensures c.in-Some.is).0 in
    search rules

pub slice_bounds-parse_operation-end : goal.slice_bounds-parse_operation-end
slice_bounds-parse_operation-end c =
    let (after, ordered, reaches) =
    reached-word c.loop-word.invariant (found-word _ _ c.next_word.result _ c.next_word.ensures c.in-Some.is).0 in
    search rules

pub loop-word-smaller : goal.loop-word-smaller
loop-word-smaller c =
    let (after, ordered, reaches) =
    reached-word c.loop-word.invariant
    (found-word _ _ c.next_word.result _ c.next_word.ensures c.in-Some.is).0 in
    let some =
    reached-some c.loop-word.invariant
    (found-word _ _ c.next_word.result _ c.next_word.ensures c.in-Some.is).0
    (found-word _ _ c.next_word.result _ c.next_word.ensures c.in-Some.is).1 in
    omega arith

pub loop-word-preserved : goal.loop-word-preserved
unfolding opening
loop-word-preserved c =
    let reached = c.loop-word.invariant in
    let (after, ordered, reaches) =
    reached-word reached (found-word _ _ c.next_word.result _ c.next_word.ensures c.in-Some.is).0 in
    let room : c.loop-word.previous.count < 8 =
    c.if-previous-ge8.false in
    let pushed = c.push.ensures in
    let step =
    reached-rotation reached (found-word _ _ c.next_word.result _ c.next_word.ensures c.in-Some.is).0
    (found-word _ _ c.next_word.result _ c.next_word.ensures c.in-Some.is).1
    (ne_eqb _ _ c.if-text-start-eq40.false)
    c.if-previous-ge8.false (Ok (c.in-Ok.o, c.in-Ok.fold, c.in-Ok.axis))
    (sym c.in-Ok.is ∙ c.parse_operation-parsed.ensures) in
    record {
      within = reaches;
      few = omega arith;
      short = omega (arith, pushed.count);
      slots = pushed.slots;
      same = step ∙ rw pushed.listed;
    }

pub overflow_add-start : goal.overflow_add-start
overflow_add-start c =
    let reached = c.loop-word.invariant in
    let there = reached-offset reached (found-word _ _ c.next_word.result _ c.next_word.ensures c.in-Some.is).0 _ _ (sym
    c.in-Err.is ∙ c.parse_operation-parsed.ensures) in
    omega (arith, there)

pub returns-in-Err : goal.returns-in-Err
unfolding opening
returns-in-Err c =
    c.refused-in-Err.ensures
    ∙ ap answer_of (sym (reached-rotation c.loop-word.invariant
    (found-word _ _ c.next_word.result _ c.next_word.ensures c.in-Some.is).0
    (found-word _ _ c.next_word.result _ c.next_word.ensures c.in-Some.is).1
    (ne_eqb _ _ c.if-text-start-eq40.false)
    c.if-previous-ge8.false (Err (_, _))
    (sym c.in-Err.is ∙ c.parse_operation-parsed.ensures)))
