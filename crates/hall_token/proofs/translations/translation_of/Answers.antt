-- The first byte decides: no digit, a digit off the axis or too large, or a right one, whose rise is below 12.
use Rattle.std.proofs.lemmas.Bool.{not_from_false, not_from_true}
use mathlib.Core.Path.{sym, ◌∙◌}
use native.Mathlib.Omega.{arith}
use Rattle.hall_token.specs.Translations.{screw_digit}
use Rattle.hall_token.specs.Sums.{moved_nothing, front-letters, front-wrong, front-screw, off-axis, too_large, right-digit, rise-lt, fold-range}
use Rattle.hall_token.proofs.translations.translation_of.Goals as goal
use Rattle.hall_token.proofs.translations.translation_of.Goals.{then-not-plain_z-via-then-not-plain_z, then-not-plain_z-via-else-not-plain_z+then-turn-digit}

pub returns-then-run-eq0 : goal.returns-then-run-eq0
returns-then-run-eq0 c = sym (moved_nothing c.args.fold c.args.axis c.args.run.now c.if-run-eq0.true)

pub returns-then-no_screw : goal.returns-then-no_screw
returns-then-no_screw c =
    c.letters.ensures ∙ sym (front-letters c.args.fold c.args.axis c.args.run.now c.run_byte-first.result c.no_screw.result c.if-run-eq0.false
    c.run_byte-first.ensures c.no_screw.ensures c.if-no_screw.true)

pub returns-then-not-plain_z : goal.returns-then-not-plain_z
returns-then-not-plain_z c =
    let a = c.args in
    let wrong = front-wrong a.fold a.axis a.run.now c.run_byte-first.result c.no_screw.result c.if-run-eq0.false c.run_byte-first.ensures c.no_screw.ensures
    c.if-no_screw.false in
    let digit = screw_digit c.run_byte-first.result in
    elim c.then-not-plain_z.branch [
      | then-not-plain_z-via-then-not-plain_z w ↦ sym (wrong (off-axis a.fold a.axis digit c.plain_z.result c.plain_z.ensures
          (not_from_false _ w.if-not-plain_z.true)))
      | then-not-plain_z-via-else-not-plain_z+then-turn-digit w ↦ sym (wrong (too_large a.fold a.axis digit c.plain_z.result c.plain_z.ensures
          (not_from_true _ w.if-not-plain_z.false) (rw (c.fold_number-turn.ensures, c.screw_digit-digit.ensures) at w.if-turn-digit.true)))
    ]

pub overflow_mul-digit : goal.overflow_mul-digit
overflow_mul-digit c =
    let range = fold-range c.args.fold in omega (arith, c.fold_number-turn.ensures)

pub letters-requires-2 : goal.letters-requires-2
letters-requires-2 c =
    rw c.fold_number-turn.ensures (rise-lt c.args.fold c.screw_digit-digit.result (rw c.fold_number-turn.ensures at c.if-turn-digit.false))

pub returns : goal.returns
returns c =
    let small = rw (c.fold_number-turn.ensures, c.screw_digit-digit.ensures) at c.if-turn-digit.false in
    rw (
      front-screw c.args.fold c.args.axis c.args.run.now c.run_byte-first.result c.no_screw.result c.if-run-eq0.false c.run_byte-first.ensures
          c.no_screw.ensures
          c.if-no_screw.false (right-digit c.args.fold c.args.axis (screw_digit c.run_byte-first.result) c.plain_z.result c.plain_z.ensures
          (not_from_true _ c.if-not-plain_z.false) small),
      ← c.screw_digit-digit.ensures,
      ← c.fold_number-turn.ensures,
    )
    c.letters-2.ensures
