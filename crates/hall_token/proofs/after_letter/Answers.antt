-- Each early return is a test of the definition that its callee answered; what is left is the operation.
use Rattle.std.specs.Prelude.{Ok, Option}
use Rattle.std.proofs.Common.{◌≡◌, ◌∙◌, Bool, true, List, [], ℕ, sym, ap, arith}
use Rattle.std.proofs.lemmas.Bool.{not_from_false}
use borrow.Author.Tests.{not-true}
use Rattle.operation.specs.declared.Rotation.{Rotation}
use Rattle.hall_axes.specs.Axes.{axis_of}
use Rattle.hall_axes.specs.declared.Fold.{Fold}
use Rattle.hall_axes.specs.declared.Mark.{Mark}
use Rattle.hall_axes.specs.declared.Previous.{Previous}
use Rattle.hall_token.specs.Runs.{every, may_stand, no_prime}
use Rattle.hall_token.specs.Front.{found-some, found_none}
use Rattle.hall_token.specs.Offsets.{run_start, start-few, passing-within, wrong-within, every-short, every-whole}
use Rattle.hall_token.specs.RunLetters.{repeat-within}
use Rattle.hall_token.specs.Reader.{read_run, operation_of_parts, axis_then, turn_then, moved_then, once_then}
use Rattle.hall_token.proofs.after_letter.Goals as goal
use Rattle.hall_axes.specs.declared.Direction.{Direction}

-- A run that is spelt right and holds no prime is read on.
read_on : (n : Bool) (f : Fold) (m : Mark) (l : Option Direction) (run : List ℕ) (p : Previous) → every may_stand run ≡ true → every no_prime run ≡ true
    → operation_of_parts (read_run n f m l run) p ≡ axis_then (run_start n m l) n f run (axis_of f m l p)
unfolding read_run operation_of_parts
read_on n f m l run p spelt unprimed = rw (spelt, unprimed)

pub overflow_add-result : goal.overflow_add-result
overflow_add-result c =
    let few = start-few c.args.negative c.args.mark c.args.letter in
    let place = found-some _ _ c.foreign_place.result _ c.foreign_place.ensures c.in-Some.is in
    let within = passing-within may_stand c.args.run.now in
    omega (arith, c.run_start-start.ensures)

pub returns-in-Some : goal.returns-in-Some
unfolding read_run operation_of_parts
returns-in-Some c =
    let place = found-some _ _ c.foreign_place.result _ c.foreign_place.ensures c.in-Some.is in
    rw (every-short may_stand c.args.run.now place.0, c.run_start-start.ensures, place.1)

pub returns-then-not-unprimed : goal.returns-then-not-unprimed
unfolding read_run operation_of_parts
returns-then-not-unprimed c =
    let whole = every-whole may_stand c.args.run.now (found_none _ _ c.foreign_place.result c.foreign_place.ensures c.in_default.is) in
    rw (whole, ← c.unprimed.ensures, not-true c.unprimed.result (not_from_false _ c.if-not-unprimed.true))

pub returns-in_default-axis_of : goal.returns-in_default-axis_of
unfolding axis_then
returns-in_default-axis_of c =
    let a = c.args in
    let whole = every-whole may_stand a.run.now (found_none _ _ c.foreign_place.result c.foreign_place.ensures c.in_default.is) in
    let on = read_on a.negative a.fold a.mark a.letter a.run.now a.previous whole (sym c.unprimed.ensures ∙ c.if-not-unprimed.false) in
    rw (on, ← c.axis_of.ensures, c.in_default-axis_of.is)

pub returns-in_default-rotation_about : goal.returns-in_default-rotation_about
unfolding axis_then turn_then
returns-in_default-rotation_about c =
    let a = c.args in
    let whole = every-whole may_stand a.run.now (found_none _ _ c.foreign_place.result c.foreign_place.ensures c.in_default.is) in
    let on = read_on a.negative a.fold a.mark a.letter a.run.now a.previous whole (sym c.unprimed.ensures ∙ c.if-not-unprimed.false) in
    rw (on, ← c.axis_of.ensures, c.in-Some-axis_of.is, ← c.rotation_about.ensures, c.in_default-rotation_about.is)

pub overflow_add-result-in_default-translation_of : goal.overflow_add-result-in_default-translation_of
overflow_add-result-in_default-translation_of c =
    let few = start-few c.args.negative c.args.mark c.args.letter in
    let within = wrong-within c.args.fold c.in-Some-axis_of.axis c.args.run.now in
    omega (arith, c.run_start-start.ensures, c.wrong_digit.ensures)

pub returns-in_default-translation_of : goal.returns-in_default-translation_of
unfolding axis_then turn_then moved_then
returns-in_default-translation_of c =
    let a = c.args in
    let whole = every-whole may_stand a.run.now (found_none _ _ c.foreign_place.result c.foreign_place.ensures c.in_default.is) in
    let on = read_on a.negative a.fold a.mark a.letter a.run.now a.previous whole (sym c.unprimed.ensures ∙ c.if-not-unprimed.false) in
    rw (
      on,
      ← c.axis_of.ensures,
      c.in-Some-axis_of.is,
      ← c.rotation_about.ensures,
      c.in-Some-rotation_about.is,
      ← c.translation_of.ensures,
      c.in_default-translation_of.is,
      c.run_start-start.ensures,
      c.wrong_digit.ensures,
    )

pub overflow_add-result-in-Some-first_repeat : goal.overflow_add-result-in-Some-first_repeat
overflow_add-result-in-Some-first_repeat c =
    let few = start-few c.args.negative c.args.mark c.args.letter in
    let place = found-some _ _ c.first_repeat.result _ c.first_repeat.ensures c.in-Some-first_repeat.is in
    let within = repeat-within [] c.args.run.now in
    omega (arith, c.run_start-start.ensures)

pub returns-in-Some-first_repeat : goal.returns-in-Some-first_repeat
unfolding axis_then turn_then moved_then once_then
returns-in-Some-first_repeat c =
    let a = c.args in
    let whole = every-whole may_stand a.run.now (found_none _ _ c.foreign_place.result c.foreign_place.ensures c.in_default.is) in
    let on = read_on a.negative a.fold a.mark a.letter a.run.now a.previous whole (sym c.unprimed.ensures ∙ c.if-not-unprimed.false) in
    let place = found-some _ _ c.first_repeat.result _ c.first_repeat.ensures c.in-Some-first_repeat.is in
    rw (
      on,
      ← c.axis_of.ensures,
      c.in-Some-axis_of.is,
      ← c.rotation_about.ensures,
      c.in-Some-rotation_about.is,
      ← c.translation_of.ensures,
      c.in-Some-translation_of.is,
      place.0,
      c.run_start-start.ensures,
      place.1,
    )

pub returns : goal.returns
unfolding axis_then turn_then moved_then once_then
returns c =
    let a = c.args in
    let whole = every-whole may_stand a.run.now (found_none _ _ c.foreign_place.result c.foreign_place.ensures c.in_default.is) in
    let on = read_on a.negative a.fold a.mark a.letter a.run.now a.previous whole (sym c.unprimed.ensures ∙ c.if-not-unprimed.false) in
    let none = found_none _ _ c.first_repeat.result c.first_repeat.ensures c.in_default-first_repeat.is in
    rw (
      on,
      ← c.axis_of.ensures,
      c.in-Some-axis_of.is,
      ← c.rotation_about.ensures,
      c.in-Some-rotation_about.is,
      ← c.translation_of.ensures,
      c.in-Some-translation_of.is,
      none,
    )
    (ap (λ (r : Rotation). (Ok ((record { rotation = r; translation = c.in-Some-translation_of.translation }), a.fold, c.in-Some-axis_of.axis)))
    c.with_sign-rotation.ensures)
