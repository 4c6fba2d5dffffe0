-- The front byte by itself is answered, and behind a right one the first digit is wrong.
use Rattle.std.proofs.Common.{sym, ap, arith, length, ltb-false}
use Rattle.hall_token.specs.Runs.{no_screw}
use Rattle.hall_token.specs.Front.{rest, front, found-some, found_none}
use Rattle.hall_token.specs.Offsets.{wrong-nothing, alone-wrong, alone-right, wrong-within, passing-within}
use Rattle.hall_token.proofs.offsets.wrong_digit.Goals as goal

pub returns-then-run-eq0 : goal.returns-then-run-eq0
returns-then-run-eq0 c = sym (wrong-nothing c.args.fold c.args.axis c.args.run.now c.if-run-eq0.true)

pub returns-in_default : goal.returns-in_default
returns-in_default c =
    sym (alone-wrong c.args.fold c.args.axis c.args.run.now c.translation_of.result c.if-run-eq0.false c.translation_of.ensures c.in_default.is)

pub overflow_add-result : goal.overflow_add-result
overflow_add-result c =
    let a = c.args in
    let right = alone-right a.fold a.axis a.run.now c.translation_of.result c.if-run-eq0.false c.translation_of.ensures c.in-Some.field-0 c.in-Some.is in
    let place = found-some _ _ c.digit_place.result _ c.digit_place.ensures c.in-Some-digit_place.is in
    let within = wrong-within a.fold a.axis a.run.now in
    omega (arith, right, place.1, within)

pub returns-in-Some-digit_place : goal.returns-in-Some-digit_place
returns-in-Some-digit_place c =
    let a = c.args in
    let right = alone-right a.fold a.axis a.run.now c.translation_of.result c.if-run-eq0.false c.translation_of.ensures c.in-Some.field-0 c.in-Some.is in
    let place = found-some _ _ c.digit_place.result _ c.digit_place.ensures c.in-Some-digit_place.is in
    omega (arith, right, place.1)

pub returns-in-None : goal.returns-in-None
returns-in-None c =
    let a = c.args in
    let right = alone-right a.fold a.axis a.run.now c.translation_of.result c.if-run-eq0.false c.translation_of.ensures c.in-Some.field-0 c.in-Some.is in
    let none = ltb-false _ _ (found_none _ _ c.digit_place.result c.digit_place.ensures c.in-None.is) in
    let within = passing-within no_screw (rest a.run.now) in
    let long = ap length (front a.run.now c.if-run-eq0.false) in
    omega (arith, right, none, within, long)
