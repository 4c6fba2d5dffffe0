use Rattle.std.proofs.Common.{◌≡◌, ◌∙◌, ◌<◌, sym, arith, length, lt-ltb}
use Rattle.hall_token.specs.RunLetters.{repeat_at, repeat-stop, repeat-next}
use Rattle.hall_token.proofs.letters.first_repeat.Goals as goal

pub returns-then-repeats : goal.returns-then-repeats
returns-then-repeats c =
    let run = c.args.run.now in
    let lt : c.loop-at.at < length run = omega arith in
    let stop = repeat-stop run c.loop-at.at lt (sym c.repeats.ensures ∙ c.if-repeats.true) in
    let place : repeat_at run ≡ c.loop-at.at = omega (arith, c.loop-at.invariant, stop) in
    rw (place, lt-ltb c.loop-at.at (length run) lt)

pub loop-at-preserved : goal.loop-at-preserved
loop-at-preserved c =
    omega (arith, c.loop-at.invariant, repeat-next c.args.run.now c.loop-at.at (omega arith) (sym c.repeats.ensures ∙ c.if-repeats.false))
