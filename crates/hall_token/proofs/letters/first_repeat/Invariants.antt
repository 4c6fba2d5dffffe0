-- The bytes passed so far, and those still to pass behind them, come to what the whole run comes to.
use Rattle.std.proofs.Common.{◌≡◌, ◌+◌, take, drop}
use Rattle.hall_token.specs.RunLetters.{repeat_from, repeat_at}
use Rattle.hall_token.proofs.letters.first_repeat.Given as goal

abbrev pub invariant-loop-at : goal.invariant-loop-at
invariant-loop-at l = repeat_at l.fn.run ≡ l.at + repeat_from (take l.at l.fn.run) (drop l.at l.fn.run)
