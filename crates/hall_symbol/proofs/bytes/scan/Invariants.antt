-- A scan: what the run from the start finds, the run from the place reached finds too.
use Rattle.std.proofs.Common.{◌≡◌, Bool, ℕ, ◌+◌, ◌<◌, drop}
use Rattle.hall_symbol.specs.Runs.{run}
use Rattle.hall_symbol.proofs.bytes.scan.Given as goal

abbrev pub invariant-loop-i : goal.invariant-loop-i
invariant-loop-i g l =
    (f : ℕ → Bool) → ((b : ℕ) (r : Bool) → b < 256 → goal.F-post g l.fn.passes b r → r ≡ f b)
    → l.fn.at + run f (drop l.fn.at l.fn.text) ≡ l.i + run f (drop l.i l.fn.text)
