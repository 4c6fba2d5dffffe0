-- The reading from the first token on is the reading from the token reached on, with what has been found; each way out of the loop is a step of the reader.
use mathlib.Core.Bool.{true}
use Prim.Native.Nat.{◌-◌}
use lib.ListN.{length, drop}
use Rattle.hall_symbol.specs.Tokens.{tokens_from}
use Rattle.hall_symbol.specs.Listed.{list_of}
use Rattle.hall_symbol.specs.Reader.{operations, no_previous}
use Rattle.hall_symbol.specs.Walk.{Reached}
use Rattle.hall_symbol.proofs.parse.Given as goal

abbrev pub invariant-loop-word : goal.invariant-loop-word
invariant-loop-word l =
    Reached l.text l.centering (operations (length l.text) l.centering (list_of l.initial.list) no_previous
    (tokens_from l.initial.at true (drop l.initial.at l.text))) l.at l.list l.previous

abbrev pub decreases-loop-word : goal.decreases-loop-word
decreases-loop-word l = length l.text - l.at
