-- The slots before i are moved, and those from i on hold the identity.
use Rattle.std.proofs.Common.{◌≡◌}
use Rattle.hall_symbol.specs.Listed.{moved_slots}
use Rattle.hall_symbol.proofs.generators.shifted_all.Given as goal

abbrev pub invariant-loop-i : goal.invariant-loop-i
invariant-loop-i l = l.moved ≡ moved_slots l.fn.v l.fn.list.operations l.i
