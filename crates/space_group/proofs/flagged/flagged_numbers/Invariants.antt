-- The invariant: the first i slots hold the numbers of the first i generators with their flags.
use Rattle.std.proofs.Common.{◌≡◌, ◌++◌, map, take, drop}
use Rattle.space_group.specs.FlaggedGenerators.{with_flags, flagged_number}
use Rattle.space_group.proofs.flagged.flagged_numbers.Given as goal

abbrev pub invariant-loop-i : goal.invariant-loop-i
invariant-loop-i l = l.numbers ≡ map flagged_number (take l.i (with_flags l.generators l.flags)) ++ drop l.i l.initial.numbers
