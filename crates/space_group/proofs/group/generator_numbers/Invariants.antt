-- The invariant: the first i slots hold the numbers of the first i generators.
use Rattle.std.proofs.Common.{◌≡◌, ◌++◌, map, take, drop}
use Rattle.space_group.specs.NumberGrowth.{generator_number}
use Rattle.space_group.proofs.group.generator_numbers.Given as goal

abbrev pub invariant-loop-i : goal.invariant-loop-i
invariant-loop-i l = l.numbers ≡ map generator_number (take l.i l.generators) ++ drop l.i l.initial.numbers
