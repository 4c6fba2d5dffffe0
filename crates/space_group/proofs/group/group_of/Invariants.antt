-- The loop lays out what each number says.
use Rattle.std.proofs.Common.{◌≡◌, ◌++◌, map, take, drop}
use Rattle.packed_operation.specs.Number.{said_by}
use Rattle.space_group.proofs.group.group_of.Given as goal

abbrev pub invariant-loop-k : goal.invariant-loop-k
invariant-loop-k l = l.operations ≡ map said_by (take l.k l.numbers) ++ drop l.k l.initial.operations
