-- The invariant: the copy made so far, and the copy of what is left behind it, are the whole copy; and so with the flags.
use Rattle.std.proofs.Common.{◌≡◌, ◌++◌, length, take, drop}
use Rattle.magnetic_symbol.specs.Reversals.{blanked_from, flags_from, noted_all, flag_slots}
use Rattle.magnetic_symbol.specs.declared.reversals.Mode.TheVariants.{Before}
use Rattle.magnetic_symbol.proofs.reversals.blanked.Given as goal

abbrev pub invariant-loop-i : goal.invariant-loop-i
invariant-loop-i l =
    (length l.bytes ≡ 80) × (take l.i l.bytes ++ blanked_from l.mode (drop l.i l.text) ≡ blanked_from Before l.text)
    × (noted_all l.list (flags_from l.mode (drop l.i l.text)) ≡ flag_slots l.text)
