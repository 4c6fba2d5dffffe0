-- The tests of the match are those of the definition, leaf by leaf.
use native.Mathlib.Omega.{arith}
use borrow.Author.Tests.{le-leb, lt-leb}
use Rattle.hall_symbol.specs.Bytes.{allowed}
use Rattle.layer_group.specs.Capitals.{marked}
use Rattle.layer_group.proofs.capitals.marked_byte.Goals as goal

pub returns-in-9-to-13 : goal.returns-in-9-to-13
unfolding allowed marked
returns-in-9-to-13 c = let b = c.args.byte in simp (le-leb 9 b (omega arith), le-leb b 13 (omega arith))

pub returns-in-9-to-13-2 : goal.returns-in-9-to-13-2
unfolding allowed marked
returns-in-9-to-13-2 c =
    let b = c.args.byte in
    simp (le-leb 9 b (omega arith), lt-leb b 13 (omega arith), le-leb 32 b (omega arith), le-leb b 126 (omega arith))

pub returns-in_default : goal.returns-in_default
unfolding allowed marked
returns-in_default c = let b = c.args.byte in simp (lt-leb 9 b (omega arith), lt-leb 32 b (omega arith))

pub returns-in_default-2 : goal.returns-in_default-2
unfolding allowed marked
returns-in_default-2 c =
    let b = c.args.byte in
    simp (le-leb 9 b (omega arith), lt-leb b 13 (omega arith), lt-leb 32 b (omega arith))

pub returns-in_default-3 : goal.returns-in_default-3
unfolding allowed marked
returns-in_default-3 c =
    let b = c.args.byte in
    simp (le-leb 9 b (omega arith), lt-leb b 13 (omega arith), le-leb 32 b (omega arith), lt-leb b 126 (omega arith))
