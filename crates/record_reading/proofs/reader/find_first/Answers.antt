-- Each early return is a rule of the reading; the last call is what the edition leaves to be read.
use Rattle.record_reading.specs.Trailer.{first_short, first-other-edition, first-by-letter}
use Rattle.record_reading.specs.Found.{nothing-found, stands-as}
use native.Mathlib.Omega.{arith}
use Rattle.record_reading.proofs.reader.find_first.Goals as goal

pub returns-then-bytes-lt10 : goal.returns-then-bytes-lt10
returns-then-bytes-lt10 c = nothing-found c.nothing.ensures (first_short c.args.bytes.now c.if-bytes-lt10.true)

pub returns-then-from_end-ne1 : goal.returns-then-from_end-ne1
returns-then-from_end-ne1 c =
    nothing-found c.nothing-then-from_end-ne1.ensures
    (first-other-edition c.args.bytes.now _ (omega (arith, c.if-bytes-lt10.false))
    c.from_end.ensures c.if-from_end-ne1.true)

pub returns : goal.returns
returns c =
    stands-as c.find_lettered.ensures
    (first-by-letter c.args.bytes.now _ (omega (arith, c.if-bytes-lt10.false))
    c.from_end.ensures c.if-from_end-ne1.false)
