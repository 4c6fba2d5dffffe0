-- Each early return is a rule of the reading, or what the edition leaves to be read.
use Rattle.record_reading.specs.Trailer.{read_short, read-other-edition, read-as-first, read-as-third}
use Rattle.record_reading.specs.Found.{nothing-found, stands-as}
use native.Mathlib.Omega.{arith}
use Rattle.record_reading.proofs.reader.find.Goals as goal

pub returns-then-bytes-lt9 : goal.returns-then-bytes-lt9
returns-then-bytes-lt9 c = nothing-found c.nothing.ensures (read_short c.args.bytes.now c.if-bytes-lt9.true)

pub returns-in-1 : goal.returns-in-1
returns-in-1 c =
    stands-as c.find_lettered.ensures
    (read-as-first c.args.bytes.now _ (omega (arith, c.if-bytes-lt9.false))
    c.from_end.ensures c.in-1.is)

pub returns-in-3 : goal.returns-in-3
returns-in-3 c =
    stands-as c.find_lettered-in-3.ensures
    (read-as-third c.args.bytes.now _ (omega (arith, c.if-bytes-lt9.false))
    c.from_end.ensures (λ e. absurd (omega (arith, c.in-3.is))) c.in-3.is)

pub returns-in_default : goal.returns-in_default
returns-in_default c =
    nothing-found c.nothing-in_default.ensures
    (read-other-edition c.args.bytes.now _ (omega (arith, c.if-bytes-lt9.false))
    c.from_end.ensures (λ e. absurd (omega arith)) (λ e. absurd (omega arith)))
