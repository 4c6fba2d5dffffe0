-- The four tests in turn.
use mathlib.Core.Path.{refl}
use native.Mathlib.Omega.{arith}
use borrow.Author.Tests.{eq-eqb, ne_eqb, le-leb, lt-leb}
use Rattle.group_record.specs.Rules.{length_fits}
use Rattle.magnetic_record_reading.proofs.reader.length_fits.Goals as goal
use Rattle.magnetic_record_reading.proofs.reader.length_fits.Goals.{then-n-lt1-via-then-n-lt1, then-n-lt1-via-else-n-lt1+then-n-gt96}

pub returns-then-n-lt1 : goal.returns-then-n-lt1
unfolding length_fits
returns-then-n-lt1 c = elim c.then-n-lt1.branch [
  | then-n-lt1-via-then-n-lt1 w ↦ simp (lt-leb 1 c.args.n w.if-n-lt1.true)
  | then-n-lt1-via-else-n-lt1+then-n-gt96 w ↦ simp (le-leb 1 c.args.n (omega arith), lt-leb c.args.n 96 w.if-n-gt96.true)
]

pub returns-then-stated-n : goal.returns-then-stated-n
unfolding length_fits
returns-then-stated-n c =
    let n = c.args.n in
    simp (le-leb 1 n (omega arith), le-leb n 96 (omega arith), ← c.if-stated-n.true, eq-eqb c.args.stated c.args.stated refl)

pub returns-else-stated-n : goal.returns-else-stated-n
unfolding length_fits
returns-else-stated-n c =
    let n = c.args.n in
    simp (le-leb 1 n (omega arith), le-leb n 96 (omega arith), ne_eqb _ _ c.if-stated-n.false)
