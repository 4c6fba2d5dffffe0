-- At the end of the input no piece is read; else the piece that was read is answered.
use Rattle.std.specs.Prelude.{ℕ, [], take}
use Rattle.std.proofs.Common.{subst, rules}
use Rattle.std.specs.Io.KnownBytes.{Consumes}
use Rattle.lines.specs.Keeping.{held}
use Rattle.hall.specs.Moved.{nothing-moved}
use Rattle.hall.proofs.read_some.Goals as goal

pub returns-then-n-eq0 : goal.returns-then-n-eq0
returns-then-n-eq0 g c =
    let old = g.I.Read.remaining c.args.input.now in
    let new = g.I.Read.remaining c.read.new.self in (
      ([], nothing-moved old new _ (held c.args.kept) (subst (λ (n : ℕ). Consumes old new (take n c.read.new.buf)) c.if-n-eq0.true c.in-Ok.ensures.bytes.0)),
      search rules,
    )

pub returns-in-Some : goal.returns-in-Some
returns-in-Some g c = (_, record { read = c.in-Ok.ensures.bytes.0; written = c.in-Some.ensures.1; goes_on = c.in-Some.ensures.0 })
