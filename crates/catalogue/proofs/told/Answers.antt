-- No line, no answer; else the writing of its record.
use Rattle.std.specs.Prelude.{Ok}
use Rattle.std.proofs.lemmas.Bool.{not_from_false, not_from_true}
use mathlib.Core.Path.{◌≡◌, refl, sym, ap}
use native.Mathlib.Omega.{arith}
use lib.ListN.{length}
use lib.Seq.{length-take-le}
use borrow.Author.Tests.{not-true, not-false}
use borrow.Author.Rules.{rules}
use Rattle.catalogue.proofs.told.Goals as goal
use Rattle.catalogue.specs.declared.Progress.TheVariants.{Told}

pub returns-then-not-finished : goal.returns-then-not-finished
returns-then-not-finished c =
    let e = not-true c.args.finished (not_from_false _ c.if-not-finished.true) in
    (rw e refl, rw e refl)

pub slice_bounds-bytes-end : goal.slice_bounds-bytes-end
slice_bounds-bytes-end c =
    let whole : length c.args.line.bytes ≡ 81 = search rules in
    omega (arith, c.requires)

pub slice_bounds-write_record-end : goal.slice_bounds-write_record-end
slice_bounds-write_record-end c =
    let whole : length c.args.line.bytes ≡ 81 = search rules in
    sym (length-take-le c.args.line.length c.args.line.bytes (omega (arith, c.requires)))

pub returns : goal.returns
returns c =
    let e = not-false c.args.finished (not_from_true _ c.if-not-finished.false) in
    (rw e (ap ((λ y. Ok (Told c.args.taken y))) c.write_record.ensures.0), rw e c.write_record.ensures.1)
