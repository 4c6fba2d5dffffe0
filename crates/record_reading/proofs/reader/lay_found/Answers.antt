-- The part from the start on is laid out.
use Rattle.laws.specs.LentParts.{tail-part}
use Rattle.record_reading.specs.Found.{laid_out}
use Prim.Native.Nat.{ℕ}
use mathlib.Core.List.{List}
use mathlib.Core.Path.{◌∙◌, ap}
use Rattle.record_reading.proofs.reader.lay_found.Goals as goal

pub returns : goal.returns
returns c =
    c.laid_out.ensures
    ∙ ap (λ (b : List ℕ). laid_out c.args.found.answer c.args.found.edition c.args.found.sign c.args.found.count b)
    (tail-part c.args.bytes.now c.args.found.start)
