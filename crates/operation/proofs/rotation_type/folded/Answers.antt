-- `folded`: the trace and the determinant come from digits, and `fold-parts` finds them in the number again. Assumes nothing.
use mathlib.Core.Path.{◌∙◌}
use Rattle.operation.specs.DigitDeterminant.{trace-digits, fold-parts}
use Rattle.operation.proofs.rotation_type.folded.Goals as goal

pub returns : goal.returns
returns c =
    let parts = fold-parts _ c.raised_determinant.result c.raised_determinant.ensures.1 in
    (trace-digits _ ∙ parts.0, c.raised_determinant.ensures.0 ∙ parts.1)
