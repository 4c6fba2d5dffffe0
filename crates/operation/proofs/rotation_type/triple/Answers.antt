-- `triple` is `times` twice. Assumes nothing.
use mathlib.Core.Path.{◌∙◌, ap}
use Rattle.operation.specs.DigitDeterminant.{digit_of_product}
use Rattle.operation.proofs.rotation_type.triple.Goals as goal

pub returns : goal.returns
returns c =
    (c.times-2.ensures.0 ∙ ap (digit_of_product c.args.a) c.times.ensures.0, c.times-2.ensures.1)
