-- `identify_handedness`: out of range it is neither, and in range the determinant decides. Assumes nothing.
use Rattle.std.proofs.lemmas.Bool.{not_from_false, not_from_true}
use mathlib.Core.Path.{sym, ◌∙◌}
use borrow.Author.Tests.{not-true, not-false}
use Rattle.operation.specs.DigitDeterminant.{small-digits}
use Rattle.operation.specs.RotationType.{handedness_of}
use Rattle.operation.proofs.rotation_type.identify_handedness.Goals as goal

pub returns-then-not-in_range : goal.returns-then-not-in_range
unfolding handedness_of
returns-then-not-in_range c = rw (← c.in_range.ensures, not-true c.in_range.result (not_from_false _ c.if-not-in_range.true))

pub raised_determinant-requires : goal.raised_determinant-requires
raised_determinant-requires c =
    small-digits _ (sym c.in_range.ensures ∙ not-false c.in_range.result (not_from_true _ c.if-not-in_range.false))

pub returns : goal.returns
unfolding handedness_of
returns c =
    rw (
      ← c.in_range.ensures,
      not-false c.in_range.result (not_from_true _ c.if-not-in_range.false),
      c.raised_determinant.ensures.0,
    )
    c.handedness_of_raised.ensures
