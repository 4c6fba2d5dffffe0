-- `type_of_digits`: out of range it refuses, and in range the folded number has the trace and the determinant. Assumes nothing.
use Rattle.std.proofs.lemmas.Bool.{not_from_false, not_from_true}
use mathlib.Core.Path.{sym, ◌∙◌}
use borrow.Author.Tests.{not-true, not-false}
use Rattle.operation.specs.DigitDeterminant.{small-digits}
use Rattle.operation.specs.RotationType.{type_answer, identified}
use Rattle.operation.proofs.rotation_type.type_of_digits.Goals as goal

pub returns-then-not-in_range : goal.returns-then-not-in_range
unfolding type_answer identified
returns-then-not-in_range c = rw (← c.in_range.ensures, not-true c.in_range.result (not_from_false _ c.if-not-in_range.true))

pub folded-requires : goal.folded-requires
folded-requires c =
    small-digits _ (sym c.in_range.ensures ∙ not-false c.in_range.result (not_from_true _ c.if-not-in_range.false))

pub returns : goal.returns
unfolding identified
returns c =
    rw (
      ← c.in_range.ensures,
      not-false c.in_range.result (not_from_true _ c.if-not-in_range.false),
      c.folded.ensures.0,
      c.folded.ensures.1,
    )
    c.type_of_folded.ensures
