-- By cases of the handedness.
use Rattle.std.proofs.Common.{inl}
use Rattle.std.proofs.Math.Logic.{inr}
use mathlib.Core.Path.{sym, ◌∙◌, ap}
use Rattle.operation_line.specs.Writing.{writable}
use Rattle.operation.specs.RotationType.{is_turn}
use Rattle.line_writing.proofs.is_writable.Goals as goal

pub returns-in-Proper : goal.returns-in-Proper
unfolding writable
returns-in-Proper c =
    elim c.in-Proper.is [
      | inl proper ↦ sym (ap is_turn (sym c.identify_handedness.ensures ∙ proper))
      | inr improper ↦ sym (ap is_turn (sym c.identify_handedness.ensures ∙ improper))
    ]

pub returns-in-Neither : goal.returns-in-Neither
unfolding writable
returns-in-Neither c = sym (ap is_turn (sym c.identify_handedness.ensures ∙ c.in-Neither.is))
