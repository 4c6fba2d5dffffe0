-- By what the code stands for, and by the handedness.
use Rattle.std.specs.Prelude.{Option}
use Rattle.operation_line.specs.Numbers.{decoded_then, decoded-answer}
use Rattle.std.proofs.Common.{inl}
use Rattle.std.proofs.Math.Logic.{inr}
use mathlib.Core.Path.{sym, ◌∙◌, ap}
use Rattle.operation_line.specs.Reading.{turned}
use Rattle.operation_line.proofs.reader.operation_of.Goals as goal
use Rattle.operation.specs.declared.Rotation.{Rotation}

pub returns-in_default : goal.returns-in_default
unfolding decoded_then
returns-in_default c =
    let outside = sym c.in_default.is ∙ c.rotation_of_code.ensures in
    ap (λ (d : Option Rotation). decoded_then d c.args.rank) outside

pub returns-in-Proper : goal.returns-in-Proper
unfolding turned
returns-in-Proper c =
    let args = c.args in
    elim c.in-Proper.is [
      | inl proper ↦ decoded-answer args.code args.rank _ _ _ _ c.rotation_of_code.ensures c.in-Some.is c.identify_handedness.ensures proper
      | inr improper ↦ decoded-answer args.code args.rank _ _ _ _ c.rotation_of_code.ensures c.in-Some.is c.identify_handedness.ensures improper
    ]

pub returns-in-Neither : goal.returns-in-Neither
unfolding turned
returns-in-Neither c =
    let args = c.args in
    decoded-answer args.code args.rank _ _ _ _ c.rotation_of_code.ensures c.in-Some.is
    c.identify_handedness.ensures
    c.in-Neither.is
