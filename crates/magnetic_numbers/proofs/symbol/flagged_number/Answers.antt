-- The flag is set in front of the plain number, or not.
use mathlib.Core.Path.{sym, ◌∙◌, ap}
use Prim.Native.Nat.{ℕ, ◌+◌}
use native.Mathlib.Omega.{arith}
use borrow.Author.Tests.{eq-eqb, ne_eqb}
use Rattle.packed_operation.specs.Number.{flag_of}
use Rattle.space_group.specs.NumberGrowth.{flagged_said}
use Rattle.magnetic_group.specs.Answers.{beside_flag}
use Rattle.answer_numbers.specs.Packing.{operation_number}
use Rattle.magnetic_numbers.specs.FlaggedNumbers.{said-low, with-flag, without-flag}
use Rattle.magnetic_numbers.proofs.symbol.flagged_number.Goals as goal

pub overflow_add-result : goal.overflow_add-result
overflow_add-result c =
    let o = c.operation_number-number.ensures ∙ ap operation_number c.said.ensures in
    omega (arith, said-low c.args.n, o)

pub returns-then-flag-eq1 : goal.returns-then-flag-eq1
returns-then-flag-eq1 c =
    let n = c.args.n in
    let o = c.operation_number-number.ensures ∙ ap operation_number c.said.ensures in
    let set = eq-eqb (flag_of n) 1 (sym c.flag.ensures.0 ∙ c.if-flag-eq1.true) in
    ap (λ (k : ℕ). 34012224 + k) o ∙ sym (with-flag (beside_flag (flagged_said n)) set)

pub returns : goal.returns
returns c =
    let n = c.args.n in
    let o = c.operation_number-number.ensures ∙ ap operation_number c.said.ensures in
    let clear = ne_eqb (flag_of n) 1 (λ e. c.if-flag-eq1.false (c.flag.ensures.0 ∙ e)) in
    o ∙ sym (without-flag (beside_flag (flagged_said n)) clear)
