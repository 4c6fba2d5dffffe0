-- `in_range` asks of each row whether it is digits, which `small-matrix` says of the matrix. Assumes nothing.
use Rattle.std.proofs.Common.{◌∙◌}
use Rattle.operation.specs.DigitDeterminant.{small-matrix}
use Rattle.operation.proofs.rotation_type.in_range.Goals as goal
use Rattle.operation.proofs.rotation_type.in_range.Goals.{then-are_digits, else-are_digits}

pub returns-then-are_digits-2 : goal.returns-then-are_digits-2
returns-then-are_digits-2 c = elim c.if-are_digits.branch [
  | then-are_digits w ↦ simp (
    small-matrix,
    ← c.are_digits.ensures,
    ← w.are_digits-then-are_digits.ensures,
    ← c.are_digits-then-are_digits-2.ensures,
    w.if-are_digits.true,
    ← w.value-is,
    c.if-are_digits-2.true,
  )
  | else-are_digits w ↦ let e = w.value-is ∙ w.if-are_digits.false in cc
]

pub returns-else-are_digits-2 : goal.returns-else-are_digits-2
returns-else-are_digits-2 c = elim c.if-are_digits.branch [
  | then-are_digits w ↦ c.if-are_digits-2.false ∙ simp (
    small-matrix,
    ← c.are_digits.ensures,
    ← w.are_digits-then-are_digits.ensures,
    w.if-are_digits.true,
    ← w.value-is,
    c.if-are_digits-2.false,
  )
  | else-are_digits w ↦ c.if-are_digits-2.false ∙ simp (small-matrix, ← c.are_digits.ensures, w.if-are_digits.false)
]
