-- No letter repeats nothing; a letter does if it occurs in what stands before it.
use Rattle.std.proofs.Common.{◌∙◌}
use Rattle.hall_token.specs.RunLetters.{repeats, contains-occurs}
use Rattle.hall_token.proofs.letters.repeats.Goals as goal

pub returns-then-is_letter : goal.returns-then-is_letter
unfolding repeats
returns-then-is_letter c =
    rw (← c.run_byte.ensures, ← c.is_letter.ensures, c.if-is_letter.true) (c.contains.ensures.value ∙ contains-occurs _ _)

pub returns-else-is_letter : goal.returns-else-is_letter
unfolding repeats
returns-else-is_letter c = rw (← c.run_byte.ensures, ← c.is_letter.ensures, c.if-is_letter.false)
