-- By what was read.
use mathlib.Core.Path.{◌∙◌}
use Rattle.record_numbers.proofs.record.letter.Goals as goal

pub returns-in-Accepted : goal.returns-in-Accepted
returns-in-Accepted c = c.letter_byte.ensures ∙ rw (← c.read_record-group.ensures, c.in-Accepted.is)

pub returns-in-Refused : goal.returns-in-Refused
returns-in-Refused c = c.refused_record.ensures ∙ rw (← c.read_record-group.ensures, c.in-Refused.is)
