-- What is found stands for the group that is read; laid out, it is that group.
use mathlib.Core.Path.{◌∙◌}
use Rattle.record_reading.proofs.reader.read_first_record.Goals as goal

pub lay_found-requires : goal.lay_found-requires
lay_found-requires c = (c.find_first.ensures.few, c.find_first.ensures.within)

pub returns : goal.returns
returns c = c.lay_found.ensures ∙ c.find_first.ensures.same
