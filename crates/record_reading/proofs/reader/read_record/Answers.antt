-- What is found stands for the group that is read; laid out, it is that group.
use mathlib.Core.Path.{◌∙◌}
use Rattle.record_reading.proofs.reader.read_record.Goals as goal

pub lay_found-requires : goal.lay_found-requires
lay_found-requires c = (c.find.ensures.few, c.find.ensures.within)

pub returns : goal.returns
returns c = c.lay_found.ensures ∙ c.find.ensures.same
