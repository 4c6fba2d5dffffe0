-- The common part, with the edition chosen.
use Rattle.record_writing.proofs.copier.move_record.Goals as goal

pub returns : goal.returns
returns c = c.write_read.ensures
