-- What is read says whether it is read.
use mathlib.Core.Path.{ap}
use Rattle.group_record.specs.declared.RecordGroup.{RecordGroup}
use Rattle.record_report.specs.Sheets.{reading_of}
use Rattle.record_report.proofs.read.Goals as goal

pub returns : goal.returns
unfolding reading_of
returns c = ap (λ (g : RecordGroup). g.answer) c.read_first_record-group.ensures
