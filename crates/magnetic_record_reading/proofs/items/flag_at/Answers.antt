-- The sixth byte of the item.
use mathlib.Core.Path.{sym}
use lib.Seq.{get_or-drop}
use Rattle.magnetic_record.specs.SecondEdition.{magnetic_in}
use Rattle.magnetic_record_reading.proofs.items.flag_at.Goals as goal

pub returns : goal.returns
unfolding magnetic_in
returns c = sym (get_or-drop _ c.args.bytes.now 5 0)
