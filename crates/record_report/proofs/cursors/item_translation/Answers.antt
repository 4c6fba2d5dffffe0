-- Three bytes of the item, by their places.
use Rattle.record_report.specs.Cursors.{translation-bytes}
use Rattle.record_report.proofs.cursors.item_translation.Goals as goal

pub returns : goal.returns
returns c = translation-bytes c.args.bytes.now c.args.i
