use Rattle.layer_group.specs.Copying.{copy-front}
use Rattle.layer_group.proofs.capitals.copied.Goals as goal

pub returns : goal.returns
returns c = copy-front c.args.text.now c.copy_from_slice.new.self _ c.copy_from_slice.ensures.after
