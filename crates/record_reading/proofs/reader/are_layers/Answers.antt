-- Nothing is asked under a capital letter.
use mathlib.Core.Path.{sym, ◌∙◌}
use Rattle.layer_group.specs.Layers.{is_layer}
use Rattle.record_reading.specs.Slots.{all-operations}
use Rattle.record_reading.proofs.reader.are_layers.Goals as goal

pub returns-else-not-small : goal.returns-else-not-small
returns-else-not-small c = rw c.if-not-small.false (c.all_layers.ensures ∙ sym (all-operations is_layer _))
