-- The loop's invariant: the operations passed are of a layer, so what is left decides.
use mathlib.Core.Path.{◌≡◌}
use lib.ListN.{drop}
use Rattle.laws.specs.Truth.{all}
use Rattle.layer_group.specs.Layers.{is_layer}
use Rattle.group_record.specs.declared.items.Item.{Item}
use Rattle.group_record.specs.Reading.{operation_of_item}
use Rattle.record_items.specs.Items.{items_of}
use Rattle.record_reading.proofs.reader.all_layers.Given as goal

abbrev pub invariant-loop-i : goal.invariant-loop-i
invariant-loop-i l =
    (all (λ (j : Item). is_layer (operation_of_item j)) (drop l.i (items_of l.edition l.n l.bytes))
    ≡ all (λ (j : Item). is_layer (operation_of_item j)) (items_of l.edition l.n l.bytes))
