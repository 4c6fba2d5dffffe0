-- The number's parts are those of the definition.
use mathlib.Core.Path.{refl}
use Rattle.laws.specs.Lattice.{unrank}
use Rattle.group_record.specs.ThirdEdition.{item_of_number}
use Rattle.group_record.proofs.items.item_of_number.Goals as goal

pub returns : goal.returns
unfolding item_of_number unrank
returns c = refl
