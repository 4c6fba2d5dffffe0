-- The numbers and places of a layer symbol's refusals: those of the plain symbol, and 19 at the list index of the first operation that is none of a layer.
use Rattle.std.specs.Prelude.{ℕ}
use Rattle.symbol_group.specs.Refusals as plain
use Rattle.layer_group.specs.declared.refusal.Refusal.{Refusal}
use Rattle.layer_group.specs.declared.refusal.Refusal.TheVariants.{Symbol, NoLayer}

abbrev pub number_of : Refusal → ℕ
number_of (Symbol r) = plain.number_of r
number_of (NoLayer i) = 19

abbrev pub place_of : Refusal → ℕ
place_of (Symbol r) = plain.place_of r
place_of (NoLayer i) = i
