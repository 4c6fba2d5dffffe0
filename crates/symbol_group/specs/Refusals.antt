-- The numbers and places of R8, 1 to 14, and what each answer of this room is in numbers.
use Rattle.std.specs.Prelude.{ℕ}
use Rattle.hall_symbol.specs.Refusals as text
use Rattle.space_group.specs.Refusals as generators
use Rattle.symbol_group.specs.declared.refusal.Refusal.{Refusal}
use Rattle.symbol_group.specs.declared.refusal.Refusal.TheVariants.{Text, Group}

abbrev pub number_of : Refusal → ℕ
number_of (Text r) = text.number_of r
number_of (Group r) = generators.number_of r

abbrev pub place_of : Refusal → ℕ
place_of (Text r) = text.place_of r
place_of (Group r) = generators.place_of r
