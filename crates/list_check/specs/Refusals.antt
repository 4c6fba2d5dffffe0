-- The numbers and places of (xii) of the requests: the symbol's own refusals, 43 at 0, and 44 at the index of the entry.
use Rattle.std.specs.Prelude.{ℕ}
use Rattle.symbol_group.specs.Refusals as symbol
use Rattle.list_check.specs.declared.refusal.Refusal.{Refusal}
use Rattle.list_check.specs.declared.refusal.Refusal.TheVariants.{Symbol, Length, Entry}

abbrev pub number_of : Refusal → ℕ
number_of (Symbol r) = symbol.number_of r
number_of Length = 43
number_of (Entry i) = 44

abbrev pub place_of : Refusal → ℕ
place_of (Symbol r) = symbol.place_of r
place_of Length = 0
place_of (Entry i) = i
