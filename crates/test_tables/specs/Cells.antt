-- A table's cells as the test library gives them: one for each place.
use Rattle.std.specs.Prelude.{cond, List, ℕ, ltb, get_or}

-- The cell at a place, and 0 where there is no slot.
abbrev pub cell_at : List ℕ → ℕ → ℕ
cell_at cells place = cond (ltb place 2304) (get_or cells place 0) 0
