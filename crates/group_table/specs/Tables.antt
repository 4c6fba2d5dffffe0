-- What the table of a list of operations is (R6): indices in list order, the row being the left factor, products modulo L.
use Rattle.std.specs.Prelude.{Bool, ◌&&◌, cond, List, [], ◌∷◌, ◌++◌, map, ℕ, ltb, length, take, drop, replicate, Err, Ok, Result}
use Rattle.laws.specs.Motion.{SpaceMotion, compose}
use Rattle.laws.specs.SameMatrix.{same_rotation}
use Rattle.laws.specs.Growth.{place}
use Rattle.operation.specs.Meaning.{motion_of}
use Rattle.operation.specs.declared.Operation.{Operation}
use Rattle.centering.specs.declared.Centering.{Centering}
use Rattle.space_group.specs.Generated.{same_vector_class}
use Rattle.space_group.specs.Traversal.{padded}
use Rattle.symbol_group.specs.Answers.{symbol_answer}
use Rattle.symbol_group.specs.declared.Answer as symbol
use Rattle.symbol_group.specs.declared.Answer.TheVariants.{Group, Refused}
use Rattle.group_record.specs.Reading.{read_of}
use Rattle.group_record.specs.declared.Reading.{Reading}
use Rattle.group_record.specs.declared.Reading.TheVariants.{Accepted, Refused as RecordRefused}
use Rattle.group_table.specs.declared.SymbolTable.{SymbolTable}
use Rattle.group_table.specs.declared.RecordTable.{RecordTable}
use Rattle.group_record.specs.declared.Refusal.{Refusal}

-- ---- the table of a list
-- Two motions are one modulo L: the same rotation, and translations in one class.
unfoldable pub same_modulo : Centering → SpaceMotion → SpaceMotion → Bool
same_modulo c f g = same_rotation f g && same_vector_class c f g

-- The index of the first listed motion that is this one modulo L; their count if there is none.
abbrev pub index_of : Centering → List SpaceMotion → SpaceMotion → ℕ
index_of c l f = place (same_modulo c) f l

-- The row of a left factor.
abbrev pub row_of : Centering → List SpaceMotion → SpaceMotion → List ℕ
row_of c l f = map (λ g. index_of c l (compose f g)) l

-- The rows of some left factors, one after the other.
unfoldable pub rows_of : Centering → List SpaceMotion → List SpaceMotion → List ℕ
rows_of c l [] = []
rows_of c l (f ∷ fs) = row_of c l f ++ rows_of c l fs

-- All rows: n² cells, by rows.
abbrev pub table_of : Centering → List Operation → List ℕ
table_of c l = let motions = map motion_of l in rows_of c motions motions

-- ---- the answers, slot by slot
-- The cells at the front of 48² slots, the others 0.
abbrev pub cells_of : Centering → List Operation → List ℕ
cells_of c l = padded 2304 0 (table_of c l)

-- The table of an accepted symbol, indices in list order; a refusal carries no table.
abbrev pub symbol_table_by : symbol.Answer → Centering → List Operation → SymbolTable
symbol_table_by Group c l = record { answer = Group; order = length l; cells = cells_of c l }
symbol_table_by (Refused r) c l = record { answer = Refused r; order = 0; cells = replicate 2304 0 }

unfoldable pub symbol_table : List ℕ → SymbolTable
symbol_table text = let g = symbol_answer text in symbol_table_by g.answer g.centering (take g.count g.operations)

-- The table of a record that is read, indices in record order; a refusal carries no table.
abbrev pub record_table_by : Reading → Centering → List Operation → RecordTable
record_table_by Accepted c l = record { answer = Accepted; order = length l; cells = cells_of c l }
record_table_by (RecordRefused r) c l = record { answer = RecordRefused r; order = 0; cells = replicate 2304 0 }

unfoldable pub record_table : List ℕ → RecordTable
record_table bytes = let g = read_of bytes in record_table_by g.answer g.centering (take g.count g.operations)

-- ---- the cells alone, into lent slots
-- The cells of an accepted symbol's table; a refusal has none.
abbrev pub symbol_cells_by : symbol.Answer → Centering → List Operation → List ℕ
symbol_cells_by Group c l = table_of c l
symbol_cells_by (Refused r) c l = []

unfoldable pub symbol_cells : List ℕ → List ℕ
symbol_cells text = let g = symbol_answer text in symbol_cells_by g.answer g.centering (take g.count g.operations)

-- The order of a record that is read, or why it is not.
abbrev pub order_of_record_by : Reading → ℕ → Result ℕ Refusal
order_of_record_by Accepted count = Ok count
order_of_record_by (RecordRefused r) count = Err r

unfoldable pub order_of_record : List ℕ → Result ℕ Refusal
order_of_record bytes = let g = read_of bytes in order_of_record_by g.answer g.count

-- The cells of its table.
abbrev pub record_cells_by : Reading → Centering → List Operation → List ℕ
record_cells_by Accepted c l = table_of c l
record_cells_by (RecordRefused r) c l = []

unfoldable pub record_cells : List ℕ → List ℕ
record_cells bytes = let g = read_of bytes in record_cells_by g.answer g.centering (take g.count g.operations)

-- Cells go to the front of lent slots, and what is behind them stays; without room for all of them nothing is written.
abbrev pub overlaid : List ℕ → List ℕ → List ℕ
overlaid cells lent = cells ++ drop (length cells) lent

unfoldable pub laid : List ℕ → List ℕ → List ℕ
laid cells lent = cond (ltb (length lent) (length cells)) lent (overlaid cells lent)
