-- Reports byte for byte, computed: of `-P 1` and `P 1`, of `P 2` and `P 21`, and of two letters.
use Rattle.std.specs.Prelude.{◌≡◌, refl, List, [], ◌∷◌, ℕ}
use Rattle.laws.specs.Distinct.{has}
use Rattle.laws.specs.Lattice.{same_triple}
use Rattle.laws.specs.Matrix.{plus, opposite}
use Rattle.laws.specs.Residue.{residue}
use Rattle.operation.specs.Meaning.{vector_of}
use Rattle.centering.specs.Lattices.{congruent_of}
use Rattle.centering.specs.declared.Centering.{Centering}
use Rattle.centering.specs.declared.Centering.TheVariants.{P, I}
use Rattle.group_record.specs.Items.{bytes_of}
use Rattle.group_record.specs.declared.items.Item.{Item}
use Rattle.record_report.specs.Sheets.{Sheet}
use Rattle.record_report.specs.Report.{entry_bytes, of_pair, against, differences, entries_of, report_of}

-- An item with a translation along z.
abbrev item : ℕ → ℕ → Item
item code z = record { code = code; translation = record { x = 0; y = 0; z = z } }

abbrev sheet : ℕ → Centering → List Item → Sheet
sheet letter c items = record { letter = letter; lattice = c; items = items }

-- The inversion is only in the first.
pub inversion-lost : report_of (sheet 80 P (item 3198 0 ∷ item 16484 0 ∷ [])) (sheet 80 P (item 16484 0 ∷ [])) ≡ 1 ∷ 12 ∷ 126 ∷ 0 ∷ 0 ∷ 0 ∷ 0 ∷ 0 ∷ 0 ∷ []
unfolding report_of entries_of differences against of_pair entry_bytes bytes_of congruent_of has same_triple vector_of plus opposite residue
inversion-lost = refl

-- The rotation about z is a screw in the second.
pub screw : report_of (sheet 80 P (item 3200 0 ∷ item 16484 0 ∷ [])) (sheet 80 P (item 3200 6 ∷ item 16484 0 ∷ [])) ≡ 3 ∷ 12 ∷ 128 ∷ 0 ∷ 0 ∷ 0 ∷ 0 ∷ 0 ∷ 6 ∷ []
unfolding report_of entries_of differences against of_pair entry_bytes bytes_of congruent_of has same_triple vector_of plus opposite residue
screw = refl

-- Other letters, and nothing else.
pub other-letters : report_of (sheet 80 P (item 16484 0 ∷ [])) (sheet 73 I (item 3198 0 ∷ item 16484 0 ∷ [])) ≡ 80 ∷ 73 ∷ []
unfolding report_of
other-letters = refl
