-- The report of two sheets: the two letters, if they differ; else an entry of nine bytes for each rotation that only one of them has, or that both have with
-- translations that differ modulo the first's lattice, in the order of codes.
use Rattle.std.specs.Prelude.{Bool, cond, List, [], ◌∷◌, ◌++◌, map, ℕ, ◌/◌, ◌%◌, ltb, eqb}
use Rattle.operation.specs.declared.Translation.{Translation}
use Rattle.centering.specs.Lattices.{congruent_of}
use Rattle.group_record.specs.Items.{bytes_of}
use Rattle.group_record.specs.declared.items.Item.{Item}
use Rattle.record_report.specs.Sheets.{Sheet}

-- ---- entries
pub record Entry : Type 0 where
  pub kind : ℕ
  pub code : ℕ
  pub first : Translation
  pub second : Translation

-- A triple that is absent.
abbrev pub absent : Translation
absent = record { x = 0; y = 0; z = 0 }

-- 1, only in the first; 2, only in the second; 3, in both.
abbrev pub first_only : Item → Entry
first_only i = record { kind = 1; code = i.code; first = i.translation; second = absent }

abbrev pub second_only : Item → Entry
second_only j = record { kind = 2; code = j.code; first = absent; second = j.translation }

abbrev pub in_both : Item → Item → Entry
in_both i j = record { kind = 3; code = i.code; first = i.translation; second = j.translation }

-- Kind, code, high byte first, the first's triple, the second's.
unfoldable pub entry_bytes : Entry → List ℕ
entry_bytes e =
    e.kind ∷ e.code / 256 ∷ e.code % 256 ∷ e.first.x ∷ e.first.y ∷ e.first.z ∷ e.second.x ∷ e.second.y ∷ e.second.z ∷ []

-- ---- the differences of two lists that ascend by code, for any test whether two translations are the same
module _ (same : Translation → Translation → Bool) where
  -- Of two items with one rotation.
  unfoldable pub of_pair : Item → Item → List Entry
  of_pair i j = cond (same i.translation j.translation) [] (in_both i j ∷ [])

  -- Of an item of the first and those that follow it, whose differences from any list are given, against the second's.
  unfoldable pub against : Item → (List Item → List Entry) → List Item → List Entry
  against i rest [] = first_only i ∷ rest []
  against i rest (j ∷ s) =
      cond (ltb i.code j.code) (first_only i ∷ rest (j ∷ s))
      (cond (ltb j.code i.code) (second_only j ∷ against i rest s) (of_pair i j ++ rest s))

  unfoldable pub differences : List Item → List Item → List Entry
  differences [] s = map second_only s
  differences (i ∷ f) s = against i (differences f) s

-- ---- the report
abbrev pub letters_report : ℕ → ℕ → List ℕ
letters_report a b = a ∷ b ∷ []

-- The entries of two sheets with one letter: translations are the same if they differ by a vector of the first's lattice.
unfoldable pub entries_of : Sheet → Sheet → List Entry
entries_of a b = differences (congruent_of a.lattice) a.items b.items

unfoldable pub report_of : Sheet → Sheet → List ℕ
report_of a b = cond (eqb a.letter b.letter) (bytes_of entry_bytes (entries_of a b)) (letters_report a.letter b.letter)
