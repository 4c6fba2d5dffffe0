-- The report taken to the first record: what an entry speaks of goes, what it brings comes, in the order of codes, and the trailer is made anew.
use Rattle.std.specs.Prelude.{Bool, not, List, ◌++◌, map, ℕ, ◌+◌, ◌*◌, ◌-◌, ◌/◌, eqb, ltb, length, get_or, drop}
use Rattle.laws.specs.Distinct.{has}
use Rattle.laws.specs.Sorted.{keep, sort}
use Rattle.group_record.specs.Editions.{from_end, framed}
use Rattle.group_record.specs.FirstEdition.{first_edition}
use Rattle.group_record.specs.Items.{items_in}
use Rattle.group_record.specs.declared.items.Item.{Item}
use Rattle.record_report.specs.Report.{Entry}
use Rattle.record_report.specs.Cursors.{items_of}

-- ---- a report's entries
-- The entry of the first nine bytes.
unfoldable pub entry_in : List ℕ → Entry
entry_in b =
    record {
      kind = get_or b 0 0;
      code = get_or b 1 0 * 256 + get_or b 2 0;
      first = record { x = get_or b 3 0; y = get_or b 4 0; z = get_or b 5 0 };
      second = record { x = get_or b 6 0; y = get_or b 7 0; z = get_or b 8 0 };
    }

unfoldable pub entries_in : List ℕ → List Entry
entries_in report = items_in 9 entry_in (length report / 9) report

-- ---- taken to items
abbrev pub entry_codes : List Entry → List ℕ
entry_codes entries = map (λ (e : Entry). e.code) entries

-- An item stays unless an entry has its code.
abbrev pub stays : List Entry → Item → Bool
stays entries i = not (has eqb i.code (entry_codes entries))

-- Kinds 2 and 3 bring an item: the code, with the second's triple.
abbrev pub brings : Entry → Bool
brings e = not (eqb e.kind 1)

abbrev pub brought : Entry → Item
brought e = record { code = e.code; translation = e.second }

abbrev pub lower : Item → Item → Bool
lower i j = ltb i.code j.code

unfoldable pub taken_items : List Entry → List Item → List Item
taken_items entries items = sort lower (keep (stays entries) items ++ map brought (keep brings entries))

-- ---- taken to a record
-- The bytes of the record that a buffer ends with: five for each operation that it counts, and the trailer.
unfoldable pub record_bytes : List ℕ → List ℕ
record_bytes bytes = drop (length bytes - (5 * from_end bytes 3 + 5)) bytes

unfoldable pub taken : List ℕ → List ℕ → List ℕ
taken report bytes = framed first_edition (from_end bytes 5) (taken_items (entries_in report) (items_of (from_end bytes 3) (record_bytes bytes)))
