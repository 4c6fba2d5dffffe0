-- What the code is lent: bytes that are read as records. Their last bytes are the sheet's items and its letter, so the report can be made from the bytes; and
-- triples that are the smallest of their classes modulo one lattice are in one class exactly if they are equal.
use Rattle.std.proofs.Math.Path.{◌≡◌, refl, sym, ap}
use Rattle.std.proofs.Common.{◌∙◌, ap₂, subst, arith, eq-eqb, ne_eqb, length-append, length-drop, take_at}
use Rattle.std.specs.Prelude.{◌↔◌, Bool, true, ℕ, ◌+◌, ◌*◌, ◌-◌, ◌≤◌, T, get_or, take, replicate, Err, Result}
use Rattle.std.proofs.Math.Option.{some}
use mathlib.Core.List.Memᴰ.{head as here}
use mathlib.Core.List.Memᴰ.{tail as there}
use mathlib.Core.List.{List, [], ◌∷◌, ◌++◌, map, append_assoc, Memᴰ as Mem}
use Rattle.std.proofs.Math.ListN.{length, drop}
use Rattle.std.proofs.lemmas.List.{length-map}
use Rattle.std.proofs.Math.Seq.{drop_at}
use Rattle.laws.specs.LentParts.{tail-part}
use Rattle.laws.specs.Lattice.{same_triple, triple-decides}
use Rattle.laws.specs.Truth.{holds, same_truth}
use Rattle.operation.specs.Meaning.{motion_of}
use Rattle.operation.specs.Product.{identity_operation}
use Rattle.operation.specs.declared.Translation.{Translation}
use Rattle.centering.specs.Lattices.{triple_of, translation_of, smallest_of, congruent_of}
use Rattle.centering.specs.LatticeLaws.{congruent-lattice, Smallest, smallest-is, smallest-same}
use Rattle.centering.specs.declared.Centering.{Centering}
use Rattle.group_record.specs.Acceptance.{Holds, tells-exactly}
use Rattle.group_record.specs.Editions.{from_end, from_end_lem, trailer_bytes, framed, framed-length, framed-items}
use Rattle.group_record.specs.FirstEdition.{first_edition}
use Rattle.group_record.specs.Groups.{Form}
use Rattle.group_record.specs.Items.{Bytes, bytes_of}
use Rattle.group_record.specs.OneRecord.{written-items}
use Rattle.group_record.specs.OperationItems.{item_of, operation_of_item}
use Rattle.group_record.specs.declared.items.Item.{Item}
use Rattle.group_record.specs.Reading.{first_reading, first_rules, first_group_of, read_first_of, refused_group, accepted_group, slots}
use Rattle.group_record.specs.ReadingTests.{GoodItems, form-good}
use Rattle.group_record.specs.Rules.{Told, refused, told_by}
use Rattle.group_record.specs.Rules.{holds as holding}
use Rattle.group_record.specs.declared.Reading.TheVariants.{Accepted, Refused}
use Rattle.group_record.specs.declared.Refusal.{Refusal}
use Rattle.group_record.specs.declared.sign.Sign.{Sign}
use Rattle.record_report.specs.Sheets.{reading_of, operations_in, sheet_of}
use Rattle.record_report.specs.Report.{Entry, entry_bytes, of_pair, against, differences, letters_report, entries_of, report_of}
use Rattle.record_report.specs.Compared.{fitted_answer, fitted, compared_of, buffer_of}
use Rattle.record_report.specs.Cursors.{items_of, same_translation, same_bytes}
use Rattle.record_report.specs.Taking.{record_bytes}
use Rattle.record_report.specs.declared.Incomparable.TheVariants.{First, Second}
use Rattle.record_report.specs.declared.Incomparable.{Incomparable}

-- Bytes that are read as a record.
pub record Read (bytes : List ℕ) : Type 0 where
  pub small : Bytes bytes
  pub accepted : reading_of bytes ≡ Accepted

-- The letter is the fifth byte from the end.
pub sheet-letter : (bytes : List ℕ) → from_end bytes 5 ≡ (sheet_of bytes).letter
unfolding sheet_of
sheet-letter bytes = refl

-- The items are those of the operations.
pub sheet-items : (bytes : List ℕ) → (sheet_of bytes).items ≡ map item_of (operations_in bytes)
unfolding sheet_of
sheet-items bytes = refl

-- ---- what was read
module _ (bytes : List ℕ) (R : Read bytes) where
  -- What was told: a letter, and under it the operations and the lattice that the reader hands back.
  told : (s : Sign) × Holds first_reading bytes tt s (operations_in bytes) × (first_reading.lattice s ≡ (read_first_of bytes).centering)
  unfolding reading_of operations_in read_first_of refused_group accepted_group slots
  told = by (told_by first_rules bytes) refl R.accepted
    where
      by : (t : Told Item Sign (Unit {0})) → told_by first_rules bytes ≡ t → (first_group_of t).answer ≡ Accepted
          → (s : Sign) × Holds first_reading bytes tt s (take (first_group_of t).count (first_group_of t).operations)
          × (first_reading.lattice s ≡ (first_group_of t).centering)
      by (refused r) p a = let z : ◌≡◌ {A = ℕ} 0 1 = cc in absurd (omega arith)
      by (holding k s items) p a =
          let l = map operation_of_item items in (
            s,
            rw (take_at l (replicate (48 - length l) identity_operation) (length l) refl)
                ((tells-exactly first_reading bytes R.small tt s l).0 (items, p, refl)),
            refl,
          )

  -- The letter that was read, and its byte.
  pub sign : Sign
  sign = told.0

  abbrev letter_byte : ℕ
  letter_byte = first_reading.byte sign

  -- The bytes end with the record of its operations, which are in the listed form and allowed.
  held : Holds first_reading bytes tt sign (operations_in bytes)
  unfolding sign
  held = told.1

  pub read-lattice : first_reading.lattice sign ≡ (sheet_of bytes).lattice
  unfolding sign sheet_of
  read-lattice = told.2

  pub read-form : Form (sheet_of bytes).lattice (operations_in bytes)
  read-form = subst (λ (c : Centering). Form c (operations_in bytes)) read-lattice held.form

  -- Codes ascend, and triples are the smallest of their classes.
  pub read-good : GoodItems (sheet_of bytes).lattice (sheet_of bytes).items
  read-good = rw (sheet-items bytes) (form-good (sheet_of bytes).lattice (operations_in bytes) read-form)

  -- The bytes are something, the items and the trailer.
  ended : bytes ≡ held.front ++ framed first_edition letter_byte (sheet_of bytes).items
  unfolding sheet_of
  ended = held.same_bytes ∙ ap (λ (b : List ℕ). held.front ++ b) (written-items first_edition letter_byte (operations_in bytes))

  -- The same, parted before the trailer.
  trailer : List ℕ
  trailer = trailer_bytes 5 1 letter_byte (length (sheet_of bytes).items)

  before-trailer : List ℕ
  before-trailer = held.front ++ bytes_of first_edition.write (sheet_of bytes).items

  by-trailer : bytes ≡ before-trailer ++ trailer
  unfolding framed trailer before-trailer
  by-trailer = ended ∙ sym (append_assoc held.front (bytes_of first_edition.write (sheet_of bytes).items)
      (trailer_bytes 5 1 letter_byte (length (sheet_of bytes).items)))

  letter-byte : from_end bytes 5 ≡ letter_byte
  unfolding trailer
  letter-byte = ap (λ (b : List ℕ). from_end b 5) by-trailer ∙ from_end_lem before-trailer trailer 5 0 refl (omega arith)

  pub read-letter : (sheet_of bytes).letter ≡ first_reading.byte sign
  unfolding sheet_of
  read-letter = letter-byte

  -- The third byte from the end counts the items.
  pub read_count : from_end bytes 3 ≡ length (sheet_of bytes).items
  unfolding trailer
  read_count = ap (λ (b : List ℕ). from_end b 3) by-trailer ∙ from_end_lem before-trailer trailer 3 2 refl (omega arith)

  -- There are 1 to 48 of them,
  pub read-few : (1 ≤ length (sheet_of bytes).items) × (length (sheet_of bytes).items ≤ 48)
  unfolding sheet_of
  read-few = rw (length-map (operations_in bytes) item_of) (rw (length-map (operations_in bytes) motion_of) at held.allowed.count)

  -- within the bytes,
  long : length bytes ≡ length held.front + (5 * length (sheet_of bytes).items + 5)
  long =
      ap length ended ∙ length-append held.front (framed first_edition letter_byte (sheet_of bytes).items)
      ∙ ap (λ (k : ℕ). length held.front + k) (framed-length first_edition letter_byte (sheet_of bytes).items)

  pub read-within : 5 * length (sheet_of bytes).items + 5 ≤ length bytes
  read-within = omega (arith, long)

  -- from where the record begins.
  pub read-items : items_of (length (sheet_of bytes).items) (drop (length bytes - (5 * length (sheet_of bytes).items + 5)) bytes) ≡ (sheet_of bytes).items
  read-items =
      let place : length held.front ≡ length bytes - (5 * length (sheet_of bytes).items + 5) = omega (arith, long) in
      ap (λ (b : List ℕ). items_of (length (sheet_of bytes).items) (drop (length bytes - (5 * length (sheet_of bytes).items + 5)) b)) ended
      ∙ ap (items_of (length (sheet_of bytes).items)) (drop_at held.front (framed first_edition letter_byte (sheet_of bytes).items)
      (length bytes - (5 * length (sheet_of bytes).items + 5)) place)
      ∙ framed-items first_edition letter_byte (sheet_of bytes).items (λ i m. tt)

  -- The byte that counts them, where the code finds it; and the part of the bytes that the code lends from where the record begins.
  abbrev count_byte : ℕ
  count_byte = get_or bytes (length bytes - 3) 0

  abbrev lent_part : List ℕ
  lent_part = take (length bytes - (length bytes - (5 * count_byte + 5))) (drop (length bytes - (5 * count_byte + 5)) bytes)

  pub count-byte : count_byte ≡ length (sheet_of bytes).items
  unfolding from_end
  count-byte = read_count

  part : lent_part ≡ drop (length bytes - (5 * count_byte + 5)) bytes
  part = tail-part bytes (length bytes - (5 * count_byte + 5))

  pub lent_bounds : (count_byte ≤ 48) × (5 * count_byte + 5 ≤ length lent_part)
  lent_bounds = (omega (arith, count-byte, read-few), rw (part, length-drop) (omega (arith, count-byte, read-within)))

  pub lent-items : items_of count_byte lent_part ≡ (sheet_of bytes).items
  lent-items =
      ap (items_of count_byte) part ∙ ap (λ (n : ℕ). items_of n (drop (length bytes - (5 * n + 5)) bytes)) count-byte ∙ read-items

  -- The record's own bytes are the items and the trailer.
  pub record-bytes : record_bytes bytes ≡ framed first_edition (sheet_of bytes).letter (sheet_of bytes).items
  unfolding record_bytes
  record-bytes =
      let place : length held.front ≡ length bytes - (5 * length (sheet_of bytes).items + 5) = omega (arith, long) in
      ap (λ (n : ℕ). drop (length bytes - (5 * n + 5)) bytes) read_count
      ∙ ap (drop (length bytes - (5 * length (sheet_of bytes).items + 5))) ended
      ∙ drop_at held.front (framed first_edition letter_byte (sheet_of bytes).items) (length bytes - (5 * length (sheet_of bytes).items + 5)) place
      ∙ ap (λ (letter : ℕ). framed first_edition letter (sheet_of bytes).items) (sym letter-byte ∙ sheet-letter bytes)

  pub record-items : items_of (from_end bytes 3) (record_bytes bytes) ≡ (sheet_of bytes).items
  unfolding record_bytes
  record-items = ap (λ (n : ℕ). items_of n (drop (length bytes - (5 * n + 5)) bytes)) read_count ∙ read-items

-- One letter has one lattice.
pub one-lattice : (first second : List ℕ) → Read first → Read second → (sheet_of first).letter ≡ (sheet_of second).letter
    → (sheet_of first).lattice ≡ (sheet_of second).lattice
one-lattice first second R S e =
    let G = first_reading.signs in
    let byte : first_reading.byte (sign first R) ≡ first_reading.byte (sign second S) = sym (read-letter first R) ∙ e ∙ read-letter second S in
    let some_same : some (sign first R) ≡ some (sign second S) = sym (G.there (sign first R)) ∙ ap G.from byte ∙ G.there (sign second S) in
    let same : sign first R ≡ sign second S = cc in
    sym (read-lattice first R) ∙ ap first_reading.lattice same ∙ read-lattice second S

-- ---- two tests that agree give the same differences
module _ (p q : Translation → Translation → Bool) where
  against-same : (i : Item) (r t : List Item → List Entry) (s : List Item) → ((u : List Item) → ((j : Item) → Mem j u → Mem j s) → r u ≡ t u)
      → ((j : Item) → Mem j s → p i.translation j.translation ≡ q i.translation j.translation)
      → against p i r s ≡ against q i t s
  unfolding against of_pair
  against-same i r t [] h e = rw (h [] (λ j m. m))
  against-same i r t (j ∷ s) h e =
      rw (h (j ∷ s) (λ k m. m), h s (λ k m. there m), e j (here refl), against-same i r t s (λ u into. h u (λ k m. there (into k m))) (λ k m. e k (there m)))

  pub differences-same : (f s : List Item) → ((i j : Item) → Mem i f → Mem j s → p i.translation j.translation ≡ q i.translation j.translation)
      → differences p f s ≡ differences q f s
  unfolding differences
  differences-same [] s e = refl
  differences-same (i ∷ f) s e =
      against-same i (differences p f) (differences q f) s (λ u into. differences-same f u (λ k j m n. e k j (there m) (into j n))) (λ j m. e i j (here refl) m)

-- ---- smallest triples
-- The test on triples says whether they are equal.
pub same-exactly : (s t : Translation) → (same_translation s t ≡ true) ↔ (s ≡ t)
unfolding same_translation
same-exactly s t = (
  (λ e. ap translation_of (triple-decides.exact (triple_of s) (triple_of t) (holds.1 e))),
  λ e. holds.0 (subst (λ (u : Translation). T (same_triple (triple_of s) (triple_of u))) e (triple-decides.reflexive (triple_of s))),
)

-- Smallest triples are in one class exactly if they are equal.
pub smallest-equal : (c : Centering) (s t : Translation) → Smallest c s s → Smallest c t t → (congruent_of c s t ≡ true) ↔ (s ≡ t)
smallest-equal c s t h k =
    let p = (smallest-is c s s).0 h in
    let q = (smallest-is c t t).0 k in (
      (λ e. p ∙ (smallest-same c s t).0 ((congruent-lattice c s t).0 e) ∙ sym q),
      λ e. (congruent-lattice c s t).1 ((smallest-same c s t).1 (ap (smallest_of c) e)),
    )

-- So it is with the items of two records under one letter.
pub congruent-equal : (first second : List ℕ) → Read first → Read second → (sheet_of first).letter ≡ (sheet_of second).letter → (i j : Item)
    → Mem i (sheet_of first).items → Mem j (sheet_of second).items
    → (congruent_of (sheet_of first).lattice i.translation j.translation ≡ true) ↔ (i.translation ≡ j.translation)
congruent-equal first second R S agree i j m k =
    let t = j.translation in
    let other : Smallest (sheet_of first).lattice t t = subst (λ (d : Centering). Smallest d t t) (sym (one-lattice first second R S agree))
    ((read-good second S).smallest j k) in
    smallest-equal (sheet_of first).lattice i.translation t ((read-good first R).smallest i m) other

-- ---- the report, from the bytes
module _ (first second : List ℕ) (R : Read first) (S : Read second) where
  abbrev report : List ℕ
  report = report_of (sheet_of first) (sheet_of second)

  -- Where the letters' bytes differ they are the report,
  pub letters-differ : ¬ (get_or first (length first - 5) 0 ≡ get_or second (length second - 5) 0)
      → report ≡ letters_report (get_or first (length first - 5) 0) (get_or second (length second - 5) 0)
  unfolding report_of sheet_of from_end
  letters-differ h = rw (ne_eqb (get_or first (length first - 5) 0) (get_or second (length second - 5) 0) h)

  module _ (e : get_or first (length first - 5) 0 ≡ get_or second (length second - 5) 0) where
    letters-agree : (sheet_of first).letter ≡ (sheet_of second).letter
    unfolding sheet_of from_end
    letters-agree = e

    same_tests : (i j : Item) → Mem i (sheet_of first).items → Mem j (sheet_of second).items
        → congruent_of (sheet_of first).lattice i.translation j.translation ≡ same_translation i.translation j.translation
    same_tests i j m k =
        let equal = congruent-equal first second R S letters-agree i j m k in
        same_truth (congruent_of (sheet_of first).lattice i.translation j.translation) (same_translation i.translation j.translation)
        (λ h. (same-exactly i.translation j.translation).1 (equal.0 h)) (λ h. equal.1 ((same-exactly i.translation j.translation).0 h))

    -- and where not, the entries.
    letters-same : report ≡ same_bytes (sheet_of first).items (sheet_of second).items
    unfolding report_of entries_of same_bytes
    letters-same =
        rw (eq-eqb (sheet_of first).letter (sheet_of second).letter letters-agree)
        (ap (bytes_of entry_bytes) (differences-same (congruent_of (sheet_of first).lattice) same_translation (sheet_of first).items (sheet_of second).items
        same_tests))

    pub lent-report : report ≡ same_bytes (items_of (count_byte first R) (lent_part first R)) (items_of (count_byte second S) (lent_part second S))
    lent-report = letters-same ∙ ap₂ same_bytes (sym (lent-items first R)) (sym (lent-items second S))

-- ---- what is answered
module _ (first second out : List ℕ) where
  pub first-refused : (r : Refusal) → reading_of first ≡ Refused r
      → (Err (First r) ≡ compared_of first second (length out)) × (out ≡ buffer_of first second out)
  unfolding compared_of buffer_of
  first-refused r e = rw e (refl, refl)

  module _ (a : reading_of first ≡ Accepted) where
    pub second-refused : (r : Refusal) → reading_of second ≡ Refused r
        → (Err (Second r) ≡ compared_of first second (length out)) × (out ≡ buffer_of first second out)
    unfolding compared_of buffer_of
    second-refused r e = rw (a, e) (refl, refl)

    pub both_read : reading_of second ≡ Accepted → (answer : Result ℕ Incomparable) (after : List ℕ)
        → (answer ≡ fitted_answer (report_of (sheet_of first) (sheet_of second)) (length out))
        × (after ≡ fitted (report_of (sheet_of first) (sheet_of second)) out)
        → (answer ≡ compared_of first second (length out)) × (after ≡ buffer_of first second out)
    unfolding compared_of buffer_of
    both_read e answer after h = rw (a, e) h
