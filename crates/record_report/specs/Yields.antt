-- Taking the report to the first record yields the second, and nothing is reported exactly if the records are equal byte for byte.
-- The idea: a list that ascends by code is told by its members, and of what the report does not speak both records hold the same.
use Rattle.std.proofs.Math.Path.{◌≡◌, refl, sym, ap, ap₂}
use Rattle.std.proofs.Common.{◌∙◌, inl, inr, true≢false}
use Rattle.std.specs.Prelude.{◌⊎◌, ◌↔◌, Bool, not, ℕ, ◌+◌, ◌*◌, ◌/◌, ◌%◌, ◌≤◌, T}
use Rattle.std.proofs.Math.Logic.{∥∥₁_elim}
use mathlib.Core.HLevel.{⊥_prop}
use Rattle.std.proofs.Math.Bool.{true, false, cond}
use mathlib.Core.List.Memᴰ.{append_cases}
use mathlib.Core.List.Memᴰ.{append_left as mem-left}
use mathlib.Core.List.Memᴰ.{append_right as mem-right}
use mathlib.Core.List.Memᴰ.{cases_cons as cases}
use mathlib.Core.List.Memᴰ.{cast as mem-cast}
use mathlib.Core.List.Memᴰ.{head as here}
use mathlib.Core.List.Memᴰ.{map as mem-map}
use mathlib.Core.List.Memᴰ.{not-nil}
use mathlib.Core.List.Memᴰ.{of_map as mem-of-map}
use mathlib.Core.List.Memᴰ.{tail as there}
use mathlib.Core.List.Pairwise
use mathlib.Core.List.{List, [], ◌∷◌, ◌++◌, map, append-nil, Memᴰ as Mem, Nodup}
use native.Mathlib.Omega.{arith}
use Rattle.std.proofs.Math.Decide.{ℕ_discrete}
use Rattle.std.proofs.Math.Dec.{eqb}
use borrow.Author.Tests.{eqb-true, eq-eqb, ne_eqb}
use Rattle.std.proofs.Math.ListN.{length}
use Rattle.laws.specs.Distinct.{has, has→Mem, Mem→has, eqb-decides, eqb-equivalence}
use Rattle.laws.specs.Sorted.{sorted-nil, sorted-cons, keep, kept-member, member-kept, sorted-keep, sorted-map, sorted-nodup, key-strict, key-decides, key-total, unique, sort-member, member-sort, sort_sorted}
use Rattle.laws.specs.Truth.{passes-or-fails}
use Rattle.operation.specs.declared.Translation.{Translation}
use Rattle.centering.specs.Lattices.{congruent_of}
use Rattle.group_record.specs.Editions.{from_end, framed, framed-injective}
use Rattle.group_record.specs.FirstEdition.{first_edition}
use Rattle.group_record.specs.Items.{items_in, bytes_of, bytes-length, read-written}
use Rattle.group_record.specs.OperationItems.{item≡}
use Rattle.group_record.specs.declared.items.Item.{Item}
use Rattle.record_report.specs.Sheets.{Sheet, sheet_of}
use Rattle.record_report.specs.Report.{Entry, first_only, second_only, in_both, entry_bytes, differences, letters_report, entries_of, report_of}
use Rattle.record_report.specs.Cursors.{nine-bytes}
use Rattle.record_report.specs.Lent.{Read, read-good, read-few, congruent-equal, sheet-letter, record-bytes, record-items}
use Rattle.record_report.specs.Differences.{Lower, Ascending, EntryLower, Found, first-only, second-only, in-both, listed_found, found-listed, ascends, differences-most}
use Rattle.record_report.specs.Taking.{entry_in, entries_in, entry_codes, stays, brings, brought, lower, taken_items, record_bytes, taken}

-- ---- lists that ascend
-- A code is an item's, or no item's.
among : (l : List Item) (c : ℕ) → ((i : Item) × Mem i l × (i.code ≡ c)) ⊎ ((i : Item) → Mem i l → ¬ (i.code ≡ c))
among [] c = inr (λ i m. absurd (not-nil m))
among (i ∷ l) c = elim (ℕ_discrete i.code c) [
  | yes q ↦ inl (i, here refl, q)
  | no q ↦ elim (among l c) [
    | inl (j, m, r) ↦ inl (j, there m, r)
    | inr none ↦ inr (λ j m r. elim (cases m) [ inl z ↦ q (sym (ap (λ (x : Item). x.code) z) ∙ r) | inr n ↦ none j n r ])
  ]
]

-- An item is told by its code.
told : {l : List Item} → Ascending l → {i j : Item} → Mem i l → Mem j l → i.code ≡ j.code → i ≡ j
told (sorted-cons {x} {l} f s) {i} {j} m n q = elim (cases m) [
  | inl a ↦ elim (cases n) [
    | inl b ↦ a ∙ sym b
    | inr k ↦ let h = f j k in let z = ap (λ (y : Item). y.code) a in absurd (omega arith)
  ]
  | inr k ↦ elim (cases n) [
    | inl b ↦ let h = f i k in let z = ap (λ (y : Item). y.code) b in absurd (omega arith)
    | inr o ↦ told s k o q
  ]
]
told sorted-nil m n q = absurd (not-nil m)

-- Two lists without repeats that share nothing make one.
nodup_append : (l m : List Item) → Nodup l → Nodup m → ((x : Item) → Mem x l → ¬ (Mem x m)) → Nodup (l ++ m)
nodup_append [] m d e apart = e
nodup_append (x ∷ l) m (Pairwise.cons f s) e apart =
    Pairwise.cons (λ y k q. ∥∥₁_elim k ⊥_prop (λ n. elim (append_cases l {t = m} n) [ inl o ↦ f y ∣ o ∣₁ q | inr o ↦ apart x (here refl) (mem-cast q o) ]))
    (nodup_append l m s e (λ y k. apart y (there k)))

-- ---- items
module _ (same : Translation → Translation → Bool) (f s : List Item) (F : Ascending f) (S : Ascending s)
    (exact : (i j : Item) → Mem i f → Mem j s → same i.translation j.translation ≡ true → i.translation ≡ j.translation) where
  abbrev D : List Entry
  D = differences same f s

  -- An entry that is listed has a code that does not stay.
  spoken : (e : Entry) → Mem e D → (i : Item) → e.code ≡ i.code → ¬ (stays D i ≡ true)
  spoken e m i q h = not-both (has eqb i.code (entry_codes D)) (Mem→has eqb eqb-equivalence (mem-cast (sym q) (mem-map (λ (d : Entry). d.code) m))) h
    where
      not-both : (b : Bool) → T b → ¬ (not b ≡ true)
      not-both true t h = true≢false (sym h)
      not-both false t h = elim t [ ]

  -- What no entry speaks of stays.
  unspoken : (i : Item) → ((e : Entry) → Mem e D → ¬ (e.code ≡ i.code)) → stays D i ≡ true
  unspoken i none = by (has eqb i.code (entry_codes D)) (λ t. let (e, m, q) = mem-of-map (λ (d : Entry). d.code) D (has→Mem eqb eqb-decides t) in none e m q)
    where
      by : (b : Bool) → ¬ T b → not b ≡ true
      by true h = absurd (h tt)
      by false h = refl

  -- An item of the first that stays is in the second,
  stayed : (z : Item) → Mem z f → stays D z ≡ true → Mem z s
  stayed z m h = elim (among s z.code) [
    | inl (j, n, q) ↦ elim (passes-or-fails (same z.translation j.translation)) [
      | inl e ↦ mem-cast (item≡ (sym q) (exact z j m n e)) n
      | inr e ↦ absurd (spoken (in_both z j) (found-listed same f s F S _ (in-both z j m n (sym q) e)) z refl h)
    ]
    | inr none ↦ absurd (spoken (first_only z) (found-listed same f s F S _ (first-only z m (λ j n q. none j n (sym q)))) z refl h)
  ]

  -- and so is what an entry brings.
  come : (e : Entry) → Found same f s e → brings e ≡ true → Mem (brought e) s
  come e (first-only i m none) h = absurd (true≢false (sym h))
  come e (second-only j m none) h = m
  come e (in-both i j m n q d) h = mem-cast (item≡ q refl) n

  into : (z : Item) → Mem z (keep (stays D) f ++ map brought (keep brings D)) → Mem z s
  into z m = elim (append_cases (keep (stays D) f) m) [
    | inl k ↦ let (n, h) = kept-member (stays D) f k in stayed z n h
    | inr k ↦
        let (e, n, q) = mem-of-map brought (keep brings D) k in
        let (o, h) = kept-member brings D n in
        mem-cast (sym q) (come e (listed_found same f s F S e o) h)
  ]

  -- An item of the second stayed or came.
  bring : (e : Entry) (z : Item) → Found same f s e → brings e ≡ true → brought e ≡ z → Mem z (keep (stays D) f ++ map brought (keep brings D))
  bring e z found h q = mem-right (keep (stays D) f) (mem-cast (sym q) (mem-map brought (member-kept brings D (found-listed same f s F S e found) h)))

  -- No entry has the code of what both hold.
  shared : (i z : Item) → Mem i f → Mem z s → i.code ≡ z.code → same i.translation z.translation ≡ true → (e : Entry) → Found same f s e
      → ¬ (e.code ≡ z.code)
  shared i z m n q h e (first-only k o none) r = none z n r
  shared i z m n q h e (second-only l o none) r = none i m (q ∙ sym r)
  shared i z m n q h e (in-both k l o p r d) w =
      let one = told F m o (q ∙ sym w) in
      let two = told S n p (sym w ∙ r) in
      true≢false (sym h ∙ ap₂ (λ (a b : Item). same a.translation b.translation) one two ∙ d)

  back : (z : Item) → Mem z s → Mem z (keep (stays D) f ++ map brought (keep brings D))
  back z n = elim (among f z.code) [
    | inl (i, m, q) ↦ elim (passes-or-fails (same i.translation z.translation)) [
      | inl h ↦
          let one : i ≡ z = item≡ q (exact i z m n h) in
          mem-left {s = keep (stays D) f} (map brought (keep brings D))
          (member-kept (stays D) f (mem-cast (sym one) m) (unspoken z (λ e o. shared i z m n q h e (listed_found same f s F S e o))))
      | inr h ↦ bring (in_both i z) z (in-both i z m n q h) refl (item≡ q refl)
    ]
    | inr none ↦ bring (second_only z) z (second-only z n none) refl refl
  ]

  -- What stays and what comes share nothing,
  apart : (z : Item) → Mem z (keep (stays D) f) → ¬ (Mem z (map brought (keep brings D)))
  apart z m k =
      let (o, h) = kept-member (stays D) f m in
      let (e, n, q) = mem-of-map brought (keep brings D) k in
      spoken e (kept-member brings D n).0 z (ap (λ (i : Item). i.code) q) h

  -- so they are sorted by insertion,
  ordered : Ascending (taken_items D f)
  unfolding taken_items
  ordered =
      sort_sorted Lower (λ z. Mem z s) lower (key-decides (λ (i : Item). i.code) (λ z. Mem z s)) (key-strict (λ (i : Item). i.code))
      (key-total (λ (i : Item). i.code) (λ z. Mem z s) (λ x y h k q. told S h k q))
      (keep (stays D) f ++ map brought (keep brings D)) into
      (nodup_append (keep (stays D) f) (map brought (keep brings D)) (sorted-nodup Lower (key-strict (λ (i : Item). i.code)) (sorted-keep Lower (stays D) F))
      (sorted-nodup Lower (key-strict (λ (i : Item). i.code))
      (sorted-map EntryLower Lower brought (λ d e h. h) (sorted-keep EntryLower brings (ascends same f s F S)))) apart)

  -- and are the second's items.
  pub items-taken : taken_items D f ≡ s
  unfolding taken_items
  items-taken =
      unique Lower (key-strict (λ (i : Item). i.code)) ordered S
      (λ z m. into z (sort-member lower (keep (stays D) f ++ map brought (keep brings D)) m))
      (λ z m. member-sort lower (keep (stays D) f ++ map brought (keep brings D)) (back z m))

-- A list without members is empty.
no-members : (l : List Entry) → ((e : Entry) → ¬ (Mem e l)) → l ≡ []
no-members [] none = refl
no-members (e ∷ l) none = absurd (none e (here refl))

-- A list does not differ from itself.
pub self-same : (same : Translation → Translation → Bool) (f : List Item) → Ascending f →
    ((i : Item) → Mem i f → same i.translation i.translation ≡ true) → differences same f f ≡ []
self-same same f F reflexive = no-members (differences same f f) (λ e m. by e (listed_found same f f F F e m))
  where
    by : (e : Entry) → ¬ (Found same f f e)
    by e (first-only i m none) = none i m refl
    by e (second-only j m none) = none j m refl
    by e (in-both i j m n q d) =
        let one = told F m n q in
        true≢false (sym (reflexive i m) ∙ ap (λ (x : Item). same i.translation x.translation) one ∙ d)

-- ---- a report's bytes
-- An entry's bytes say the entry,
entry-again : (e : Entry) (more : List ℕ) → entry_in (entry_bytes e ++ more) ≡ e
unfolding entry_in entry_bytes
entry-again e more =
    let code : (e.code / 256) * 256 + e.code % 256 ≡ e.code = omega arith in
    λ k. record { kind = e.kind; code = code k; first = e.first; second = e.second }

-- and a report's bytes its entries.
pub entries-again : (l : List Entry) → entries_in (bytes_of entry_bytes l) ≡ l
unfolding entries_in
entries-again l =
    let long = bytes-length 9 entry_bytes nine-bytes l in
    let count : length (bytes_of entry_bytes l) / 9 ≡ length l = omega arith in
    ap₂ (λ (n : ℕ) (b : List ℕ). items_in 9 entry_in n b) count (sym (append-nil (bytes_of entry_bytes l)))
    ∙ read-written 9 entry_bytes nine-bytes entry_in l [] (λ e more m. entry-again e more)

-- ---- records
module _ (first second : List ℕ) (R : Read first) (S : Read second) where
  abbrev a : Sheet
  a = sheet_of first

  abbrev b : Sheet
  b = sheet_of second

  module _ (agree : a.letter ≡ b.letter) where
    -- The report is its entries.
    pub entries-report : report_of a b ≡ bytes_of entry_bytes (entries_of a b)
    unfolding report_of
    entries-report = rw (eq-eqb a.letter b.letter agree)

    -- Taking the report to the first record yields the second.
    pub report-takes : taken (report_of a b) first ≡ record_bytes second
    unfolding taken entries_of
    report-takes =
        ap₂ (λ (entries : List Entry) (items : List Item). framed first_edition (from_end first 5) (taken_items entries items))
        (ap entries_in entries-report ∙ entries-again (entries_of a b)) (record-items first R)
        ∙ ap (framed first_edition (from_end first 5))
        (items-taken (congruent_of a.lattice) a.items b.items (read-good first R).ascend (read-good second S).ascend
        (λ i j m n. (congruent-equal first second R S agree i j m n).0))
        ∙ ap (λ (letter : ℕ). framed first_edition letter b.items) (sheet-letter first ∙ agree)
        ∙ sym (record-bytes second S)

  same-lattice : (i : Item) → Mem i a.items → congruent_of a.lattice i.translation i.translation ≡ true
  same-lattice i m = (congruent-equal first first R R refl i i m m).1 refl

  no-entries : differences (congruent_of a.lattice) a.items a.items ≡ []
  no-entries = self-same (congruent_of a.lattice) a.items (read-good first R).ascend same-lattice

  nothing_written : (l : List Entry) → bytes_of entry_bytes l ≡ [] → l ≡ []
  unfolding bytes_of
  nothing_written l e = sym (entries-again l) ∙ ap entries_in e ∙ entries-again []

  empty-letters : report_of a b ≡ [] → a.letter ≡ b.letter
  unfolding report_of
  empty-letters e = by (eqb a.letter b.letter) refl e
    where
      by : (t : Bool) → eqb a.letter b.letter ≡ t → cond t (bytes_of entry_bytes (entries_of a b)) (letters_report a.letter b.letter) ≡ []
          → a.letter ≡ b.letter
      by true q e = eqb-true a.letter b.letter q
      by false q e = let z : ◌≡◌ {A = ℕ} 2 0 = ap length e in absurd (omega arith)

  -- Nothing is reported exactly if the records are equal byte for byte.
  pub nothing-equal : (report_of a b ≡ []) ↔ (record_bytes first ≡ record_bytes second)
  unfolding entries_of bytes_of
  nothing-equal = (forth, back-again)
    where
      forth : report_of a b ≡ [] → record_bytes first ≡ record_bytes second
      forth e =
          let agree = empty-letters e in
          let c = congruent_of a.lattice in
          let none : entries_of a b ≡ [] = nothing_written (entries_of a b) (sym (entries-report agree) ∙ e) in
          let itself = items-taken c a.items a.items (read-good first R).ascend (read-good first R).ascend
          (λ i j m n. (congruent-equal first first R R refl i j m n).0) in
          let other = items-taken c a.items b.items (read-good first R).ascend (read-good second S).ascend
          (λ i j m n. (congruent-equal first second R S agree i j m n).0) in
          let items : a.items ≡ b.items = sym itself ∙ ap (λ (l : List Entry). taken_items l a.items) (no-entries ∙ sym none) ∙ other in
          record-bytes first R ∙ ap₂ (framed first_edition) agree items ∙ sym (record-bytes second S)

      back-again : record_bytes first ≡ record_bytes second → report_of a b ≡ []
      back-again e =
          let (agree, items) = framed-injective first_edition a.letter b.letter a.items b.items (λ i m. tt) (λ i m. tt)
          (sym (record-bytes first R) ∙ e ∙ record-bytes second S) in
          entries-report agree ∙ ap (bytes_of entry_bytes) (ap (differences (congruent_of a.lattice) a.items) (sym items) ∙ no-entries)

  -- The letters are reported exactly if they differ, and nothing else then.
  pub letters-only : (report_of a b ≡ letters_report a.letter b.letter) ↔ (¬ (a.letter ≡ b.letter))
  unfolding report_of
  letters-only = (
    (λ e agree.
        let nine = bytes-length 9 entry_bytes nine-bytes (entries_of a b) in
        let two : length (bytes_of entry_bytes (entries_of a b)) ≡ 2 = ap length (sym (entries-report agree) ∙ e) in
        absurd (omega arith)),
    λ differ. rw (ne_eqb a.letter b.letter differ),
  )

  -- A report has at most 864 bytes.
  pub report-short : length (report_of a b) ≤ 864
  unfolding report_of entries_of
  report-short = by (eqb a.letter b.letter)
    where
      by : (t : Bool) → length (cond t (bytes_of entry_bytes (entries_of a b)) (letters_report a.letter b.letter)) ≤ 864
      by true =
          omega (
            arith,
            bytes-length 9 entry_bytes nine-bytes (entries_of a b),
            differences-most (congruent_of a.lattice) a.items b.items,
            read-few
                first R,
            read-few second S,
          )
      by false = omega arith
