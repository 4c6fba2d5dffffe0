-- How the code goes through two records' items with a cursor in each: what the step at two cursors finds, the bytes that it writes, and that what is left of
-- the report is this and what is left behind it.
use Rattle.std.specs.Prelude.{◌≡◌, refl, Bool, cond, Option, Some, None, ℕ, ◌+◌, ◌*◌, ◌<◌, ◌≤◌, ltb, eqb, length, get_or}
use Rattle.std.proofs.Common.{sym, ◌∙◌, ap, arith, add-one, get_or-drop}
use Rattle.std.proofs.Math.Path.{ap₂}
use Rattle.std.proofs.Math.Bool.{true, false}
use mathlib.Core.List.{List, [], ◌∷◌, ◌++◌}
use Rattle.std.proofs.Math.Decide.{dec_lt}
use borrow.Author.Tests.{lt-ltb, le-ltb, eqb-true, ne_eqb}
use Rattle.std.proofs.Math.ListN.{drop}
use Rattle.std.proofs.Math.Seq.{drop-cons, drop-length}
use Rattle.laws.specs.Lattice.{same_triple}
use Rattle.operation.specs.declared.Translation.{Translation}
use Rattle.centering.specs.Lattices.{triple_of}
use Rattle.group_record.specs.Items.{Bytes, items_in, bytes_of, items-length, item-at}
use Rattle.group_record.specs.FirstEdition.{item_in}
use Rattle.group_record.specs.declared.items.Item.{Item}
use Rattle.record_report.specs.Report.{Entry, absent, entry_bytes, of_pair, against, differences}
use Rattle.record_report.specs.declared.cursors.Difference.{Difference}
use Rattle.record_report.specs.declared.cursors.Difference.TheVariants.{First, Second, Both}

-- ---- items in bytes
-- The first n items, five bytes each, and the item at a place.
abbrev pub items_of : ℕ → List ℕ → List Item
items_of n bytes = items_in 5 item_in n bytes

unfoldable pub item_at : List ℕ → ℕ → Item
item_at bytes i = item_in (drop (5 * i) bytes)

module _ (n : ℕ) (bytes : List ℕ) where
  items-count : length (items_of n bytes) ≡ n
  items-count = items-length 5 item_in n bytes

  -- The first of what is left.
  next-item : (i : ℕ) → i < n → drop i (items_of n bytes) ≡ item_at bytes i ∷ drop (i + 1) (items_of n bytes)
  unfolding item_at
  next-item i h =
      drop-cons (items_of n bytes) i (item_in []) (omega (arith, items-count))
      ∙ ap₂ (λ (a : Item) (r : List Item). a ∷ r) (item-at 5 item_in n bytes i (item_in []) h) (ap (λ (k : ℕ). drop k (items_of n bytes)) (sym (add-one i)))

  none_left : (i : ℕ) → n ≤ i → i ≤ n → drop i (items_of n bytes) ≡ []
  none_left i h k =
      let end : i ≡ length (items_of n bytes) = omega (arith, items-count) in
      ap (λ (j : ℕ). drop j (items_of n bytes)) end ∙ drop-length (items_of n bytes)

byte_at : (bytes : List ℕ) (i j : ℕ) → get_or (drop (5 * i) bytes) j 0 ≡ get_or bytes (5 * i + j) 0
byte_at bytes i j = get_or-drop (5 * i) bytes j 0

pub code-bytes : (bytes : List ℕ) (i : ℕ) → get_or bytes (5 * i) 0 * 256 + get_or bytes (5 * i + 1) 0 ≡ (item_at bytes i).code
unfolding item_at item_in
code-bytes bytes i =
    let first : 5 * i + 0 ≡ 5 * i = omega arith in
    ap₂ (λ (a b : ℕ). a * 256 + b) (ap (λ (k : ℕ). get_or bytes k 0) (sym first) ∙ sym (byte_at bytes i 0)) (sym (byte_at bytes i 1))

pub translation-bytes : (bytes : List ℕ) (i : ℕ)
    → record { x = get_or bytes (5 * i + 2) 0; y = get_or bytes (5 * i + 3) 0; z = get_or bytes (5 * i + 4) 0 } ≡ (item_at bytes i).translation
unfolding item_at item_in
translation-bytes bytes i = rw (byte_at bytes i 2, byte_at bytes i 3, byte_at bytes i 4)

-- A code of two bytes.
pub code-small : (bytes : List ℕ) (i : ℕ) → Bytes bytes → (item_at bytes i).code < 65536
code-small bytes i b = omega (arith, code-bytes bytes i, b (5 * i), b (5 * i + 1))

-- ---- the step
-- One triple.
unfoldable pub same_translation : Translation → Translation → Bool
same_translation s t = same_triple (triple_of s) (triple_of t)

-- The kind of the difference at the heads of two lists; 0 where there is none.
unfoldable pub kind_of : (Translation → Translation → Bool) → List Item → List Item → ℕ
kind_of same f [] = 1
kind_of same [] (j ∷ s) = 2
kind_of same (i ∷ f) (j ∷ s) =
    cond (ltb i.code j.code) 1 (cond (ltb j.code i.code) 2 (cond (same i.translation j.translation) 0 3))

-- The kind of what the code finds.
abbrev pub number_of : Difference → ℕ
number_of First = 1
number_of Second = 2
number_of Both = 3

abbrev pub kind_of_difference : Option Difference → ℕ
kind_of_difference None = 0
kind_of_difference (Some d) = number_of d

-- The entry of a kind, from the items at the heads.
abbrev pub entry_code : ℕ → Item → Item → ℕ
entry_code kind i j = cond (eqb kind 2) j.code i.code

abbrev pub triple_unless : Bool → Item → Translation
triple_unless without i = cond without absent i.translation

abbrev pub entry_at : ℕ → Item → Item → Entry
entry_at kind i j = record { kind = kind; code = entry_code kind i j; first = triple_unless (eqb kind 2) i; second = triple_unless (eqb kind 1) j }

-- Its bytes: none where nothing differs.
unfoldable pub bytes_at : ℕ → Item → Item → List ℕ
bytes_at kind i j = cond (eqb kind 0) [] (entry_bytes (entry_at kind i j))

-- The report's bytes, the triples themselves compared.
unfoldable pub same_bytes : List Item → List Item → List ℕ
same_bytes f s = bytes_of entry_bytes (differences same_translation f s)

-- Those of n items and m, in bytes.
abbrev pub bytes_between : List ℕ → ℕ → List ℕ → ℕ → List ℕ
bytes_between first n second m = same_bytes (items_of n first) (items_of m second)

-- Where a cursor goes: on, unless the kind is that at which it stays.
abbrev pub on_unless : ℕ → ℕ → ℕ → ℕ
on_unless i kind stays = cond (eqb kind stays) i (i + 1)

-- ---- what the step finds, by the tests of the code
module _ (first second : List ℕ) (n m i j : ℕ) where
  abbrev Left : List Item
  Left = drop i (items_of n first)

  abbrev Right : List Item
  Right = drop j (items_of m second)

  abbrev Kind : ℕ
  Kind = kind_of same_translation Left Right

  -- The second's items are at their end,
  pub second_ended : j ≤ m → m ≤ j → Kind ≡ 1
  unfolding kind_of
  second_ended h k = rw (none_left m second j k h)

  -- or the first's are,
  pub first_ended : i ≤ n → n ≤ i → j < m → Kind ≡ 2
  unfolding kind_of
  first_ended h k l = rw (none_left n first i k h, next-item m second j l)

  module _ (within : i < n) (inside : j < m) (code other : ℕ) (p : code ≡ (item_at first i).code) (q : other ≡ (item_at second j).code) where
    -- or the codes decide,
    pub first-lower : code < other → Kind ≡ 1
    unfolding kind_of
    first-lower h = rw (next-item n first i within, next-item m second j inside, lt-ltb (item_at first i).code (item_at second j).code (omega arith))

    pub second-lower : other < code → Kind ≡ 2
    unfolding kind_of
    second-lower h =
        rw (
          next-item n first i within,
          next-item m second j inside,
          le-ltb (item_at first i).code (item_at second j).code (omega arith),
          lt-ltb
              (item_at second j).code (item_at first i).code (omega arith),
        )

    -- or the triples.
    pub one_code : other ≤ code → code ≤ other → (b : Bool) → b ≡ same_translation (item_at first i).translation (item_at second j).translation
        → Kind ≡ cond b 0 3
    unfolding kind_of
    one_code h k b e =
        rw (
          next-item n first i within,
          next-item m second j inside,
          le-ltb (item_at first i).code (item_at second j).code (omega arith),
          le-ltb
              (item_at second j).code (item_at first i).code (omega arith),
          ← e,
        )

-- ---- what is left of the report
-- Behind the step each list is as it was or one item shorter.
module _ (a b : Item) (f s : List Item) where
  abbrev both-kind : ℕ
  both-kind = kind_of same_translation (a ∷ f) (b ∷ s)

  by_tests : (t u v : Bool) → ltb a.code b.code ≡ t → ltb b.code a.code ≡ u → same_translation a.translation b.translation ≡ v
      → same_bytes (a ∷ f) (b ∷ s) ≡ bytes_at both-kind a b ++ same_bytes (cond (eqb both-kind 2) (a ∷ f) f) (cond (eqb both-kind 1) (b ∷ s) s)
  unfolding same_bytes bytes_of differences against of_pair kind_of bytes_at
  by_tests true u v p q r = rw p
  by_tests false true v p q r = rw (p, q)
  by_tests false false true p q r = rw (p, q, r)
  by_tests false false false p q r = rw (p, q, r)

  both_left : same_bytes (a ∷ f) (b ∷ s) ≡ bytes_at both-kind a b ++ same_bytes (cond (eqb both-kind 2) (a ∷ f) f) (cond (eqb both-kind 1) (b ∷ s) s)
  both_left = by_tests (ltb a.code b.code) (ltb b.code a.code) (same_translation a.translation b.translation) refl refl refl

first-left : (a b : Item) (f : List Item) → same_bytes (a ∷ f) [] ≡ bytes_at 1 a b ++ same_bytes f []
unfolding same_bytes bytes_of differences against bytes_at
first-left a b f = refl

second-left : (a b : Item) (s : List Item) → same_bytes [] (b ∷ s) ≡ bytes_at 2 a b ++ same_bytes [] s
unfolding same_bytes bytes_of differences bytes_at
second-left a b s = refl

drop-by : (t : Bool) (i : ℕ) (l : List Item) → drop (cond t i (i + 1)) l ≡ cond t (drop i l) (drop (i + 1) l)
drop-by true i l = refl
drop-by false i l = refl

module _ (first second : List ℕ) (n m i j : ℕ) (within : i ≤ n) (inside : j ≤ m) (more : i + j < n + m) (kind : ℕ)
    (e : kind ≡ kind_of same_translation (drop i (items_of n first)) (drop j (items_of m second))) where
  -- What is left of the report is what the step finds, and what is left behind it.
  pub step : same_bytes (drop i (items_of n first)) (drop j (items_of m second))
      ≡ bytes_at kind (item_at first i) (item_at second j) ++ same_bytes (drop (on_unless i kind 2) (items_of n first))
      (drop (on_unless j kind 1) (items_of m second))
  step = elim (dec_lt i n) [
    | yes h ↦ elim (dec_lt j m) [
      | yes k ↦
          rw (drop-by (eqb kind 2) i (items_of n first), drop-by (eqb kind 1) j (items_of m second), e, next-item n first i h, next-item m second j k)
          (both_left (item_at first i) (item_at second j) (drop (i + 1) (items_of n first)) (drop (j + 1) (items_of m second)))
      | no k ↦
          let ended : kind ≡ 1 = e ∙ second_ended first second n m i j inside (omega arith) in
          rw (ended, none_left m second j (omega arith) inside, next-item n first i h)
          (first-left (item_at first i) (item_at second j) (drop (i + 1) (items_of n first)))
    ]
    | no h ↦
        let ended : kind ≡ 2 = e ∙ first_ended first second n m i j within (omega arith) (omega arith) in
        rw (ended, none_left n first i (omega arith) within, next-item m second j (omega arith))
        (second-left (item_at first i) (item_at second j) (drop (j + 1) (items_of m second)))
  ]

  -- Each cursor stays within its items, and one goes on.
  pub step-within : (on_unless i kind 2 ≤ n) × (on_unless j kind 1 ≤ m) × (i + j < on_unless i kind 2 + on_unless j kind 1)
  step-within = elim (dec_lt i n) [
    | yes h ↦ elim (dec_lt j m) [
      | yes k ↦ by (eqb kind 2) (eqb kind 1) refl refl h k
      | no k ↦ let ended : kind ≡ 1 = e ∙ second_ended first second n m i j inside (omega arith) in rw ended (omega arith)
    ]
    | no h ↦ let ended : kind ≡ 2 = e ∙ first_ended first second n m i j within (omega arith) (omega arith) in rw ended (omega arith)
  ]
    where
      by : (t u : Bool) → eqb kind 2 ≡ t → eqb kind 1 ≡ u → i < n → j < m → (cond t i (i + 1) ≤ n) × (cond u j (j + 1) ≤ m)
          × (i + j < cond t i (i + 1) + cond u j (j + 1))
      by true true p q h k = let a = eqb-true kind 2 p in let b = eqb-true kind 1 q in absurd (omega arith)
      by true false p q h k = (omega arith, omega arith, omega arith)
      by false true p q h k = (omega arith, omega arith, omega arith)
      by false false p q h k = (omega arith, omega arith, omega arith)

-- Behind the last step nothing is left.
pub all_left : (first second : List ℕ) (n m i j : ℕ) → i ≤ n → j ≤ m → n + m ≤ i + j → same_bytes (drop i (items_of n first)) (drop j (items_of m second)) ≡ []
unfolding same_bytes differences bytes_of
all_left first second n m i j h k l = rw (none_left n first i (omega arith) h, none_left m second j (omega arith) k)

-- A step's bytes are nine, or none.
pub step-length : (kind : ℕ) (a b : Item) → length (bytes_at kind a b) ≡ cond (eqb kind 0) 0 9
unfolding bytes_at entry_bytes
step-length kind a b = by (eqb kind 0)
  where
    by : (t : Bool) → length (cond t [] (entry_bytes (entry_at kind a b))) ≡ cond t 0 9
    by true = refl
    by false = refl

-- Where there is none, nothing is written,
pub none-at : (kind : ℕ) (a b : Item) → kind ≡ 0 → bytes_at kind a b ≡ []
unfolding bytes_at
none-at kind a b e = rw e

-- and else the entry.
pub some_at : (kind : ℕ) (a b : Item) → ¬ (kind ≡ 0) → bytes_at kind a b ≡ entry_bytes (entry_at kind a b)
unfolding bytes_at
some_at kind a b h = rw (ne_eqb kind 0 h)

-- It has the code of one of the two.
pub entry-code-small : (kind : ℕ) (a b : Item) → a.code < 65536 → b.code < 65536 → entry_code kind a b < 65536
entry-code-small kind a b h k = by (eqb kind 2)
  where
    by : (t : Bool) → cond t b.code a.code < 65536
    by true = k
    by false = h

pub nine-bytes : (e : Entry) → length (entry_bytes e) ≡ 9
unfolding entry_bytes
nine-bytes e = refl
