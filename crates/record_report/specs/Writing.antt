-- How the report comes about step by step: how long it is so far, and what the lent buffer holds; behind the last step it is the whole report.
use Rattle.std.specs.Prelude.{◌≡◌, refl, Bool, true, false, cond, List, [], ◌∷◌, ◌++◌, ℕ, ◌+◌, ◌*◌, ◌-◌, ◌<◌, ◌≤◌, eqb, length, take, drop, set, Err, Ok}
use Rattle.std.proofs.Common.{sym, ◌∙◌, ap, ap₂, append_assoc, append-nil, arith, lt-ltb, le-ltb, length-append, take-append-drop, take_at, drop_at, drop-drop, length-take-le}
use borrow.Rule.Slice.PartMut.{put_mid}
use Rattle.laws.specs.LentParts.{put-at}
use Rattle.operation.specs.declared.Translation.{Translation}
use Rattle.group_record.specs.declared.items.Item.{Item}
use Rattle.record_report.specs.Report.{entry_bytes}
use Rattle.record_report.specs.Compared.{fitted_answer, fitted}
use Rattle.record_report.specs.Cursors.{items_of, item_at, same_translation, kind_of, bytes_at, same_bytes, on_unless, entry_code, triple_unless, entry_at, step, step-within, step-length, all_left, some_at, nine-bytes}
use Rattle.record_report.specs.declared.Incomparable.TheVariants.{NoRoom}

-- Nine more, where there is a difference.
abbrev pub with_entry : ℕ → ℕ → ℕ
with_entry size kind = cond (eqb kind 0) size (size + 9)

with-entry-by : (t : Bool) (size : ℕ) → cond t size (size + 9) ≡ size + cond t 0 9
with-entry-by true size = omega arith
with-entry-by false size = refl

with-entry-most : (t : Bool) (size : ℕ) → cond t size (size + 9) ≤ size + 9
with-entry-most true size = omega arith
with-entry-most false size = omega arith

module _ (first second : List ℕ) (n m : ℕ) where
  -- The whole report, and what is left of it at two cursors.
  abbrev whole : List ℕ
  whole = same_bytes (items_of n first) (items_of m second)

  abbrev left_at : ℕ → ℕ → List ℕ
  left_at i j = same_bytes (drop i (items_of n first)) (drop j (items_of m second))

  -- The cursors are within their items, and so many bytes stand before what is left.
  pub record Counted (size i j : ℕ) : Type 0 where
    pub within : i ≤ n
    pub inside : j ≤ m
    pub short : size ≤ 9 * (i + j)
    pub so_far : size + length (left_at i j) ≡ length whole

  pub counted_start : Counted 0 0 0
  counted_start = record { within = omega arith; inside = omega arith; short = omega arith; so_far = omega arith }

  module _ (size i j kind : ℕ) (C : Counted size i j) (more : i + j < n + m)
      (e : kind ≡ kind_of same_translation (drop i (items_of n first)) (drop j (items_of m second))) where
    -- The length so far, with the step's bytes.
    pub next-length : with_entry size kind ≡ size + length (bytes_at kind (item_at first i) (item_at second j))
    next-length = with-entry-by (eqb kind 0) size ∙ ap (λ (k : ℕ). size + k) (sym (step-length kind (item_at first i) (item_at second j)))

    -- What is left before the step is its bytes and what is left behind it.
    pub next-left : length (bytes_at kind (item_at first i) (item_at second j)) + length (left_at (on_unless i kind 2) (on_unless j kind 1))
        ≡ length (left_at i j)
    next-left = sym (ap length (step first second n m i j C.within C.inside more kind e)
        ∙ length-append (bytes_at kind (item_at first i) (item_at second j)) (left_at (on_unless i kind 2) (on_unless j kind 1)))

    pub counted_next : Counted (with_entry size kind) (on_unless i kind 2) (on_unless j kind 1)
    counted_next =
        let (h, k, l) = step-within first second n m i j C.within C.inside more kind e in
        let long = next-length in
        let rest = next-left in
        record {
          within = h;
          inside = k;
          short = omega (arith, with-entry-most (eqb kind 0) size);
          so_far = omega (arith, C.so_far);
        }

  -- In the end the length is that of the report.
  pub counted-end : (size i j : ℕ) → Counted size i j → n + m ≤ i + j → size ≡ length whole
  counted-end size i j C h =
      let none : length (left_at i j) ≡ 0 = ap length (all_left first second n m i j C.within C.inside h) in
      omega (arith, C.so_far)

  -- The buffer: the bytes so far, and behind them what was there.
  pub record Stored (before out : List ℕ) (at i j : ℕ) : Type 0 where
    pub counted : Counted at i j
    pub same_length : length out ≡ length before
    pub written : take at out ++ left_at i j ≡ whole
    pub behind : drop at out ≡ drop at before

  pub stored-start : (out : List ℕ) → Stored out out 0 0 0
  stored-start out = record { counted = counted_start; same_length = refl; written = refl; behind = refl }

  module _ (before out : List ℕ) (at i j kind : ℕ) (S : Stored before out at i j) (more : i + j < n + m)
      (e : kind ≡ kind_of same_translation (drop i (items_of n first)) (drop j (items_of m second))) (room : length whole ≤ length before) where
    abbrev found : List ℕ
    found = bytes_at kind (item_at first i) (item_at second j)

    -- There is room for the step's bytes.
    pub next-room : at + length found ≤ length out
    next-room = omega (arith, next-left at i j kind S.counted more e, S.counted.so_far, S.same_length)

    module _ (ys : List ℕ) (put : ys ≡ found ++ drop (length found) (take (length out - at) (drop at out))) where
      abbrev after : List ℕ
      after = put_mid at (length out - at) out ys

      stands : after ≡ (take at out ++ found) ++ drop (at + length found) out
      stands = put-at out ys found at (length found) put ∙ sym (append_assoc (take at out) found (drop (at + length found) out))

      front_long : length (take at out ++ found) ≡ at + length found
      front_long = length-append (take at out) found ∙ ap (λ (k : ℕ). k + length found) (length-take-le at out (omega (arith, next-room)))

      pub stored_next : length after ≡ length out → Stored before after (with_entry at kind) (on_unless i kind 2) (on_unless j kind 1)
      stored_next long =
          let place = next-length at i j kind S.counted more e in
          let size : length (take at out ++ found) ≡ with_entry at kind = front_long ∙ sym place in
          record {
            counted = counted_next at i j kind S.counted more e;
            same_length = long ∙ S.same_length;
            written =
                ap (λ (l : List ℕ). take (with_entry at kind) l ++ left_at (on_unless i kind 2) (on_unless j kind 1)) stands
                ∙ ap (λ (l : List ℕ). l ++ left_at (on_unless i kind 2) (on_unless j kind 1))
                (take_at (take at out ++ found) (drop (at + length found) out) (with_entry at kind) size)
                ∙ append_assoc (take at out) found (left_at (on_unless i kind 2) (on_unless j kind 1))
                ∙ ap (λ (l : List ℕ). take at out ++ l) (sym (step first second n m i j S.counted.within S.counted.inside more kind e))
                ∙ S.written;
            behind =
                ap (drop (with_entry at kind)) stands ∙ drop_at (take at out ++ found) (drop (at + length found) out) (with_entry at kind) size
                ∙ sym (drop-drop (length found) at out) ∙ ap (drop (length found)) S.behind ∙ drop-drop (length found) at before
                ∙ ap (λ (k : ℕ). drop k before) (sym place);
          }

  -- In the end it holds the report.
  pub stored-end : (before out : List ℕ) (at i j : ℕ) → Stored before out at i j → n + m ≤ i + j → out ≡ whole ++ drop (length whole) before
  stored-end before out at i j S h =
      let none = all_left first second n m i j S.counted.within S.counted.inside h in
      let all-written : take at out ≡ whole = sym (append-nil (take at out)) ∙ ap (λ (l : List ℕ). take at out ++ l) (sym none) ∙ S.written in
      let end = counted-end at i j S.counted h in
      sym (take-append-drop at out) ∙ ap₂ ◌++◌ all-written (S.behind ∙ ap (λ (k : ℕ). drop k before) end)

-- Where there is an entry, its nine bytes have room.
pub entry-room : (kind : ℕ) (a b : Item) (out : List ℕ) → ¬ (kind ≡ 0) → length (bytes_at kind a b) ≤ length out → 9 ≤ length out
entry-room kind a b out some h = omega (arith, ap length (some_at kind a b some) ∙ nine-bytes (entry_at kind a b))

-- The entry that the code writes, part by part.
pub put-found : (kind : ℕ) (a b : Item) (code : ℕ) (from to : Translation) (out after : List ℕ) → ¬ (kind ≡ 0) → code ≡ entry_code kind a b
    → from ≡ triple_unless (eqb kind 2) a → to ≡ triple_unless (eqb kind 1) b
    → after ≡ entry_bytes (record { kind = kind; code = code; first = from; second = to }) ++ drop 9 out
    → after ≡ bytes_at kind a b ++ drop (length (bytes_at kind a b)) out
put-found kind a b code from to out after some p q r e =
    let there = some_at kind a b some in
    let nine : length (bytes_at kind a b) ≡ 9 = ap length there ∙ nine-bytes (entry_at kind a b) in
    e ∙ rw (p, q, r, nine, there) refl

-- ---- the answer
-- A report that does not fit, and one that does.
module _ (report out : List ℕ) (size : ℕ) (e : size ≡ length report) where
  pub no_room : length out < size → (Err NoRoom ≡ fitted_answer report (length out)) × (out ≡ fitted report out)
  no_room h = rw (lt-ltb (length out) (length report) (omega arith)) (refl, refl)

  pub with-room : (after : List ℕ) → size ≤ length out → after ≡ report ++ drop (length report) out
      → (Ok size ≡ fitted_answer report (length out)) × (after ≡ fitted report out)
  with-room after h p = rw (le-ltb (length out) (length report) (omega arith)) (ap Ok e, p)

-- ---- stores at the front
pub put_two : (xs : List ℕ) (p q : ℕ) → 2 ≤ length xs → set (set xs 0 p) 1 q ≡ p ∷ q ∷ drop 2 xs
put_two [] p q h = absurd (omega arith)
put_two (a ∷ []) p q h = absurd (omega arith)
put_two (a ∷ b ∷ xs) p q h = refl

pub put-nine : (xs : List ℕ) (p q r s t u v w y : ℕ) → 9 ≤ length xs
    → set (set (set (set (set (set (set (set (set xs 0 p) 1 q) 2 r) 3 s) 4 t) 5 u) 6 v) 7 w) 8 y ≡ p ∷ q ∷ r ∷ s ∷ t ∷ u ∷ v ∷ w ∷ y ∷ drop 9 xs
put-nine [] p q r s t u v w y h = absurd (omega arith)
put-nine (a ∷ []) p q r s t u v w y h0 = absurd (omega arith)
put-nine (a ∷ b ∷ []) p q r s t u v w y h0 = absurd (omega arith)
put-nine (a ∷ b ∷ c ∷ []) p q r s t u v w y h0 = absurd (omega arith)
put-nine (a ∷ b ∷ c ∷ d ∷ []) p q r s t u v w y h0 = absurd (omega arith)
put-nine (a ∷ b ∷ c ∷ d ∷ e ∷ []) p q r s t u v w y h0 = absurd (omega arith)
put-nine (a ∷ b ∷ c ∷ d ∷ e ∷ f ∷ []) p q r s t u v w y h0 = absurd (omega arith)
put-nine (a ∷ b ∷ c ∷ d ∷ e ∷ f ∷ g ∷ []) p q r s t u v w y h0 = absurd (omega arith)
put-nine (a ∷ b ∷ c ∷ d ∷ e ∷ f ∷ g ∷ h ∷ []) p q r s t u v w y h0 = absurd (omega arith)
put-nine (a ∷ b ∷ c ∷ d ∷ e ∷ f ∷ g ∷ h ∷ i ∷ xs) p q r s t u v w y h0 = refl
