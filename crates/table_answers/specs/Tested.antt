-- Answers that are found by tests one after the other, as the definitions of the entries are: where each test tells its condition, the answer is the only
-- one that its question leaves, and so is what lent lists hold.
use Rattle.std.specs.Prelude.{◌≡◌, Bool, cond, List, ℕ, Err, Ok, Result}
use Rattle.std.proofs.Math.Path.{refl}
use Rattle.std.proofs.Common.{sym, ap, ◌∙◌, arith}
use Rattle.std.proofs.Math.Bool.{true, false}
use Rattle.operation.specs.Answer as told
use Rattle.subgroup_laws.specs.Table.{GroupTable}
use Rattle.finite_group.specs.Answers.{number_of, place_of, table_answer, on_group, on_bytes}
use Rattle.table_check.specs.CheckAnswers.{check_of}
use Rattle.table_check.specs.TableVerdict.{Verdict, order-refused, cells-refused, identity-refused, inverse-refused, associativity-refused, accepted, verdict-checked, checked-verdict}
use Rattle.table_check.specs.declared.Refusal.TheVariants as refusal
use Rattle.table_answers.specs.LentLists.{Zeroed, Filled}
use Rattle.table_answers.specs.Reasons.{Question, Reason, no-order, no_cells, no-identity, no-inverse, not-associative, no_room, no-subgroup, no-element, outside-normalizer, Says, refusing, answering, Exactly, exactly, Left, untouched, zeroed, filled}
use Rattle.table_check.specs.declared.Refusal.{Refusal}

-- a test tells whether something holds
abbrev pub Decides : Bool → Type 0 → Type 0
Decides true A = A
Decides false A = ¬ A

-- a test tells whether something is lacking
abbrev pub Lacks : Bool → Type 0 → Type 0
Lacks true A = ¬ A
Lacks false A = A

-- four tests tell the conditions of a question
pub record Tested (q : Question) (a b c d : Bool) : Type 0 where
  pub subgroup : Decides a q.subgroup
  pub element : Decides b q.element
  pub normalizes : q.subgroup → q.element → Decides c q.normalizes
  pub room : Lacks d q.room

-- the answer by four tests
abbrev pub by_tests : Bool → Bool → Bool → Bool → ℕ → Result ℕ Refusal
by_tests a b c d v =
    cond a (cond b (cond c (cond d (Err refusal.Slots) (Ok v)) (Err refusal.Normalizer)) (Err refusal.Element)) (Err refusal.Subgroup)

-- what a lent list holds then
abbrev pub bytes_by_tests : Bool → Bool → Bool → Bool → List ℕ → List ℕ → List ℕ → List ℕ
bytes_by_tests a b c d came zeros full = cond a (cond b (cond c (cond d zeros full) came) came) came

-- what holds passes, and what does not fails
holds : (b : Bool) {A : Type 0} → Decides b A → A → b ≡ true
holds true D x = refl
holds false D x = absurd (D x)

fails : (b : Bool) {A : Type 0} → Decides b A → ¬ A → b ≡ false
fails true D none = absurd (none D)
fails false D none = refl

lacking : (b : Bool) {A : Type 0} → Lacks b A → ¬ A → b ≡ true
lacking true L none = refl
lacking false L none = absurd (none L)

there : (b : Bool) {A : Type 0} → Lacks b A → A → b ≡ false
there true L x = absurd (L x)
there false L x = refl

module _ (n : ℕ) (t : List ℕ) (ask : ℕ → Question) (a b c d : ℕ → Bool) (tested : (e : ℕ) → GroupTable n t e → Tested (ask e) (a e) (b e) (c e) (d e)) where
  -- the answer on the group with identity e
  abbrev on_element : ℕ → Result ℕ Refusal
  on_element e = by_tests (a e) (b e) (c e) (d e) (ask e).value

  abbrev whole : told.Answer ℕ told.Nothing
  whole = table_answer (on_group (check_of n t) on_element)

  -- ---- what is answered is said
  group-says : (e : ℕ) → GroupTable n t e → (a b c d : Bool) → Tested (ask e) a b c d → Says n t ask (table_answer (by_tests a b c d (ask e).value))
  unfolding number_of place_of
  group-says e T false b c d D = refusing 27 (no-subgroup (e, T, D.subgroup))
  group-says e T true false c d D = refusing 28 (no-element (e, T, D.subgroup, D.element))
  group-says e T true true false d D = refusing 29 (outside-normalizer (e, T, D.subgroup, D.element, D.normalizes D.subgroup D.element))
  group-says e T true true true true D = refusing 26 (no_room (e, T, D.subgroup, D.element, D.normalizes D.subgroup D.element, D.room))
  group-says e T true true true false D = answering (ask e).value (e, T, D.subgroup, D.element, D.normalizes D.subgroup D.element, D.room, refl)

  says : {check : _} → Verdict n t check → Says n t ask (table_answer (on_group check on_element))
  unfolding number_of place_of
  says (order-refused h) = refusing 21 (no-order h)
  says (cells-refused h k none) = refusing 22 (no_cells (h, k, none))
  says (identity-refused h C none) = refusing 23 (no-identity (h, C, none))
  says (inverse-refused h C e I x k none) = refusing 24 (no-inverse (h, C, (e, I, (x, k, none))))
  says (associativity-refused h C e I K x y z k l m differ) = refusing 25 (not-associative (h, C, (e, I, K, (x, y, z, k, l, m, differ))))
  says (accepted h C e G) = let T : GroupTable n t e = record { cells = C; group = G } in group-says e T (a e) (b e) (c e) (d e) (tested e T)

  -- ---- and nothing else can be said
  on-verdict : {check : _} → Verdict n t check → whole ≡ table_answer (on_group check on_element)
  on-verdict v = rw (verdict-checked n t v) refl

  on-table : (e : ℕ) → GroupTable n t e → whole ≡ table_answer (on_element e)
  on-table e T = on-verdict (accepted (omega (arith, T.group.identity-below)) T.cells e T.group)

  for-reason : {k : ℕ} → Reason n t ask k → whole ≡ told.refused k 0 tt
  unfolding number_of place_of
  for-reason (no-order h) = on-verdict (order-refused h)
  for-reason (no_cells (h, k, none)) = on-verdict (cells-refused h k none)
  for-reason (no-identity (h, C, none)) = on-verdict (identity-refused h C none)
  for-reason (no-inverse (h, C, (e, I, (x, k, none)))) = on-verdict (inverse-refused h C e I x k none)
  for-reason (not-associative (h, C, (e, I, K, (x, y, z, k, l, m, differ)))) =
      on-verdict (associativity-refused h C e I K x y z k l m differ)
  for-reason (no-subgroup (e, T, none)) = let D = tested e T in on-table e T ∙ rw (fails (a e) D.subgroup none) refl
  for-reason (no-element (e, T, s, none)) = let D = tested e T in on-table e T ∙ rw (holds (a e) D.subgroup s, fails (b e) D.element none) refl
  for-reason (outside-normalizer (e, T, s, g, none)) =
      let D = tested e T in on-table e T ∙ rw (holds (a e) D.subgroup s, holds (b e) D.element g, fails (c e) (D.normalizes s g) none) refl
  for-reason (no_room (e, T, s, g, m, none)) =
      let D = tested e T in
      on-table e T ∙ rw (holds (a e) D.subgroup s, holds (b e) D.element g, holds (c e) (D.normalizes s g) m, lacking (d e) D.room none) refl

  said : (other : told.Answer ℕ told.Nothing) → Says n t ask other → whole ≡ other
  said _ (refusing k R) = for-reason R
  said _ (answering v (e, T, s, g, m, r, same)) =
      let D = tested e T in
      on-table e T
      ∙ rw (holds (a e) D.subgroup s, holds (b e) D.element g, holds (c e) (D.normalizes s g) m, there (d e) D.room r) (ap told.given (sym same))

  pub answered-exactly : Exactly n t ask whole
  answered-exactly = exactly n t ask whole (says (checked-verdict n t)) said

  -- ---- what a lent list holds
  module _ (width : ℕ) (list : ℕ → List ℕ) (came zeros : List ℕ) (full : ℕ → List ℕ) (Z : Zeroed width came zeros)
      (F : (e : ℕ) → GroupTable n t e → (ask e).subgroup → (ask e).element → (ask e).normalizes → (ask e).room → Filled width (list e) came (full e)) where
    group-left : (e : ℕ) → GroupTable n t e → (a b c d : Bool) → Tested (ask e) a b c d
        → Left n t width list came (table_answer (by_tests a b c d (ask e).value)) (bytes_by_tests a b c d came zeros (full e))
    unfolding number_of place_of
    group-left e T false b c d D = untouched 27 0 (λ z. omega arith)
    group-left e T true false c d D = untouched 28 0 (λ z. omega arith)
    group-left e T true true false d D = untouched 29 0 (λ z. omega arith)
    group-left e T true true true true D = zeroed 0 zeros Z
    group-left e T true true true false D =
        filled (ask e).value e T (full e) (F e T D.subgroup D.element (D.normalizes D.subgroup D.element) D.room)

    lists : {check : _} → Verdict n t check
        → Left n t width list came (table_answer (on_group check on_element)) (on_bytes check came
        (λ e. bytes_by_tests (a e) (b e) (c e) (d e) came zeros (full e)))
    unfolding number_of place_of
    lists (order-refused h) = untouched 21 0 (λ z. omega arith)
    lists (cells-refused h k none) = untouched 22 0 (λ z. omega arith)
    lists (identity-refused h C none) = untouched 23 0 (λ z. omega arith)
    lists (inverse-refused h C e I x k none) = untouched 24 0 (λ z. omega arith)
    lists (associativity-refused h C e I K x y z k l m differ) = untouched 25 0 (λ z. omega arith)
    lists (accepted h C e G) = let T : GroupTable n t e = record { cells = C; group = G } in group-left e T (a e) (b e) (c e) (d e) (tested e T)

    pub list_left : Left n t width list came whole (on_bytes (check_of n t) came (λ e. bytes_by_tests (a e) (b e) (c e) (d e) came zeros (full e)))
    list_left = lists (checked-verdict n t)
