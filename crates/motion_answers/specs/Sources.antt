-- What is answered on the group of a symbol or a record (R8): its own refusal goes before 26 to 29, with its number and place,
-- and leaves lent lists untouched; otherwise every entry says what it says of the table of that group, which is never refused 21 to 25.
use Rattle.std.specs.Prelude.{◌≡◌, refl, List, ℕ, Err, Ok, Result}
use Rattle.std.proofs.Common.{sym, subst, ◌∙◌}
use Rattle.operation.specs.Answer as told
use Rattle.symbol_group.specs.Answers.{order_of}
use Rattle.symbol_group.specs.Refusals as symbol
use Rattle.symbol_group.specs.declared.refusal.Refusal as symbol-refusal
use Rattle.group_record.specs.Acceptance.{Bytes}
use Rattle.group_record.specs.Reading.{refusal_number}
use Rattle.group_record.specs.declared.Refusal as record-refusal
use Rattle.subgroup_laws.specs.Conjugates.{conjugates_of, conjugators_of}
use Rattle.subgroup_laws.specs.Lists.{subgroups_of, representatives_of}
use Rattle.subgroup_laws.specs.Permutations.{permutation_of}
use Rattle.subgroup_laws.specs.Table.{product, GroupTable}
use Rattle.group_table_theorems.specs.TableAnswers.{symbol-cells-group}
use Rattle.group_table.specs.Tables.{symbol_cells, order_of_record, record_cells}
use Rattle.finite_group.specs.Answers.{table_answer, identity_answer, subgroups_answer, subgroups_bytes, classes_answer, classes_bytes, conjugate_entry, normalizer_entry, permutation_entry, permutation_list, conjugates_entry, conjugates_list, conjugators_list}
use Rattle.table_check.specs.TableVerdict.{checked-table}
use Rattle.motion_group.specs.Accepted.{record-table-accepted}
use Rattle.motion_tables.specs.Answers.{motion_answer, of_table, on_symbol, bytes_on_symbol, on_record, bytes_on_record}
use Rattle.table_answers.specs.Entries.{subgroups_asked, classes_asked, conjugate_asked, normalizer_asked, permutation_asked, conjugates_asked, identity-exactly, subgroups-exactly, subgroups-left, classes-exactly, classes-left, conjugate-exactly, normalizer-exactly, permutation-exactly, permutation-left, conjugates-exactly, conjugates-left, conjugators-left}
use Rattle.table_answers.specs.OnGroup.{OnGroup, on-group}
use Rattle.table_answers.specs.Reasons.{Question, Exactly, Leaves}
use Rattle.motion_tables.specs.declared.Refusal.{Refusal}
use Rattle.table_check.specs.declared.Refusal.{Refusal as TableRefusal}

-- Every entry on a group of order n with table t and identity e: `on` is what is answered where an entry is asked, `lent` what a lent list then holds.
pub record Entries (n : ℕ) (t : List ℕ) (e : ℕ) (on : (ℕ → List ℕ → Result ℕ TableRefusal) → Result ℕ Refusal) (lent : List ℕ → (ℕ → List ℕ → List ℕ)
    → List ℕ) : Type 0 where
  pub order : motion_answer (on (λ n t. Ok n)) ≡ told.given n
  pub identity : motion_answer (on (λ n t. identity_answer n t)) ≡ told.given e
  pub subgroups : (b : List ℕ) → OnGroup (subgroups_asked n t b e) (motion_answer (on (λ n t. subgroups_answer n t b)))
  pub subgroups-left : (b : List ℕ)
      → Leaves n t 8 (subgroups_of n (product n t)) b (motion_answer (on (λ n t. subgroups_answer n t b))) (lent b (λ n t. subgroups_bytes n t b))
  pub classes : (b : List ℕ) → OnGroup (classes_asked n t b e) (motion_answer (on (λ n t. classes_answer n t b)))
  pub classes-left : (b : List ℕ)
      → Leaves n t 8 (representatives_of n (product n t)) b (motion_answer (on (λ n t. classes_answer n t b))) (lent b (λ n t. classes_bytes n t b))
  pub conjugate : (s g : ℕ) → OnGroup (conjugate_asked n t s g e) (motion_answer (on (λ n t. conjugate_entry n t s g)))
  pub normalizer : (s : ℕ) → OnGroup (normalizer_asked n t s e) (motion_answer (on (λ n t. normalizer_entry n t s)))
  pub permutation : (s g : ℕ) (b : List ℕ) → OnGroup (permutation_asked n t s g b e) (motion_answer (on (λ n t. permutation_entry n t s g b)))
  pub permutation-left : (s g : ℕ) (b : List ℕ)
      → Leaves n t 1 (λ e. permutation_of n (product n t) e s g) b (motion_answer (on (λ n t. permutation_entry n t s g b)))
      (lent b (λ n t. permutation_list n t s g b))
  pub conjugates : (s : ℕ) (b c : List ℕ) → OnGroup (conjugates_asked n t s b c e) (motion_answer (on (λ n t. conjugates_entry n t s b c)))
  pub conjugates-left : (s : ℕ) (b c : List ℕ)
      → Leaves n t 8 (λ e. conjugates_of n (product n t) e s) b (motion_answer (on (λ n t. conjugates_entry n t s b c)))
      (lent b (λ n t. conjugates_list n t s b c))
  pub conjugators-left : (s : ℕ) (b c : List ℕ)
      → Leaves n t 1 (λ e. conjugators_of n (product n t) e s) c (motion_answer (on (λ n t. conjugates_entry n t s b c)))
      (lent c (λ n t. conjugators_list n t s b c))

-- an answer on a table is told as it is
told_same : (a : Result ℕ TableRefusal) → motion_answer (of_table a) ≡ table_answer a
told_same (Ok v) = refl
told_same (Err r) = refl

module _ (n : ℕ) (t : List ℕ) (e : ℕ) (T : GroupTable n t e) (on : (ℕ → List ℕ → Result ℕ TableRefusal) → Result ℕ Refusal) (lent : List ℕ
    → (ℕ → List ℕ → List ℕ) → List ℕ)
    (same : (f : ℕ → List ℕ → Result ℕ TableRefusal) → on f ≡ of_table (f n t)) (kept : (b : List ℕ) (g : ℕ → List ℕ → List ℕ) → lent b g ≡ g n t) where
  said : (f : ℕ → List ℕ → Result ℕ TableRefusal) → table_answer (f n t) ≡ motion_answer (on f)
  said f = sym (rw (same f) (told_same (f n t)))

  answered : (ask : ℕ → Question) (f : ℕ → List ℕ → Result ℕ TableRefusal) → Exactly n t ask (table_answer (f n t)) → OnGroup (ask e) (motion_answer (on f))
  answered ask f E = on-group n t ask e T (subst (λ (a : told.Answer ℕ told.Nothing). Exactly n t ask a) (said f) E)

  left : (width : ℕ) (list : ℕ → List ℕ) (b : List ℕ) (f : ℕ → List ℕ → Result ℕ TableRefusal) (g : ℕ → List ℕ → List ℕ)
      → Leaves n t width list b (table_answer (f n t)) (g n t) → Leaves n t width list b (motion_answer (on f)) (lent b g)
  left width list b f g L =
      subst (λ (l : List ℕ). Leaves n t width list b (motion_answer (on f)) l) (sym (kept b g))
      (subst (λ (a : told.Answer ℕ told.Nothing). Leaves n t width list b a (g n t)) (said f) L)

  entries : Entries n t e on lent
  entries = record {
    order = sym (said (λ n t. Ok n));
    identity = sym (said (λ n t. identity_answer n t)) ∙ ((identity-exactly n t).value e).1 (e, T, tt, tt, tt, tt, refl);
    subgroups = λ b. answered (subgroups_asked n t b) (λ n t. subgroups_answer n t b) (subgroups-exactly n t b);
    subgroups-left = λ b. left 8 _ b (λ n t. subgroups_answer n t b) (λ n t. subgroups_bytes n t b) (subgroups-left n t b);
    classes = λ b. answered (classes_asked n t b) (λ n t. classes_answer n t b) (classes-exactly n t b);
    classes-left = λ b. left 8 _ b (λ n t. classes_answer n t b) (λ n t. classes_bytes n t b) (classes-left n t b);
    conjugate = λ s g. answered (conjugate_asked n t s g) (λ n t. conjugate_entry n t s g) (conjugate-exactly n t s g);
    normalizer = λ s. answered (normalizer_asked n t s) (λ n t. normalizer_entry n t s) (normalizer-exactly n t s);
    permutation = λ s g b. answered (permutation_asked n t s g b) (λ n t. permutation_entry n t s g b) (permutation-exactly n t s g b);
    permutation-left = λ s g b. left 1 _ b (λ n t. permutation_entry n t s g b) (λ n t. permutation_list n t s g b) (permutation-left n t s g b);
    conjugates = λ s b c. answered (conjugates_asked n t s b c) (λ n t. conjugates_entry n t s b c) (conjugates-exactly n t s b c);
    conjugates-left = λ s b c. left 8 _ b (λ n t. conjugates_entry n t s b c) (λ n t. conjugates_list n t s b c) (conjugates-left n t s b c);
    conjugators-left = λ s b c. left 1 _ c (λ n t. conjugates_entry n t s b c) (λ n t. conjugators_list n t s b c) (conjugators-left n t s b c);
  }

-- ---- symbols
module _ (text : List ℕ) where
  pub symbol-refused : (r : symbol-refusal.Refusal) → order_of text ≡ Err r → (f : ℕ → List ℕ → Result ℕ TableRefusal)
      → motion_answer (on_symbol text f) ≡ told.refused (symbol.number_of r) (symbol.place_of r) tt
  symbol-refused r p f = rw p refl

  pub symbol-untouched : (r : symbol-refusal.Refusal) → order_of text ≡ Err r → (b : List ℕ) (g : ℕ → List ℕ → List ℕ)
      → bytes_on_symbol text b g ≡ b
  symbol-untouched r p b g = rw p refl

  -- a symbol's list starts with the identity
  pub symbol-entries : (n : ℕ) → order_of text ≡ Ok n → Entries n (symbol_cells text) 0 (on_symbol text) (bytes_on_symbol text)
  symbol-entries n p =
      entries n (symbol_cells text) 0 (symbol-cells-group text n p) (on_symbol text) (bytes_on_symbol text) (λ f. rw p refl) (λ b g. rw p refl)

-- ---- records
module _ (bytes : List ℕ) where
  pub record-refused : (r : record-refusal.Refusal) → order_of_record bytes ≡ Err r → (f : ℕ → List ℕ → Result ℕ TableRefusal)
      → motion_answer (on_record bytes f) ≡ told.refused (refusal_number r) 0 tt
  record-refused r p f = rw p refl

  pub record-untouched : (r : record-refusal.Refusal) → order_of_record bytes ≡ Err r → (b : List ℕ) (g : ℕ → List ℕ → List ℕ)
      → bytes_on_record bytes b g ≡ b
  record-untouched r p b g = rw p refl

  pub record-entries : Bytes bytes → (n : ℕ) → order_of_record bytes ≡ Ok n
      → (e : ℕ) × Entries n (record_cells bytes) e (on_record bytes) (bytes_on_record bytes)
  record-entries small n p =
      let (e, accepted) = record-table-accepted bytes small n p in
      let T = checked-table n (record_cells bytes) e accepted in
      (e, entries n (record_cells bytes) e T (on_record bytes) (bytes_on_record bytes) (λ f. rw p refl) (λ b g. rw p refl))
