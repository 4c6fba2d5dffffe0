-- How the answer is put together from what the code finds: the length, the first wrong entry, the first that is off, the set of operations seen.
use Rattle.std.specs.Prelude.{◌≡◌, Bool, cond, ◌||◌, Some, None, ℕ, zero, suc, ◌≤◌, ◌<◌, ltb, length, take, Err, Ok, Result}
use Rattle.std.proofs.Math.Path.{refl, sym, ap, ap₂}
use Rattle.std.proofs.Common.{◌∙◌, subst, arith, length-take-le}
use Rattle.std.proofs.Math.Bool.{true, false, not}
use mathlib.Core.List.{List, Memᴰ as Mem}
use Rattle.std.proofs.Math.Dec.{eqb_refl}
use Rattle.std.proofs.Math.ListN.{get_or}
use Rattle.std.proofs.Math.Seq.{get_or-take}
use borrow.Author.Tests.{lt-ltb, le-ltb}
use Rattle.laws.specs.Sets.{member}
use Rattle.laws.specs.Distinct.{eqb-equivalence, Equivalence}
use Rattle.laws.specs.Indices.{distinct-index, member-at}
use Rattle.operation.specs.Code.{code_lt}
use Rattle.operation.specs.Entries.{digits-entries}
use Rattle.operation.specs.Meaning.{matrix_of}
use Rattle.operation.specs.Product.{identity_operation}
use Rattle.operation.specs.declared.Operation.{Operation}
use Rattle.centering.specs.declared.Centering.{Centering}
use Rattle.subgroup_laws.specs.Bounded.{first}
use Rattle.space_group.specs.Traversal.{turn_of, same_turn}
use Rattle.space_group_theorems.specs.Members.{rotation-generated, rotations-once}
use Rattle.symbol_group.specs.AcceptedTexts.{AcceptedText, accepted-text}
use Rattle.symbol_group.specs.Answers.{symbol_answer}
use Rattle.symbol_group.specs.Slots.{symbol-slots}
use Rattle.symbol_group.specs.declared.Answer.TheVariants.{Group, Refused as NoGroup}
use Rattle.symbol_group.specs.declared.SymbolGroup.{SymbolGroup}
use Rattle.symbol_group.specs.declared.refusal.Refusal as symbol-refusal
use Rattle.list_check.specs.Checked.{length_fits, entry_count, alike, foreign_at, repeated_at, wrong_at, entry_at, off_at, missing_at, no_code, lowest, missing_answer, entries_answer, list_answer, slot_at, checked_of}
use Rattle.list_check.specs.Entries.{RightLength, WrongLength, length-right, length-wrong}
use Rattle.list_check.specs.Slots.{Once, Coded, Seen, code_found, lowest_unseen, lowest-same, some_same}
use Rattle.list_check.specs.declared.refusal.Refusal.TheVariants.{Symbol, Length, Entry as WrongEntry}
use Rattle.list_check.specs.declared.Verdict.TheVariants.{Entry, Missing, Yes}
use Rattle.list_check.specs.declared.Verdict.{Verdict}
use Rattle.list_check.specs.declared.refusal.Refusal.{Refusal}

-- ---- the entries
module _ (c : Centering) (count : ℕ) (operation : ℕ → Operation) (n : ℕ) (entry : ℕ → Operation) where
  -- The answer where an entry is off,
  pub off-answer : first (off_at c count operation entry) n < n
      → entries_answer c count operation n entry ≡ Ok (Entry (first (off_at c count operation entry) n))
  unfolding entries_answer
  off-answer h = rw (lt-ltb (first (off_at c count operation entry) n) n h) refl

  -- and where none is.
  pub on-answer : n ≤ first (off_at c count operation entry) n
      → entries_answer c count operation n entry ≡ missing_answer (lowest (missing_at c n entry operation) (λ k. turn_of (operation k)) count)
  unfolding entries_answer
  on-answer h = rw (le-ltb (first (off_at c count operation entry) n) n h) refl

-- ---- the list
module _ (c : Centering) (count : ℕ) (operation : ℕ → Operation) (list : List ℕ) where
  -- The answer where the length is wrong,
  pub length-answer : WrongLength list → list_answer c count operation list ≡ Err Length
  unfolding list_answer
  length-answer w = rw ((length-wrong list).1 w) refl

  module _ (right : RightLength list) where
    -- where an entry is out of range,
    pub range-answer : first (wrong_at list) (entry_count list) < entry_count list
        → list_answer c count operation list ≡ Err (WrongEntry (first (wrong_at list) (entry_count list)))
    unfolding list_answer
    range-answer h = rw ((length-right list).1 right, lt-ltb (first (wrong_at list) (entry_count list)) (entry_count list) h) refl

    -- and where all are well.
    pub entries-answer : entry_count list ≤ first (wrong_at list) (entry_count list)
        → list_answer c count operation list ≡ entries_answer c count operation (entry_count list) (entry_at list)
    unfolding list_answer
    entries-answer h = rw ((length-right list).1 right, le-ltb (first (wrong_at list) (entry_count list)) (entry_count list) h) refl

-- ---- what the code finds
module _ (c : Centering) (count : ℕ) (operations : List Operation) (list : List ℕ) (right : RightLength list) (w : ℕ) (e : w
    ≡ first (wrong_at list) (entry_count list)) where
  pub wrong-found : w < entry_count list → Err (WrongEntry w) ≡ list_answer c count (slot_at operations) list
  wrong-found h =
      ap (λ (k : ℕ). (Err (WrongEntry k))) e ∙ sym (range-answer c count (slot_at operations) list right (omega arith))

  module _ (high : entry_count list ≤ w) where
    -- All entries are in range, so they are compared.
    compared : list_answer c count (slot_at operations) list ≡ entries_answer c count (slot_at operations) (entry_count list) (entry_at list)
    compared = entries-answer c count (slot_at operations) list right (omega arith)

    pub entry_found : (i : ℕ) → (i < entry_count list) × (i ≡ first (off_at c count (slot_at operations) (entry_at list)) (entry_count list))
        → Ok (Entry i) ≡ list_answer c count (slot_at operations) list
    entry_found i (h, found) =
        ap (λ x. Ok (Entry x)) found ∙ sym (off-answer c count (slot_at operations) (entry_count list) (entry_at list) (omega arith)) ∙ sym compared

    -- What was not seen is missing.
    pub rest-found : (seen : ℕ) → entry_count list ≤ first (off_at c count (slot_at operations) (entry_at list)) (entry_count list)
        → Seen c count (slot_at operations) (entry_at list) (entry_count list) seen
        → missing_answer (lowest_unseen count operations seen) ≡ list_answer c count (slot_at operations) list
    unfolding lowest_unseen missing_at
    rest-found seen h S =
        let same =
        lowest-same (λ k. not (member seen k)) (missing_at c (entry_count list) (entry_at list) (slot_at operations))
        (λ k. turn_of (slot_at operations k)) count (λ k l. ap not (S k l)) in
        ap missing_answer same ∙ sym (on-answer c count (slot_at operations) (entry_count list) (entry_at list) h) ∙ sym compared

-- The answer by a code that was found,
pub code-missing : (code k : ℕ) → Some k ≡ code_found code → Ok (Missing k) ≡ missing_answer code
code-missing code k e = by-test (ltb code no_code) e
  where
    by-test : (b : Bool) → Some k ≡ cond b (Some code) None
        → ◌≡◌ {A = Result Verdict Refusal} (Ok (Missing k)) (cond b (Ok (Missing code)) (Ok Yes))
    by-test true e = let same : k ≡ code = cc in ap (λ x. Ok (Missing x)) same
    by-test false e = let z : ◌≡◌ {A = ℕ} 0 1 = cc in absurd (omega arith)

-- and by none.
pub nothing-missing : (code : ℕ) → None ≡ code_found code → Ok Yes ≡ missing_answer code
nothing-missing code e = by-test (ltb code no_code) e
  where
    by-test : (b : Bool) → None ≡ cond b (Some code) None → ◌≡◌ {A = Result Verdict Refusal} (Ok Yes) (cond b (Ok (Missing code)) (Ok Yes))
    by-test true e = let z : ◌≡◌ {A = ℕ} 0 1 = cc in absurd (omega arith)
    by-test false e = refl

-- ---- operations that agree below their number
module _ (c : Centering) (count : ℕ) (f g : ℕ → Operation) (same : (k : ℕ) → k < count → f k ≡ g k) where
  module _ (n : ℕ) (entry : ℕ → Operation) where
    off-agrees : (i : ℕ) → off_at c count f entry i ≡ off_at c count g entry i
    unfolding off_at foreign_at
    off-agrees i =
        ap (λ (b : Bool). not b || repeated_at c entry i)
        (some_same (λ k. alike c (entry i) (f k)) (λ k. alike c (entry i) (g k)) count (λ k h. ap (alike c (entry i)) (same k h)))

    lowest-agrees : (m : ℕ) → m ≤ count
        → lowest (missing_at c n entry f) (λ k. turn_of (f k)) m ≡ lowest (missing_at c n entry g) (λ k. turn_of (g k)) m
    unfolding lowest missing_at
    lowest-agrees zero h = refl
    lowest-agrees (suc m) h = rw (same m h, lowest-agrees m (omega arith)) refl

    entries-agree : entries_answer c count f n entry ≡ entries_answer c count g n entry
    unfolding entries_answer
    entries-agree =
        let off : off_at c count f entry ≡ off_at c count g entry = λ j i. off-agrees i j in
        ap₂ (λ (p : ℕ → Bool) (low : ℕ). cond (ltb (first p n) n) (Ok (Entry (first p n))) (missing_answer low)) off (lowest-agrees count (omega arith))

  list-agrees : (list : List ℕ) → list_answer c count f list ≡ list_answer c count g list
  unfolding list_answer
  list-agrees list =
      ap (λ (a : Result Verdict Refusal). cond (length_fits (length list))
      (cond (ltb (first (wrong_at list) (entry_count list)) (entry_count list)) (Err (WrongEntry (first (wrong_at list) (entry_count list)))) a)
      (Err Length)) (entries-agree (entry_count list) (entry_at list))

-- The operations in use, as a list of their own.
module _ (operations : List Operation) (count : ℕ) (h : count ≤ length operations) where
  used-count : length (take count operations) ≡ count
  used-count = length-take-le count operations h

  used_at : (k : ℕ) → k < count → slot_at (take count operations) k ≡ slot_at operations k
  unfolding slot_at
  used_at k l = get_or-take count operations k identity_operation l

-- ---- the symbol
-- To have one code is an equivalence.
pub turns : Equivalence same_turn
turns =
    record {
      reflexive = λ f. eqb-equivalence.reflexive (turn_of f);
      symmetric = λ f g. eqb-equivalence.symmetric (turn_of f) (turn_of g);
      transitive = λ f g h. eqb-equivalence.transitive (turn_of f) (turn_of g) (turn_of h);
    }

slots-within : (text : List ℕ) → (symbol_answer text).count ≤ length (symbol_answer text).operations
slots-within text = let (few, long) = symbol-slots text in omega arith

-- The comparison goes by the operations in use.
used-answer : (text list : List ℕ) → let g = symbol_answer text in
    list_answer g.centering (length (take g.count g.operations)) (slot_at (take g.count g.operations)) list
    ≡ list_answer g.centering g.count (slot_at g.operations) list
used-answer text list =
    let g = symbol_answer text in
    rw (used-count g.operations g.count (slots-within text))
    (list-agrees g.centering g.count (slot_at (take g.count g.operations)) (slot_at g.operations) (used_at g.operations g.count (slots-within text)) list)

module _ (text : List ℕ) (A : AcceptedText text) where
  -- A slot in use holds an operation of the list.
  pub slot-listed : (k : ℕ) → k < (symbol_answer text).count → get_or A.operations k identity_operation ≡ slot_at (symbol_answer text).operations k
  unfolding slot_at
  slot-listed k h =
      ap (λ (l : List Operation). get_or l k identity_operation) (sym A.same-operations)
      ∙ get_or-take (symbol_answer text).count (symbol_answer text).operations k identity_operation h

  -- It has a code.
  slots-coded : Coded (symbol_answer text).count (slot_at (symbol_answer text).operations)
  slots-coded k h =
      let long = A.same_count in
      let o = slot_at (symbol_answer text).operations k in
      let listed : Mem o A.operations =
      subst (λ (o : Operation). Mem o A.operations) (slot-listed k h) (member-at A.operations k identity_operation (omega arith)) in
      code_lt o.rotation
      ((digits-entries o.rotation).1
      (A.accepted.small (matrix_of o.rotation) (rotation-generated A.letter A.generators A.operations A.steps A.accepted o listed)))

  -- Each rotation of the group stands once.
  slots-once : Once (symbol_answer text).count (slot_at (symbol_answer text).operations)
  slots-once j k h l e =
      let long = A.same_count in
      distinct-index same_turn turns (rotations-once A.letter A.generators A.operations A.steps A.accepted) identity_operation j k
      (omega arith) (omega arith)
      (rw (slot-listed j h, slot-listed k l, e) (eqb_refl (turn_of (slot_at (symbol_answer text).operations k))))

  -- What the comparison asks of the operations in use.
  group-given : let g = symbol_answer text in let used = take g.count g.operations in
      (length used ≤ 48) × Once (length used) (slot_at used) × Coded (length used) (slot_at used)
  group-given =
      let g = symbol_answer text in
      let at = used_at g.operations g.count (slots-within text) in
      rw (used-count g.operations g.count (slots-within text)) (
        (symbol-slots text).0,
        (λ j k h l e. slots-once j k h l (sym (ap turn_of (at j h)) ∙ e ∙ ap turn_of (at k l))),
        λ k h. rw (at k h) (slots-coded k h),
      )

-- The operations of a group that are in use.
abbrev pub used : SymbolGroup → List Operation
used g = take g.count g.operations

module _ (text list : List ℕ) (g : SymbolGroup) (e : g ≡ symbol_answer text) where
  accepted : g.answer ≡ Group → AcceptedText text
  accepted a = accepted-text text (sym (ap (λ (h : SymbolGroup). h.answer) e) ∙ a)

  -- What the comparison asks of a group, said of its slots
  pub group-once : g.answer ≡ Group → (g.count ≤ 48) × Once g.count (slot_at g.operations)
  group-once a = rw e ((symbol-slots text).0, slots-once text (accepted a))

  -- and of the operations in use.
  pub used-once : g.answer ≡ Group → (length (used g) ≤ 48) × Once (length (used g)) (slot_at (used g)) × Coded (length (used g)) (slot_at (used g))
  used-once a = rw e (group-given text (accepted a))

  -- The symbol's refusal, or the list's answer.
  pub symbol-answer : (r : symbol-refusal.Refusal) → g.answer ≡ NoGroup r → Err (Symbol r) ≡ checked_of text list
  unfolding checked_of
  symbol-answer r a = rw (← e, a)

  pub list-answer : g.answer ≡ Group → list_answer g.centering g.count (slot_at g.operations) list ≡ checked_of text list
  unfolding checked_of
  list-answer a = rw (← e, a)

  pub list-answer-used : g.answer ≡ Group → list_answer g.centering (length (used g)) (slot_at (used g)) list ≡ checked_of text list
  list-answer-used a =
      let short : list_answer g.centering (length (used g)) (slot_at (used g)) list ≡ list_answer g.centering g.count (slot_at g.operations) list =
      rw e (used-answer text list) in
      short ∙ list-answer a

  -- The operations in use are within the slots.
  pub used-within : g.count ≤ 48
  used-within = rw e (symbol-slots text).0

  -- The operations in use are among them.
  pub used-there : g.count ≤ length g.operations
  used-there = rw e (slots-within text)
