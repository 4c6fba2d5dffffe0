-- Lists that passed, as records ((xii) of the requests): a list that passed for a symbol, sorted and reduced, is the symbol's record, so two such lists are one
-- record. The idea: modulo L the entries and the symbol's operations are the same, so in the form that a record lists they are equal.
use Rattle.std.specs.Prelude.{◌≡◌, refl, ◌↔◌, ℕ, zero, suc, ◌<◌, Ok}
use Rattle.std.proofs.Math.Path.{sym, ap}
use Rattle.std.proofs.Common.{◌∙◌, subst, arith, eqb→eq}
use mathlib.Core.List.Memᴰ.{cast as mem-cast}
use mathlib.Core.List.Memᴰ.{head as here}
use mathlib.Core.List.Memᴰ.{not-nil}
use mathlib.Core.List.Memᴰ.{tail as there}
use mathlib.Core.List.{List, [], ◌∷◌, Memᴰ as Mem}
use Rattle.laws.specs.Motion.{SpaceMotion}
use Rattle.laws.specs.Distinct.{Distinct, nil, cons, has-member}
use Rattle.laws.specs.Sorted.{key-strict, unique}
use Rattle.operation.specs.Code.{code_of, code-injective}
use Rattle.operation.specs.Entries.{digits-entries}
use Rattle.operation.specs.Meaning.{Digits, matrix_of, motion_of}
use Rattle.operation.specs.declared.Operation.{Operation}
use Rattle.centering.specs.Letters.{byte_of}
use Rattle.centering.specs.declared.Centering.{Centering}
use Rattle.space_group_theorems.specs.SetOfMotions as generated
use Rattle.symbol_group.specs.AcceptedTexts.{AcceptedText, accepted-text}
use Rattle.symbol_group.specs.Answers.{symbol_answer}
use Rattle.symbol_group.specs.Exactly.{group-exactly}
use Rattle.list_check.specs.Checked.{entry_count, entry_at, checked_of}
use Rattle.list_check.specs.Comparison.{Whole}
use Rattle.list_check.specs.Entries.{WellFormed, entry-inside, entry-digits}
use Rattle.list_check.specs.Exactly.{yes-exactly, carried}
use Rattle.hall_symbol.specs.Agreement.{spells-once}
use Rattle.group_record.specs.Record.{listed_form, written_in, record_in, record_of}
use Rattle.group_record.specs.FirstEdition.{first_edition}
use Rattle.group_record.specs.Groups.{Alike, same_code, Listing}
use Rattle.group_record.specs.ListedForm.{told-by-rotation, matrix-injective, alike-reflexive, alike-symmetric, alike-transitive, alike-smallest, form-member, member-form, CodeBefore, code_key, listed-form}
use Rattle.record_writing.specs.SymbolRecords.{text_record}
use Rattle.record_writing.specs.AcceptedSymbols.{accepted-listing}
use Rattle.record_writing.specs.SymbolSets.{record-of-list}
use Rattle.list_check.specs.declared.Verdict.TheVariants.{Yes}

-- ---- the entries of a list, in its order
unfoldable pub entries_from : ℕ → (ℕ → Operation) → List Operation
entries_from zero entry = []
entries_from (suc n) entry = entry zero ∷ entries_from n (λ i. entry (suc i))

abbrev pub entries_of : List ℕ → List Operation
entries_of list = entries_from (entry_count list) (entry_at list)

-- Each entry is one of them,
entry-member : (n : ℕ) (entry : ℕ → Operation) (i : ℕ) → i < n → Mem (entry i) (entries_from n entry)
unfolding entries_from
entry-member zero entry i h = absurd (omega arith)
entry-member (suc n) entry zero h = here refl
entry-member (suc n) entry (suc i) h = there (entry-member n (λ i. entry (suc i)) i (omega arith))

-- and each of them is an entry.
member-entry : (n : ℕ) (entry : ℕ → Operation) {o : Operation} → Mem o (entries_from n entry) → (i : ℕ) × (i < n) × (entry i ≡ o)
unfolding entries_from
member-entry zero entry m = absurd (not-nil m)
member-entry (suc n) entry (here p) = (zero, omega arith, sym p)
member-entry (suc n) entry (there m) = let (i, h, e) = member-entry n (λ i. entry (suc i)) m in (suc i, omega arith, e)

-- Entries whose codes differ are entries with each code once.
codes-once : (n : ℕ) (entry : ℕ → Operation) → ((i j : ℕ) → i < n → j < i → code_of (entry i).rotation ≡ code_of (entry j).rotation → ⊥)
    → Distinct same_code (entries_from n entry)
unfolding entries_from
codes-once zero entry apart = nil
codes-once (suc n) entry apart =
    cons
    (λ t.
    let (o, m, s) = has-member same_code (entry zero) (entries_from n (λ i. entry (suc i))) t in
    let (i, h, e) = member-entry n (λ i. entry (suc i)) m in
    apart (suc i) zero (omega arith) (omega arith)
    (ap (λ (o : Operation). code_of o.rotation) e ∙ sym (eqb→eq (code_of (entry zero).rotation) (code_of o.rotation) s)))
    (codes-once n (λ i. entry (suc i)) (λ i j h k. apart (suc i) (suc j) (omega arith) (omega arith)))

-- ---- one form
module _ (c : Centering) where
  -- Where each operation of a list is alike to one of another, the form of the first is in that of the second,
  form-within : {l k : List Operation} → Listing l → Listing k → ((f : Operation) → Mem f l → (g : Operation) × Mem g k × Alike c (motion_of f) (motion_of g))
      → (f : Operation) → Mem f (listed_form c l) → Mem f (listed_form c k)
  form-within {l} {k} L K into f m =
      let (g, n, e) = form-member c l m in
      let (h, o, near) = into g n in
      mem-cast (sym e ∙ alike-smallest c g h (L.entries g n) (K.entries h o) near) (member-form c k o)

  -- and where it is so both ways, the records are one.
  one_form : {l k : List Operation} → Listing l → Listing k
      → ((f : Operation) → Mem f l → (g : Operation) × Mem g k × Alike c (motion_of f) (motion_of g))
      → ((g : Operation) → Mem g k → (f : Operation) × Mem f l × Alike c (motion_of g) (motion_of f))
      → record_of c l ≡ record_of c k
  unfolding record_of record_in
  one_form L K into back =
      ap (written_in first_edition (byte_of c))
      (unique CodeBefore (key-strict code_key) (listed-form c L).ascend (listed-form c K).ascend (form-within L K into) (form-within K L back))

-- ---- a list that passed
module _ (text list : List ℕ) (A : AcceptedText text) (well : WellFormed list) (W : Whole A.letter A.generators (entry_count list) (entry_at list)) where
  abbrev c : Centering
  c = A.letter

  abbrev n : ℕ
  n = entry_count list

  abbrev entry : ℕ → Operation
  entry = entry_at list

  listing : Listing A.operations
  listing = accepted-listing A.letter A.generators A.operations A.steps A.accepted

  exactly : (m : SpaceMotion) → generated.InGeneratedSet c A.generators m ↔ ((o : Operation) × Mem o A.operations × Alike c m (motion_of o))
  exactly m = generated.set-exactly A.letter A.generators A.operations A.steps A.accepted m

  -- Each entry is alike to an operation of the symbol,
  entry_listed : (i : ℕ) → i < n → (o : Operation) × Mem o A.operations × Alike c (motion_of (entry i)) (motion_of o)
  entry_listed i h = (exactly (motion_of (entry i))).0 ((W.set (motion_of (entry i))).1 (i, h, alike-reflexive c (motion_of (entry i))))

  -- and each operation to an entry.
  listed-entry : (o : Operation) → Mem o A.operations → (i : ℕ) × (i < n) × Alike c (motion_of o) (motion_of (entry i))
  listed-entry o m = (W.set (motion_of o)).0 ((exactly (motion_of o)).1 (o, m, alike-reflexive c (motion_of o)))

  entry_whole : (i : ℕ) → i < n → Digits (entry i).rotation
  entry_whole i h = entry-digits list i (entry-inside list well.0 i h) (well.1 i h)

  -- Entries with one code would be alike to one operation, and so to each other.
  apart : (i j : ℕ) → i < n → j < i → code_of (entry i).rotation ≡ code_of (entry j).rotation → ⊥
  unfolding motion_of
  apart i j h k e =
      let (o, m, near) = entry_listed i h in
      let (p, l, close) = entry_listed j (omega arith) in
      let same : (entry i).rotation ≡ (entry j).rotation =
      code-injective (entry i).rotation (entry j).rotation (entry_whole i h) (entry_whole j (omega arith)) e in
      let turns : matrix_of o.rotation ≡ matrix_of p.rotation = sym near.0 ∙ ap matrix_of same ∙ close.0 in
      let one : o ≡ p = told-by-rotation listing m l (matrix-injective o.rotation p.rotation (listing.entries o m) (listing.entries p l) turns) in
      let nearer : Alike c (motion_of (entry i)) (motion_of p) = rw (← one) near in
      W.once i h (
        j,
        k,
        alike-transitive c (motion_of (entry i)) (motion_of p) (motion_of (entry j)) nearer
            (alike-symmetric c (motion_of (entry j)) (motion_of p) close),
      )

  -- So the entries are a listing,
  entries-listing : Listing (entries_of list)
  entries-listing =
      record {
        entries = λ f m. let (i, h, e) = member-entry n entry m in rw (← e) ((digits-entries (entry i).rotation).0 (entry_whole i h));
        distinct = codes-once n entry apart;
      }

  -- and their record is the symbol's.
  entries-record : record_of c (entries_of list) ≡ record_of c A.operations
  entries-record =
      one_form c entries-listing listing
      (λ f m. let (i, h, e) = member-entry n entry m in let (o, l, near) = entry_listed i h in
      (o, l, subst (λ (f : Operation). Alike c (motion_of f) (motion_of o)) e near))
      (λ o m. let (i, h, near) = listed-entry o m in (entry i, entry-member n entry i h, near))

-- A list that passed, sorted and reduced, is the symbol's record,
pub passed-record : (text list : List ℕ) → checked_of text list ≡ Ok Yes → record_of (symbol_answer text).centering (entries_of list) ≡ text_record text
passed-record text list e =
    let (c, gens, accepts, (well, W)) = (yes-exactly text list).0 e in
    let A = accepted-text text ((group-exactly text).1 (c, gens, accepts.0, accepts.1)) in
    let (p, q) = spells-once text c A.letter gens A.generators accepts.0 A.spells in
    let whole = carried (λ c gens. Whole c gens (entry_count list) (entry_at list)) c A.letter gens A.generators p q W in
    ap (λ (d : Centering). record_of d (entries_of list)) A.same-letter ∙ entries-record text list A well whole ∙ sym (record-of-list text A)

-- so two lists that both passed for one symbol are one record.
pub passed-lists : (text list other : List ℕ) → checked_of text list ≡ Ok Yes → checked_of text other ≡ Ok Yes
    → record_of (symbol_answer text).centering (entries_of list) ≡ record_of (symbol_answer text).centering (entries_of other)
passed-lists text list other e f = passed-record text list e ∙ sym (passed-record text other f)
