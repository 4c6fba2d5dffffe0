-- The refusals of records by number and place, each exactly when: 30 to 35 for a record that is read. Number, place and value determine an answer.
use Rattle.std.specs.Prelude.{◌≡◌, refl, ◌⊎◌, ◌↔◌, Bool, cond, List, ◌++◌, map, ℕ, ◌+◌, ◌*◌, ◌-◌, ◌<◌, ◌≤◌, eqb, length, replicate}
use Rattle.std.proofs.Common.{sym, ◌∙◌, ap, ap₂, inl, inr, arith, take_at}
use Rattle.operation.specs.Answer.{Answer, given, refused, Nothing}
use Rattle.operation.specs.Product.{identity_operation}
use Rattle.operation.specs.declared.Operation.{Operation}
use Rattle.centering.specs.declared.Centering.{Centering}
use Rattle.group_record.specs.Items.{Bytes}
use Rattle.group_record.specs.Editions.{last_five}
use Rattle.group_record.specs.OperationItems.{Item, operation_of_item}
use Rattle.group_record.specs.Rules.{Rules, Told, holds, told_by}
use Rattle.group_record.specs.Rules.{refused as not-held}
use Rattle.group_record.specs.Outcomes.{Meaning, GoodBy, record-bytes, first_items, trailer_of, Outcome, too_short, wrong-edition, wrong-letter, wrong-length, wrong-item, not-allowed, accepted, outcome-told, told-outcome}
use Rattle.group_record.specs.BothEditions.{edition_of, one-edition}
use Rattle.group_record.specs.Reading.{refusal_number, slots, group_answer, record_edition, accepted_group, refused_group, both_rules, group_as, group_of, read_of}
use Rattle.group_record.specs.Acceptance.{both_meaning}
use Rattle.group_record.specs.declared.Edition.{Edition as Known}
use Rattle.group_record.specs.Signs.{is_small, lattice_of, sign-told}
use Rattle.group_record.specs.declared.RecordGroup.{RecordGroup}
use Rattle.group_record.specs.declared.sign.Sign.{Sign}
use Rattle.group_record.specs.declared.Refusal.{Refusal}
use Rattle.group_record.specs.declared.Refusal.TheVariants.{Short, WrongEdition, WrongLetter, WrongLength, WrongItem, NotAllowed}

-- ---- a record that is read, for any editions, letters and kind of item
-- What is told, in numbers.
abbrev pub told_answer : {Item Letter Kind : Type 0} → Told Item Letter Kind → Answer (Kind × Letter × List Item) Nothing
told_answer (not-held r) = refused (refusal_number r) 0 tt
told_answer (holds k c items) = given (k, c, items)

module _ {Item Letter Kind : Type 0} (R : Rules Item Letter Kind) (W : Meaning R) where
  -- Which number a buffer is refused with.
  pub data Refuses (bytes : List ℕ) : ℕ → Type 0 where
    -- under the least length
    too_few : length bytes < R.least → Refuses bytes 30
    -- an edition that is not read
    edition : (front : List ℕ) (letter edition n high low : ℕ) → R.least ≤ length front + 5
        → bytes ≡ front ++ last_five letter edition n high low → ((k : Kind) → ¬ (edition ≡ (R.edition k).number)) → Refuses bytes 31
    -- a byte that is no letter's
    letter : (k : Kind) (front : List ℕ) (letter n high low : ℕ) → R.least ≤ length front + 5
        → bytes ≡ front ++ last_five letter (R.edition k).number n high low → ((c : Letter) → ¬ (letter ≡ R.byte c)) → Refuses bytes 32
    -- a count that is not 1 to the limit, or a length that is not the width times the count and 5 more, or beyond the buffer
    count-or-length : (k : Kind) (c : Letter) (front : List ℕ) (n high low : ℕ) → R.least ≤ length front + 5
        → bytes ≡ front ++ last_five (R.byte c) (R.edition k).number n high low
        → ¬ ((1 ≤ n) × (n ≤ R.limit) × (high * 256 + low ≡ (R.edition k).width * n + 5) × ((R.edition k).width * n + 5 ≤ length bytes)) → Refuses bytes 33
    -- an item that is none under the letter, or keys that do not ascend
    item : (k : Kind) (c : Letter) (front body : List ℕ) (n : ℕ) → 1 ≤ n → n ≤ R.limit → length body ≡ (R.edition k).width * n
        → bytes ≡ front ++ (body ++ trailer_of R W k c n) → ¬ GoodBy R W k c (first_items R W k n (body ++ trailer_of R W k c n)) → Refuses bytes 34
    -- items that are else not allowed
    group : (k : Kind) (c : Letter) (front : List ℕ) (items : List Item) → 1 ≤ length items → length items ≤ R.limit
        → bytes ≡ front ++ record-bytes R W k c items → GoodBy R W k c items → ¬ W.IsAllowed c items → Refuses bytes 35

  -- What is refused with a number is refused by its rule,
  by-rule : (bytes : List ℕ) (t : Told Item Letter Kind) → Outcome R W bytes t → (number place : ℕ) → told_answer t ≡ refused number place tt
      → (place ≡ 0) × Refuses bytes number
  by-rule bytes t (too_short h) number place e = let same : number ≡ 30 = cc in ((cc), rw same (too_few h))
  by-rule bytes t (wrong-edition front l d n high low h p q) number place e = let same : number ≡ 31 =
      cc in ((cc), rw same (edition front l d n high low h p q))
  by-rule bytes t (wrong-letter k front l n high low h p q) number place e = let same : number ≡ 32 = cc in ((cc), rw same (letter k front l n high low h p q))
  by-rule bytes t (wrong-length k c front n high low h p q) number place e = let same : number ≡ 33 =
      cc in ((cc), rw same (count-or-length k c front n high low h p q))
  by-rule bytes t (wrong-item k c front body n one few wide p q) number place e = let same : number ≡ 34 =
      cc in ((cc), rw same (item k c front body n one few wide p q))
  by-rule bytes t (not-allowed k c front items one few p g q) number place e = let same : number ≡ 35 =
      cc in ((cc), rw same (group k c front items one few p g q))
  by-rule bytes t (accepted k c front items one few p g a) number place e = let z : ◌≡◌ {A = ℕ} 0 1 = cc in absurd (omega arith)

  -- and what a rule refuses is refused with its number, at 0.
  rule-answer : (bytes : List ℕ) (number : ℕ) → Refuses bytes number → told_answer (told_by R bytes) ≡ refused number 0 tt
  rule-answer bytes number (too_few h) = ap told_answer (outcome-told R W bytes (not-held Short) (too_short h))
  rule-answer bytes number (edition front l d n high low h p q) =
      ap told_answer (outcome-told R W bytes (not-held WrongEdition) (wrong-edition front l d n high low h p q))
  rule-answer bytes number (letter k front l n high low h p q) =
      ap told_answer (outcome-told R W bytes (not-held WrongLetter) (wrong-letter k front l n high low h p q))
  rule-answer bytes number (count-or-length k c front n high low h p q) =
      ap told_answer (outcome-told R W bytes (not-held WrongLength) (wrong-length k c front n high low h p q))
  rule-answer bytes number (item k c front body n one few wide p q) =
      ap told_answer (outcome-told R W bytes (not-held WrongItem) (wrong-item k c front body n one few wide p q))
  rule-answer bytes number (group k c front items one few p g q) =
      ap told_answer (outcome-told R W bytes (not-held NotAllowed) (not-allowed k c front items one few p g q))

  -- A buffer is refused with a number exactly if that number's rule says so, and its place is 0.
  pub told-refused : (bytes : List ℕ) → Bytes bytes → (number place : ℕ)
      → (told_answer (told_by R bytes) ≡ refused number place tt) ↔ ((place ≡ 0) × Refuses bytes number)
  told-refused bytes b number place = (
    by-rule bytes (told_by R bytes) (told-outcome R W bytes b) number place,
    λ (p, r). rw p (rule-answer bytes number r),
  )

-- ---- editions 1 and 3
-- What is accepted is answered by its letter and its operations.
accepted-answer : (k : Known) (s : Sign) (l : List Operation) → group_answer (accepted_group k s l) ≡ given (is_small s, lattice_of s, l)
unfolding accepted_group slots
accepted-answer k s l =
    ap (λ (o : List Operation). given (is_small s, lattice_of s, o)) (take_at l (replicate (48 - length l) identity_operation) (length l) refl)

-- What the reader hands back has the number and the place that are told.
pub group-number : {Kind : Type 0} (name : Kind → Known) (t : Told Item Sign Kind) (number place : ℕ)
    → (group_answer (group_as name t) ≡ refused number place tt) ↔ (told_answer t ≡ refused number place tt)
unfolding refused_group
group-number name (not-held r) number place = ((λ e. cc), λ e. cc)
group-number name (holds k c items) number place = (
  (λ e.
      let clash : ◌≡◌ {A = Answer (Bool × Centering × List Operation) Nothing} (given (is_small c, lattice_of c, map operation_of_item items))
      (refused number place tt) = sym (accepted-answer (name k) c (map operation_of_item items)) ∙ e in
      let z : ◌≡◌ {A = ℕ} 0 1 = cc in
      absurd (omega arith)),
  λ e. let z : ◌≡◌ {A = ℕ} 0 1 = cc in absurd (omega arith),
)

-- A buffer is refused with a number exactly if that number's rule says so, and its place is 0.
pub read-refused : (bytes : List ℕ) → Bytes bytes → (number place : ℕ)
    → (group_answer (read_of bytes) ≡ refused number place tt) ↔ ((place ≡ 0) × Refuses both_rules both_meaning bytes number)
unfolding read_of
read-refused bytes b number place = (
  (λ e. (told-refused both_rules both_meaning bytes b number place).0 ((group-number (λ (k : Known). k) (told_by both_rules bytes) number place).0 e)),
  λ h. (group-number (λ (k : Known). k) (told_by both_rules bytes) number place).1 ((told-refused both_rules both_meaning bytes b number place).1 h),
)

-- So 30 is given exactly if there are under nine bytes.
pub short-exactly : (bytes : List ℕ) → Bytes bytes → (group_answer (read_of bytes) ≡ refused 30 0 tt) ↔ (length bytes < 9)
short-exactly bytes b = ((λ e. from ((read-refused bytes b 30 0).0 e).1), λ h. (read-refused bytes b 30 0).1 (refl, too_few h))
  where
    from : Refuses both_rules both_meaning bytes 30 → length bytes < 9
    from (too_few h) = h

-- ---- number, place and value determine the answer
-- The refusal of a number.
refusal_of : ℕ → Refusal
refusal_of n =
    cond (eqb n 30) Short
    (cond (eqb n 31) WrongEdition (cond (eqb n 32) WrongLetter (cond (eqb n 33) WrongLength (cond (eqb n 34) WrongItem NotAllowed))))

refusal-again : (r : Refusal) → refusal_of (refusal_number r) ≡ r
unfolding refusal_of
refusal-again Short = refl
refusal-again WrongEdition = refl
refusal-again WrongLetter = refl
refusal-again WrongLength = refl
refusal-again WrongItem = refl
refusal-again NotAllowed = refl

-- Refusals with one number are one.
pub one-refusal : (r s : Refusal) → refusal_number r ≡ refusal_number s → r ≡ s
one-refusal r s e = sym (refusal-again r) ∙ ap refusal_of e ∙ refusal-again s

-- A reading is refused or accepted.
abbrev Shape : RecordGroup → Type 0
Shape g = ((r : Refusal) × (g ≡ refused_group r)) ⊎ ((k : Known) × (s : Sign) × (l : List Operation) × (g ≡ accepted_group k s l))

shape : (t : Told Item Sign Known) → Shape (group_of t)
shape (not-held r) = inl (r, refl)
shape (holds k c items) = inr (k, c, map operation_of_item items, refl)

-- Accepted readings that state one edition are of one.
accepted-edition : (a b : Known) (c d : Sign) (l k : List Operation) → record_edition (accepted_group a c l) ≡ record_edition (accepted_group b d k) → a ≡ b
unfolding accepted_group
accepted-edition a b c d l k e = let same : (edition_of a).number ≡ (edition_of b).number = cc in one-edition a b same

same_shape : (g h : RecordGroup) → Shape g → Shape h → group_answer g ≡ group_answer h → record_edition g ≡ record_edition h → g ≡ h
unfolding refused_group
same_shape g h (inl (r, p)) (inl (s, q)) e n =
    let answers : group_answer (refused_group r) ≡ group_answer (refused_group s) = sym (ap group_answer p) ∙ e ∙ ap group_answer q in
    let same : refusal_number r ≡ refusal_number s = cc in
    p ∙ ap refused_group (one-refusal r s same) ∙ sym q
same_shape g h (inl (r, p)) (inr (k, c, l, q)) e n =
    let clash : group_answer (refused_group r) ≡ given (is_small c, lattice_of c, l) = sym (ap group_answer p) ∙ e ∙ ap group_answer q
    ∙ accepted-answer k c l in
    let z : ◌≡◌ {A = ℕ} 0 1 = cc in
    absurd (omega arith)
same_shape g h (inr (k, c, l, p)) (inl (r, q)) e n =
    let clash : group_answer (refused_group r) ≡ given (is_small c, lattice_of c, l) = sym (ap group_answer q) ∙ sym e ∙ ap group_answer p
    ∙ accepted-answer k c l in
    let z : ◌≡◌ {A = ℕ} 0 1 = cc in
    absurd (omega arith)
same_shape g h (inr (a, c, l, p)) (inr (b, d, k, q)) e n =
    let answers : ◌≡◌ {A = Answer (Bool × Centering × List Operation) Nothing} (given (is_small c, lattice_of c, l)) (given (is_small d, lattice_of d, k)) =
    sym (accepted-answer a c l) ∙ sym (ap group_answer p) ∙ e ∙ ap group_answer q ∙ accepted-answer b d k in
    let same : ◌≡◌ {A = Bool × Centering × List Operation} (is_small c, lattice_of c, l) (is_small d, lattice_of d, k) = cc in
    let letter : c ≡ d =
    sign-told c d (ap (λ (x : Bool × Centering × List Operation). x.0) same) (ap (λ (x : Bool × Centering × List Operation). x.1) same) in
    let list : l ≡ k = ap (λ (x : Bool × Centering × List Operation). x.2) same in
    let edition : a ≡ b = accepted-edition a b c d l k (sym (ap record_edition p) ∙ n ∙ ap record_edition q) in
    p ∙ ap₂ (λ (m : Known) (s : Sign). accepted_group m s l) edition letter ∙ ap (accepted_group b d) list ∙ sym q

-- Readings that are answered alike are one: nothing else is in what the reader hands back.
pub one-reading : (bytes other : List ℕ) → group_answer (read_of bytes) ≡ group_answer (read_of other) → record_edition (read_of bytes)
    ≡ record_edition (read_of other)
    → read_of bytes ≡ read_of other
unfolding read_of
one-reading bytes other e n = same_shape (read_of bytes) (read_of other) (shape (told_by both_rules bytes)) (shape (told_by both_rules other)) e n
