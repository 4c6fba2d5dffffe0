-- What each answer to a line says of its text, by the spelling rules alone: when an operation is read, and when 40, 41 and 42 are told.
-- The reader answers exactly so, and of any text exactly one answer holds.
use Rattle.std.proofs.Math.Path.{◌≡◌, refl, ap, subst}
use Rattle.std.proofs.Common.{sym, ◌∙◌, inl, inr, arith, ltb-true, ltb-false, lt-ltb, le-ltb}
use Rattle.std.specs.Prelude.{Bool, true, false, ◌↔◌, ℕ, ◌<◌, ◌≤◌, ltb, Err, Ok, Result}
use Rattle.std.proofs.Math.Bool.{cond}
use mathlib.Core.List.{List, [], ◌∷◌}
use Rattle.std.proofs.Math.ListN.{length}
use Rattle.laws.specs.Matrix.{Matrix, Unimodular}
use Rattle.laws.specs.Prefixes.{FirstOffending, first-unique, offending-misspelt}
use Rattle.operation.specs.Answer.{Answer, Nothing, given, refused}
use Rattle.operation.specs.Meaning.{matrix_of, all_inside}
use Rattle.operation.specs.Entries.{all-entries, digits-entries}
use Rattle.operation.specs.RotationType.{handedness_of, proper-determinant, improper-determinant, determinant-proper, determinant-improper}
use Rattle.operation.specs.declared.Operation as operation
use Rattle.operation.specs.declared.rotation_type.Handedness.{Handedness}
use Rattle.operation.specs.declared.rotation_type.Handedness.TheVariants.{Proper, Improper, Neither}
use Rattle.operation_line.specs.declared.reader.Mode.{Mode}
use Rattle.operation_line.specs.declared.reader.Mode.TheVariants.{Start, Owed, Told, Numerator, Behind, Twelfth}
use Rattle.operation_line.specs.Spelling.{Term, Line, Spells, Spelt}
use Rattle.operation_line.specs.Denoted.{rotation_of_line, operation_of_line}
use Rattle.operation_line.specs.Reading.{Reading, Reached, at, stopped, reach, begin, turned, decided, line_of, whole_line, ended, answered, read_line}
use Rattle.operation_line.specs.SpeltRead.{read, spelt-read, reads-exact}
use Rattle.operation_line.specs.Offending.{stopped-offending, ended-offending}
use Rattle.operation_line.specs.Ended.{line-digits}
use Rattle.operation_line.specs.declared.ReadingRefusal.TheVariants.{Determinant, Misspelt, TooLong}
use Rattle.operation.specs.declared.Operation.{Operation}
use Rattle.operation_line.specs.declared.ReadingRefusal.{ReadingRefusal}

-- ---- in numbers

-- Number, place and value of each answer.
abbrev pub answer_of : Result Operation ReadingRefusal → Answer operation.Operation Nothing
answer_of (Ok f) = given f
answer_of (Err TooLong) = refused 40 0 tt
answer_of (Err (Misspelt k)) = refused 41 k tt
answer_of (Err Determinant) = refused 42 0 tt

-- The number, 0 where an operation is read.
abbrev pub number_of : Result Operation ReadingRefusal → ℕ
number_of (Ok f) = 0
number_of (Err TooLong) = 40
number_of (Err (Misspelt k)) = 41
number_of (Err Determinant) = 42

abbrev pub place_of : Result Operation ReadingRefusal → ℕ
place_of (Ok f) = 0
place_of (Err TooLong) = 0
place_of (Err (Misspelt k)) = k
place_of (Err Determinant) = 0

-- ---- by the rules

-- At most 64 bytes, spelt by the rules, and the terms' matrix has determinant 1 or −1: the operation is theirs.
pub record IsRead (text : List ℕ) (f : operation.Operation) : Type 0 where
  pub short : length text ≤ 64
  pub line : Line
  pub spells : Spells text line
  pub is : f ≡ operation_of_line line
  pub unimodular : Unimodular (matrix_of f.rotation)

-- 42: spelt by the rules, with another determinant.
pub record NoMotion (text : List ℕ) : Type 0 where
  pub short : length text ≤ 64
  pub line : Line
  pub spells : Spells text line
  pub other : ¬ (Unimodular (matrix_of (operation_of_line line).rotation))

-- What holds of a text where an answer is right.
abbrev pub Answers : List ℕ → Result Operation ReadingRefusal → Type 0
Answers text (Ok f) = IsRead text f
Answers text (Err TooLong) = 64 < length text
Answers text (Err (Misspelt k)) = (length text ≤ 64) × FirstOffending Spelt text k
Answers text (Err Determinant) = NoMotion text

-- ---- the determinant

line-inside : (l : Line) → all_inside (matrix_of (operation_of_line l).rotation) ≡ true
unfolding operation_of_line
line-inside l = (all-entries (matrix_of (rotation_of_line l))).1 ((digits-entries (rotation_of_line l)).0 (line-digits l))

abbrev Handed : Matrix → Handedness → Type 0
Handed A Proper = Unimodular A
Handed A Improper = Unimodular A
Handed A Neither = ¬ (Unimodular A)

handed : (A : Matrix) → all_inside A ≡ true → (h : Handedness) → handedness_of A ≡ h → Handed A h
handed A inside Proper e = inl (proper-determinant A e).1
handed A inside Improper e = inr (improper-determinant A e).1
handed A inside Neither e = go
  where
    go : Unimodular A → ⊥
    go (inl d) = let p = determinant-proper A inside d in let z : ◌≡◌ {A = ℕ} 0 1 = cc in absurd (omega arith)
    go (inr d) = let p = determinant-improper A inside d in let z : ◌≡◌ {A = ℕ} 0 1 = cc in absurd (omega arith)

-- A line's matrix by its own handedness.
line-handed : (l : Line) (h : Handedness) → handedness_of (matrix_of (operation_of_line l).rotation) ≡ h → Handed (matrix_of (operation_of_line l).rotation) h
line-handed l h e = handed (matrix_of (operation_of_line l).rotation) (line-inside l) h e

module _ (text : List ℕ) where
  -- What is spelt is answered by its determinant.
  pub spelt-answer : (l : Line) → length text ≤ 64 → Spells text l → read_line text ≡ decided (operation_of_line l)
  unfolding read_line answered ended whole_line
  spelt-answer l short spells =
      ap (λ (t : Bool). cond t (Err TooLong) (answered text (reach text begin))) (le-ltb 64 (length text) short) ∙ ap (answered text) (spelt-read text l spells)

  -- ---- the reader's answer holds

  decided-holds : (l : Line) → length text ≤ 64 → Spells text l → Answers text (decided (operation_of_line l))
  unfolding turned
  decided-holds l short spells = go (handedness_of (matrix_of (operation_of_line l).rotation)) refl
    where
      go : (h : Handedness) → handedness_of (matrix_of (operation_of_line l).rotation) ≡ h → Answers text (turned (operation_of_line l) h)
      go Proper e = record { short = short; line = l; spells = spells; is = refl; unimodular = line-handed l Proper e }
      go Improper e = record { short = short; line = l; spells = spells; is = refl; unimodular = line-handed l Improper e }
      go Neither e = record { short = short; line = l; spells = spells; other = line-handed l Neither e }

  module _ (short : length text ≤ 64) (s : Reading) (reached : reach text begin ≡ at s) where
    -- A spelt text is read to the end of its third part.
    at-end : (l : Line) → Spells text l → s ≡ read l
    at-end l spells = let e = sym reached ∙ spelt-read text l spells in cc

    breaks-off : ¬ ((s.mode ≡ Told) × (length s.done ≡ 2)) → Answers text (Err (Misspelt (length text)))
    breaks-off not-whole =
        (short, ended-offending text s reached (λ (l, spells). not-whole (whole l spells)))
      where
        whole : (l : Line) → Spells text l → (s.mode ≡ Told) × (length s.done ≡ 2)
        whole l spells = (ap (λ (r : Reading). r.mode) (at-end l spells), ap (λ (r : Reading). length r.done) (at-end l spells))

    whole-holds : s.mode ≡ Told → (d : List (List Term)) → s.done ≡ d → Answers text (whole_line (length text) d s.terms)
    unfolding whole_line
    whole-holds m [] e = breaks-off (λ (t, two). absurd (omega (arith, ap length e)))
    whole-holds m (y ∷ []) e = breaks-off (λ (t, two). absurd (omega (arith, ap length e)))
    whole-holds m (y ∷ (x ∷ [])) e =
        let l = line_of x y s.terms in
        let same : s ≡ read l = λ i. record { done = e i; terms = s.terms; mode = m i } in
        decided-holds l short ((reads-exact text l).0 (reached ∙ ap at same))
    whole-holds m (y ∷ (x ∷ (w ∷ ps))) e = breaks-off (λ (t, two). absurd (omega (arith, ap length e)))

    ended-holds : (m : Mode) → s.mode ≡ m → Answers text (ended (length text) s m)
    unfolding ended
    ended-holds Start e = breaks-off (λ (t, two). let z : ◌≡◌ {A = ℕ} 0 1 = cc in absurd (omega arith))
    ended-holds (Owed n) e = breaks-off (λ (t, two). let z : ◌≡◌ {A = ℕ} 0 1 = cc in absurd (omega arith))
    ended-holds Told e = whole-holds e s.done refl
    ended-holds (Numerator n m) e = breaks-off (λ (t, two). let z : ◌≡◌ {A = ℕ} 0 1 = cc in absurd (omega arith))
    ended-holds (Behind n m) e = breaks-off (λ (t, two). let z : ◌≡◌ {A = ℕ} 0 1 = cc in absurd (omega arith))
    ended-holds (Twelfth n m) e = breaks-off (λ (t, two). let z : ◌≡◌ {A = ℕ} 0 1 = cc in absurd (omega arith))

  answer-holds : Answers text (read_line text)
  unfolding read_line answered
  answer-holds = go (ltb 64 (length text)) refl
    where
      from : length text ≤ 64 → (w : Reached) → reach text begin ≡ w → Answers text (answered text w)
      from short (at s) e = ended-holds short s e s.mode refl
      from short stopped e = (short, stopped-offending text e)

      go : (t : Bool) → ltb 64 (length text) ≡ t → Answers text (cond t (Err TooLong) (answered text (reach text begin)))
      go true e = ltb-true 64 (length text) e
      go false e = from (ltb-false 64 (length text) e) (reach text begin) refl

  -- ---- an answer that holds is the reader's

  kept : (f : operation.Operation) (h : Handedness) → Handed (matrix_of f.rotation) h → Unimodular (matrix_of f.rotation) → turned f h ≡ Ok f
  unfolding turned
  kept f Proper h u = refl
  kept f Improper h u = refl
  kept f Neither h u = absurd (h u)

  dropped : (f : operation.Operation) (h : Handedness) → Handed (matrix_of f.rotation) h → ¬ (Unimodular (matrix_of f.rotation)) → turned f h ≡ Err Determinant
  unfolding turned
  dropped f Proper h none = absurd (none h)
  dropped f Improper h none = absurd (none h)
  dropped f Neither h none = refl

  misspelt-answer : (k : ℕ) → length text ≤ 64 → FirstOffending Spelt text k → read_line text ≡ Err (Misspelt k)
  misspelt-answer k short w = go (read_line text) refl answer-holds
    where
      go : (r : Result Operation ReadingRefusal) → read_line text ≡ r → Answers text r → read_line text ≡ Err (Misspelt k)
      go (Ok f) e h = absurd (offending-misspelt Spelt text k w (h.line, h.spells))
      go (Err TooLong) e h = absurd (omega arith)
      go (Err (Misspelt j)) e h = e ∙ ap (λ x. Err (Misspelt x)) (first-unique Spelt text j k h.1 w)
      go (Err Determinant) e h = absurd (offending-misspelt Spelt text k w (h.line, h.spells))

  holds-answer : (r : Result Operation ReadingRefusal) → Answers text r → read_line text ≡ r
  unfolding read_line
  holds-answer (Ok f) h =
      let l = h.line in
      let g = operation_of_line l in
      let turn = handedness_of (matrix_of g.rotation) in
      let u : Unimodular (matrix_of g.rotation) = subst (λ (g : operation.Operation). Unimodular (matrix_of g.rotation)) h.is h.unimodular in
      spelt-answer l h.short h.spells ∙ kept g turn (line-handed l turn refl) u
      ∙ ap Ok (sym h.is)
  holds-answer (Err TooLong) h = ap (λ (t : Bool). cond t (Err TooLong) (answered text (reach text begin))) (lt-ltb 64 (length text) h)
  holds-answer (Err (Misspelt k)) h = misspelt-answer k h.0 h.1
  holds-answer (Err Determinant) h =
      let l = h.line in
      let g = operation_of_line l in
      let turn = handedness_of (matrix_of g.rotation) in
      spelt-answer l h.short h.spells ∙ dropped g turn (line-handed l turn refl) h.other

  -- ---- the two are one

  -- The reader gives an answer exactly if it holds of the text.
  pub answers-exact : (r : Result Operation ReadingRefusal) → (read_line text ≡ r) ↔ Answers text r
  answers-exact r = ((λ e. subst (Answers text) e answer-holds), holds-answer r)

  -- Of any text one answer holds, and no other.
  pub one_answer : (r : Result Operation ReadingRefusal) × Answers text r
  one_answer = (read_line text, answer-holds)

  pub no-other-answer : (r s : Result Operation ReadingRefusal) → Answers text r → Answers text s → r ≡ s
  no-other-answer r s h k = sym (holds-answer r h) ∙ holds-answer s k

-- ---- number, place and value

abbrev said_number : Answer operation.Operation Nothing → ℕ
said_number (given f) = 0
said_number (refused n k c) = n

abbrev said_place : Answer operation.Operation Nothing → ℕ
said_place (given f) = 0
said_place (refused n k c) = k

-- They determine the answer.
pub one-said : (r s : Result Operation ReadingRefusal) → answer_of r ≡ answer_of s → r ≡ s
one-said (Ok f) (Ok g) e = cc
one-said (Ok f) (Err TooLong) e = absurd (omega (arith, ap said_number e))
one-said (Ok f) (Err (Misspelt j)) e = absurd (omega (arith, ap said_number e))
one-said (Ok f) (Err Determinant) e = absurd (omega (arith, ap said_number e))
one-said (Err TooLong) (Ok g) e = absurd (omega (arith, ap said_number e))
one-said (Err TooLong) (Err TooLong) e = refl
one-said (Err TooLong) (Err (Misspelt j)) e = absurd (omega (arith, ap said_number e))
one-said (Err TooLong) (Err Determinant) e = absurd (omega (arith, ap said_number e))
one-said (Err (Misspelt k)) (Ok g) e = absurd (omega (arith, ap said_number e))
one-said (Err (Misspelt k)) (Err TooLong) e = absurd (omega (arith, ap said_number e))
one-said (Err (Misspelt k)) (Err (Misspelt j)) e = cc
one-said (Err (Misspelt k)) (Err Determinant) e = absurd (omega (arith, ap said_number e))
one-said (Err Determinant) (Ok g) e = absurd (omega (arith, ap said_number e))
one-said (Err Determinant) (Err TooLong) e = absurd (omega (arith, ap said_number e))
one-said (Err Determinant) (Err (Misspelt j)) e = absurd (omega (arith, ap said_number e))
one-said (Err Determinant) (Err Determinant) e = refl

-- Which answer a number tells, and at which place.
said-forty : (r : Result Operation ReadingRefusal) (k : ℕ) → answer_of r ≡ refused 40 k tt → (k ≡ 0) × (r ≡ Err TooLong)
said-forty (Ok f) k e = absurd (omega (arith, ap said_number e))
said-forty (Err TooLong) k e = (sym (ap said_place e), refl)
said-forty (Err (Misspelt j)) k e = absurd (omega (arith, ap said_number e))
said-forty (Err Determinant) k e = absurd (omega (arith, ap said_number e))

said-misspelt : (r : Result Operation ReadingRefusal) (k : ℕ) → answer_of r ≡ refused 41 k tt → r ≡ Err (Misspelt k)
said-misspelt (Ok f) k e = absurd (omega (arith, ap said_number e))
said-misspelt (Err TooLong) k e = absurd (omega (arith, ap said_number e))
said-misspelt (Err (Misspelt j)) k e = ap (λ x. Err (Misspelt x)) (ap said_place e)
said-misspelt (Err Determinant) k e = absurd (omega (arith, ap said_number e))

said-determinant : (r : Result Operation ReadingRefusal) (k : ℕ) → answer_of r ≡ refused 42 k tt → (k ≡ 0) × (r ≡ Err Determinant)
said-determinant (Ok f) k e = absurd (omega (arith, ap said_number e))
said-determinant (Err TooLong) k e = absurd (omega (arith, ap said_number e))
said-determinant (Err (Misspelt j)) k e = absurd (omega (arith, ap said_number e))
said-determinant (Err Determinant) k e = (sym (ap said_place e), refl)

-- The parts that the code tells one by one are these.
pub number-said : (r : Result Operation ReadingRefusal) → said_number (answer_of r) ≡ number_of r
number-said (Ok f) = refl
number-said (Err TooLong) = refl
number-said (Err (Misspelt k)) = refl
number-said (Err Determinant) = refl

pub place-said : (r : Result Operation ReadingRefusal) → said_place (answer_of r) ≡ place_of r
place-said (Ok f) = refl
place-said (Err TooLong) = refl
place-said (Err (Misspelt k)) = refl
place-said (Err Determinant) = refl

module _ (text : List ℕ) where
  -- Read: at most 64 bytes, spelt by the rules, and the terms' matrix has determinant 1 or −1.
  pub reads-exactly : (f : operation.Operation) → (answer_of (read_line text) ≡ given f) ↔ IsRead text f
  reads-exactly f = (
    (λ e. (answers-exact text (Ok f)).0 (one-said (read_line text) (Ok f) e)),
    λ h. ap answer_of ((answers-exact text (Ok f)).1 h),
  )

  -- 40 at 0: over 64 bytes.
  pub forty-exactly : (k : ℕ) → (answer_of (read_line text) ≡ refused 40 k tt) ↔ ((k ≡ 0) × (64 < length text))
  forty-exactly k = (
    (λ e. let t = said-forty (read_line text) k e in (t.0, (answers-exact text (Err TooLong)).0 t.1)),
    λ (none, h). ap answer_of ((answers-exact text (Err TooLong)).1 h) ∙ ap (λ (j : ℕ). refused 40 j tt) (sym none),
  )

  -- 41: the first byte that no line so spelt, of any length, has after the bytes before it, or the length where the line breaks off.
  pub misspelt-exactly : (k : ℕ) → (answer_of (read_line text) ≡ refused 41 k tt) ↔ ((length text ≤ 64) × FirstOffending Spelt text k)
  misspelt-exactly k = (
    (λ e. (answers-exact text (Err (Misspelt k))).0 (said-misspelt (read_line text) k e)),
    λ h. ap answer_of ((answers-exact text (Err (Misspelt k))).1 h),
  )

  -- 42 at 0: spelt by the rules, with another determinant.
  pub determinant-exactly : (k : ℕ) → (answer_of (read_line text) ≡ refused 42 k tt) ↔ ((k ≡ 0) × NoMotion text)
  determinant-exactly k = (
    (λ e. let t = said-determinant (read_line text) k e in (t.0, (answers-exact text (Err Determinant)).0 t.1)),
    λ (none, h). ap answer_of ((answers-exact text (Err Determinant)).1 h) ∙ ap (λ (j : ℕ). refused 42 j tt) (sym none),
  )
