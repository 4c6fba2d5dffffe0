-- What is written is a line by the spelling rules, in written form, and denotes the operation; and no other text in written form does.
use Rattle.std.specs.Prelude.{◌≡◌, refl, Bool, true, false, ◌&&◌, List, [], ◌∷◌, ◌++◌, ◌↔◌, ℕ, zero, suc, ◌<◌, ◌≤◌, eqb, nat_abs, length}
use Rattle.std.proofs.Common.{sym, ◌∙◌, ap, subst, append-nil, inl, inr, arith, eqb-true}
use Rattle.std.proofs.lemmas.Bool.{false≢true}
use Rattle.std.proofs.Math.Bool.{and-eq-true_iff}
use Rattle.std.proofs.Math.IntN.{one}
use Rattle.laws.specs.Integer.{ring, nought, ◌⊖◌}
use Rattle.laws.specs.Matrix.{Matrix, determinant, Unimodular}
use Rattle.operation.specs.Below.{all_below, below}
use Rattle.operation.specs.Entries.{all-entries, digits-entries}
use Rattle.operation.specs.Meaning.{entry_of, matrix_of, Digits, rotation≡}
use Rattle.operation.specs.RotationType.{handedness_of, proper-determinant, improper-determinant, determinant-proper, determinant-improper, is_turn}
use Rattle.operation.specs.declared.Operation.{Operation}
use Rattle.operation.specs.declared.Rotation.{Rotation}
use Rattle.operation.specs.declared.Translation.{Translation}
use Rattle.operation.specs.declared.rotation_type.Handedness.{Handedness}
use Rattle.operation.specs.declared.rotation_type.Handedness.TheVariants.{Proper, Improper, Neither}
use Rattle.five_bytes.specs.FiveBytes.{Sayable}
use Rattle.five_bytes.specs.OneForm.{operation≡}
use Rattle.operation_line.specs.declared.Letter.{Letter}
use Rattle.operation_line.specs.declared.Letter.TheVariants.{X, Y, Z}
use Rattle.operation_line.specs.Spelling.{letter, fraction, Term, signed, body_bytes, Terms, Line, Spells, used}
use Rattle.operation_line.specs.Spelling as spelling
use Rattle.operation_line.specs.Denoted.{digit_in, twelfths_in, digit_then, twelfths_then, rotation_of_line, translation_of_line, operation_of_line}
use Rattle.operation_line.specs.Writing.{letter_term, letters_of, row_terms, line_of, sign_bytes, is_empty, plain_bytes, plain_line, written_line, writable}
use Rattle.operation_line.specs.LowestTerms.{Lowest, twelfths-lowest}
use Rattle.operation_line.specs.WrittenForm.{Before, x-y, x-z, y-z, Ascending, WrittenTerms, WrittenAs, row_told}
use Rattle.operation_line.specs.WrittenForm as form

-- ---- the terms of a row denote it: one test over 27 rows and twelve translations
denotes : ℕ → ℕ → ℕ → ℕ → Bool
denotes a b c k =
    let ts = row_terms a b c k in
    eqb (digit_in X ts) a && (eqb (digit_in Y ts) b && (eqb (digit_in Z ts) c && eqb (twelfths_in ts) k))

all-denote : all_below 3 (λ a. all_below 3 (λ b. all_below 3 (λ c. all_below 12 (λ k. denotes a b c k)))) ≡ true
unfolding all_below denotes row_terms letters_of digit_in digit_then twelfths_in twelfths_then
all-denote = refl

pub record Denotes (ts : List Term) (a b c k : ℕ) : Type 0 where
  pub x : digit_in X ts ≡ a
  pub y : digit_in Y ts ≡ b
  pub z : digit_in Z ts ≡ c
  pub moved : twelfths_in ts ≡ k

row-denotes : (a b c k : ℕ) → a ≤ 2 → b ≤ 2 → c ≤ 2 → k < 12 → Denotes (row_terms a b c k) a b c k
unfolding denotes
row-denotes a b c k p q r s =
    let at_a = below 3 (λ a. all_below 3 (λ b. all_below 3 (λ c. all_below 12 (λ k. denotes a b c k)))) all-denote a (omega arith) in
    let at_b = below 3 (λ b. all_below 3 (λ c. all_below 12 (λ k. denotes a b c k))) at_a b (omega arith) in
    let at_c = below 3 (λ c. all_below 12 (λ k. denotes a b c k)) at_b c (omega arith) in
    let at-k : denotes a b c k ≡ true = below 12 (λ k. denotes a b c k) at_c k s in
    let (x, more) = (and-eq-true_iff (eqb (digit_in X (row_terms a b c k)) a) _).0 at-k in
    let (y, rest) = (and-eq-true_iff (eqb (digit_in Y (row_terms a b c k)) b) _).0 more in
    let (z, last) = (and-eq-true_iff (eqb (digit_in Z (row_terms a b c k)) c) _).0 rest in
    record { x = eqb-true _ a x; y = eqb-true _ b y; z = eqb-true _ c z; moved = eqb-true _ k last }

pub written-denotes : (f : Operation) → Sayable f → operation_of_line (line_of f) ≡ f
unfolding operation_of_line rotation_of_line translation_of_line line_of
written-denotes f s =
    let r = f.rotation in
    let t = f.translation in
    let d = s.digits in
    let x = row-denotes r.xx r.xy r.xz t.x d.xx d.xy d.xz s.x in
    let y = row-denotes r.yx r.yy r.yz t.y d.yx d.yy d.yz s.y in
    let z = row-denotes r.zx r.zy r.zz t.z d.zx d.zy d.zz s.z in
    operation≡ (rotation≡ x.x x.y x.z y.x y.y y.z z.x z.y z.z) (λ i. record { x = x.moved i; y = y.moved i; z = z.moved i })

-- ---- a row with an entry other than 0 has its terms in written form
-- A letter's term is there, or not.
data Shown (l : Letter) : List Term → Type 0 where
  absent : Shown l []
  present : (n : Bool) → Shown l (signed n (letter l) ∷ [])

shown : (l : Letter) (d : ℕ) → Shown l (letter_term l d)
shown l zero = present true
shown l (suc zero) = absent
shown l (suc (suc d)) = present false

ascend : {x y z : List Term} → Shown X x → Shown Y y → Shown Z z → ¬ (z ++ (y ++ x) ≡ []) → Ascending (z ++ (y ++ x))
ascend absent absent absent h = absurd (h refl)
ascend (present n) absent absent h = form.one n X
ascend absent (present n) absent h = form.one n Y
ascend absent absent (present n) h = form.one n Z
ascend (present m) (present n) absent h = form.then (form.one m X) n Y x-y
ascend (present m) absent (present n) h = form.then (form.one m X) n Z x-z
ascend absent (present m) (present n) h = form.then (form.one m Y) n Z y-z
ascend (present m) (present n) (present o) h = form.then (form.then (form.one m X) n Y x-y) o Z y-z

letters-ascend : (a b c : ℕ) → ¬ (letters_of a b c ≡ []) → Ascending (letters_of a b c)
unfolding letters_of
letters-ascend a b c h = ascend (shown X a) (shown Y b) (shown Z c) h

row_written : (a b c k : ℕ) → k < 12 → ¬ (letters_of a b c ≡ []) → WrittenTerms (row_terms a b c k)
unfolding row_terms
row_written a b c zero h some = form.plain (letters-ascend a b c some)
row_written a b c (suc k) h some = form.moved (letters-ascend a b c some) _ _ (twelfths-lowest k h)

-- A row without letters is a row of zeros,
no-letter : (l : Letter) (d : ℕ) → letter_term l d ≡ [] → d ≡ 1
no-letter l zero e = let z : ◌≡◌ {A = ℕ} 1 0 = ap length e in absurd (omega arith)
no-letter l (suc zero) e = refl
no-letter l (suc (suc d)) e = let z : ◌≡◌ {A = ℕ} 1 0 = ap length e in absurd (omega arith)

both-empty : (s t : List Term) → s ++ t ≡ [] → (s ≡ []) × (t ≡ [])
both-empty [] t e = (refl, e)
both-empty (a ∷ s) t e = let z : suc (length (s ++ t)) ≡ 0 = ap length e in absurd (omega arith)

zero_row : (a b c : ℕ) → letters_of a b c ≡ [] → (a ≡ 1) × (b ≡ 1) × (c ≡ 1)
unfolding letters_of
zero_row a b c e =
    let (z, rest) = both-empty (letter_term Z c) (letter_term Y b ++ letter_term X a) e in
    let (y, x) = both-empty (letter_term Y b) (letter_term X a) rest in
    (no-letter X a x, no-letter Y b y, no-letter Z c z)

-- and the determinant of a matrix with such a row is 0.
entry-nought : (d : ℕ) → d ≡ 1 → entry_of d ≡ nought
unfolding entry_of nought one
entry-nought d e = rw e refl

zero-first : (A : Matrix) → A.xx ≡ nought → A.xy ≡ nought → A.xz ≡ nought → determinant A ≡ nought
unfolding determinant ◌⊖◌
zero-first A x y z = rw (x, y, z) (simp ring)

zero-second : (A : Matrix) → A.yx ≡ nought → A.yy ≡ nought → A.yz ≡ nought → determinant A ≡ nought
unfolding determinant ◌⊖◌
zero-second A x y z = rw (x, y, z) (simp ring)

zero-third : (A : Matrix) → A.zx ≡ nought → A.zy ≡ nought → A.zz ≡ nought → determinant A ≡ nought
unfolding determinant ◌⊖◌
zero-third A x y z = rw (x, y, z) (simp ring)

not-nought : (A : Matrix) → Unimodular A → ¬ (determinant A ≡ nought)
unfolding one nought
not-nought A (inl e) z = let same : ◌≡◌ {A = ℕ} 1 0 = ap nat_abs (sym e ∙ z) in absurd (omega arith)
not-nought A (inr e) z = let same : ◌≡◌ {A = ℕ} 1 0 = ap nat_abs (sym e ∙ z) in absurd (omega arith)

-- ---- what 42 asks
turn-unimodular : (A : Matrix) (h : Handedness) → handedness_of A ≡ h → is_turn h ≡ true → Unimodular A
turn-unimodular A Proper e t = inl (proper-determinant A e).1
turn-unimodular A Improper e t = inr (improper-determinant A e).1
turn-unimodular A Neither e t = absurd (false≢true t)

unimodular-turn : (f : Operation) → Digits f.rotation → Unimodular (matrix_of f.rotation) → writable f ≡ true
unfolding writable
unimodular-turn f d (inl e) = rw (determinant-proper (matrix_of f.rotation) ((all-entries _).1 ((digits-entries f.rotation).0 d)) e)
unimodular-turn f d (inr e) = rw (determinant-improper (matrix_of f.rotation) ((all-entries _).1 ((digits-entries f.rotation).0 d)) e)

pub writable-exactly : (f : Operation) → Sayable f → (writable f ≡ true) ↔ Unimodular (matrix_of f.rotation)
unfolding writable
writable-exactly f s = (turn-unimodular (matrix_of f.rotation) (handedness_of (matrix_of f.rotation)) refl, unimodular-turn f s.digits)

-- ---- the theorems
pub written-form : (f : Operation) → Sayable f → Unimodular (matrix_of f.rotation) → WrittenAs (written_line f) (line_of f)
unfolding written_line line_of matrix_of
written-form f s u =
    record {
      bytes = refl;
      x = row_written r.xx r.xy r.xz t.x s.x
          (λ e. let (a, b, c) = zero_row r.xx r.xy r.xz e in not-nought A u (zero-first A (entry-nought _ a) (entry-nought _ b) (entry-nought _ c)));
      y = row_written r.yx r.yy r.yz t.y s.y
          (λ e. let (a, b, c) = zero_row r.yx r.yy r.yz e in not-nought A u (zero-second A (entry-nought _ a) (entry-nought _ b) (entry-nought _ c)));
      z = row_written r.zx r.zy r.zz t.z s.z
          (λ e. let (a, b, c) = zero_row r.zx r.zy r.zz e in not-nought A u (zero-third A (entry-nought _ a) (entry-nought _ b) (entry-nought _ c)));
    }
  where
    r : Rotation
    r = f.rotation

    t : Translation
    t = f.translation

    A : Matrix
    A = matrix_of f.rotation

-- No other text in written form denotes the operation.
line-told : (line : Line) (text : List ℕ) → WrittenAs text line → line_of (operation_of_line line) ≡ line
unfolding line_of operation_of_line rotation_of_line translation_of_line
line-told line text w =
    let x = row_told line.x w.x in
    let y = row_told line.y w.y in
    let z = row_told line.z w.z in
    λ i. record { x = x i; y = y i; z = z i }

pub written_once : (f : Operation) (text : List ℕ) (line : Line) → WrittenAs text line → operation_of_line line ≡ f → text ≡ written_line f
unfolding written_line
written_once f text line w e = w.bytes ∙ ap plain_line (sym (line-told line text w) ∙ ap line_of e)

-- ---- it is spelt by the rules
-- The first term, without a leading plus.
first-spelt : (n : Bool) (l : Letter) → Terms (plain_bytes (signed n (letter l) ∷ [])) (signed n (letter l) ∷ [])
unfolding plain_bytes used
first-spelt true l = spelling.then (spelling.blank spelling.none) true spelling.none (letter l) tt refl spelling.none
first-spelt false l = spelling.unsigned spelling.none (letter l) tt spelling.none

unused-letter : {m : Bool} {k : Letter} {ts : List Term} → Ascending (signed m (letter k) ∷ ts) → (l : Letter) → Before k l
    → used (letter l) (signed m (letter k) ∷ ts) ≡ false
unfolding used
unused-letter (form.one n X) Y x-y = refl
unused-letter (form.one n X) Z x-z = refl
unused-letter (form.one n Y) Z y-z = refl
unused-letter (form.then a n Y x-y) Z y-z = unused-letter a Z x-z
unused-letter (form.one n X) X x10 = elim x10 [ ]
unused-letter (form.one n Y) X x11 = elim x11 [ ]
unused-letter (form.one n Y) Y x12 = elim x12 [ ]
unused-letter (form.one n Z) l x11 = elim x11 [ ]
unused-letter (form.then {m = m} {k = k} {ts = ts} a n X x11) l _ = elim x11 [ ]
unused-letter (form.then {m = m} {ts = ts} a n Y x-y) X x17 = elim x17 [ ]
unused-letter (form.then {m = m} {ts = ts} a n Y x-y) Y x18 = elim x18 [ ]
unused-letter (form.then {m = m} {k = k} {ts = ts} a n Z _) l x14 = elim x14 [ ]

unused-fraction : (p q : ℕ) {ts : List Term} → Ascending ts → used (fraction p q) ts ≡ false
unfolding used
unused-fraction p q (form.one n l) = refl
unused-fraction p q (form.then a n l b) = unused-fraction p q a

letters-spelt : {ts : List Term} → Ascending ts → Terms (plain_bytes ts) ts
unfolding plain_bytes
letters-spelt (form.one n l) = first-spelt n l
letters-spelt (form.then a true l b) = spelling.then (letters-spelt a) true spelling.none (letter l) tt (unused-letter a l b) spelling.none
letters-spelt (form.then a false l b) = spelling.then (letters-spelt a) false spelling.none (letter l) tt (unused-letter a l b) spelling.none

some-letter : {ts : List Term} → Ascending ts → is_empty ts ≡ false
some-letter (form.one n l) = refl
some-letter (form.then a n l b) = refl

moved-spelt : {ts : List Term} → Ascending ts → (p q : ℕ) → Lowest p q
    → Terms (plain_bytes (signed false (fraction p q) ∷ ts)) (signed false (fraction p q) ∷ ts)
unfolding plain_bytes
moved-spelt {ts} a p q l =
    let body = body_bytes (fraction p q) in
    let signed-body : 43 ∷ (body ++ []) ≡ sign_bytes (is_empty ts) false ++ body =
    ap (λ (w : List ℕ). 43 ∷ w) (append-nil body) ∙ ap (λ (e : Bool). sign_bytes e false ++ body) (sym (some-letter a)) in
    subst (λ (w : List ℕ). Terms (plain_bytes ts ++ w) (signed false (fraction p q) ∷ ts)) signed-body
    (spelling.then (letters-spelt a) false spelling.none (fraction p q) l.proper (unused-fraction p q a) spelling.none)

terms-spelt : {ts : List Term} → WrittenTerms ts → Terms (plain_bytes ts) ts
terms-spelt (form.plain a) = letters-spelt a
terms-spelt (form.moved a p q l) = moved-spelt a p q l

ascending-terms : {ts : List Term} → Ascending ts → ¬ (ts ≡ [])
ascending-terms (form.one n l) e = let z : ◌≡◌ {A = ℕ} 1 0 = ap length e in absurd (omega arith)
ascending-terms (form.then {ts = us} a n l b) e = let z : suc (suc (length us)) ≡ 0 = ap length e in absurd (omega arith)

some-terms : {ts : List Term} → WrittenTerms ts → ¬ (ts ≡ [])
some-terms (form.plain a) e = ascending-terms a e
some-terms (form.moved {ts = us} a p q l) e = let z : suc (length us) ≡ 0 = ap length e in absurd (omega arith)

-- Every text in written form is a line.
pub form-spells : (text : List ℕ) (line : Line) → WrittenAs text line → Spells text line
unfolding plain_line
form-spells text line w =
    record {
      first = plain_bytes line.x;
      second = plain_bytes line.y;
      third = plain_bytes line.z;
      split = w.bytes;
      of-x = record { spelt = terms-spelt w.x; some = some-terms w.x };
      of-y = record { spelt = terms-spelt w.y; some = some-terms w.y };
      of-z = record { spelt = terms-spelt w.z; some = some-terms w.z };
    }

-- What is written for an operation: a line by the spelling rules, in written form, that denotes the operation.
pub record WrittenFor (f : Operation) (text : List ℕ) : Type 0 where
  pub line : Line
  pub spells : Spells text line
  pub written : WrittenAs text line
  pub denotes : operation_of_line line ≡ f

pub written-spelt : (f : Operation) → Sayable f → Unimodular (matrix_of f.rotation) → WrittenFor f (written_line f)
written-spelt f s u =
    let w = written-form f s u in
    record { line = line_of f; spells = form-spells (written_line f) (line_of f) w; written = w; denotes = written-denotes f s }

-- Only one text is so.
pub written_one : (f : Operation) (s t : List ℕ) → WrittenFor f s → WrittenFor f t → s ≡ t
written_one f s t a b = written_once f s a.line a.written a.denotes ∙ sym (written_once f t b.line b.written b.denotes)
