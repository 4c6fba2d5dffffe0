-- The written form, said of the terms of a line: the letters of each part ascend, a fraction in lowest terms may come last with a plus, and the text is
-- these terms with no leading plus and no spaces. An operation with entries in −1..1 and no row of zeros has exactly one such text.
use Rattle.std.specs.Prelude.{◌≡◌, refl, Bool, true, false, List, [], ◌∷◌, ◌++◌, ℕ, ◌<◌}
use Rattle.std.proofs.Common.{ap, ap₂, arith}
use Rattle.operation_line.specs.declared.Letter.{Letter}
use Rattle.operation_line.specs.declared.Letter.TheVariants.{X, Y, Z}
use Rattle.operation_line.specs.Spelling.{letter, fraction, Term, signed, Line}
use Rattle.operation_line.specs.Denoted.{sign_digit, digit_in, twelfths_in, digit_then, twelfths_then}
use Rattle.operation_line.specs.LowestTerms.{Lowest, lowest-term}
use Rattle.operation_line.specs.Writing.{letter_term, fraction_term, letters_of, row_terms, plain_line}

-- ---- the form
-- x before y before z.
pub data Before : Letter → Letter → Type 0 where
  x-y : Before X Y
  x-z : Before X Z
  y-z : Before Y Z

-- Letters that ascend, the last first; at least one.
pub data Ascending : List Term → Type 0 where
  one : (n : Bool) (l : Letter) → Ascending (signed n (letter l) ∷ [])
  then : {m : Bool} {k : Letter} {ts : List Term} → Ascending (signed m (letter k) ∷ ts) → (n : Bool) (l : Letter) → Before k l
      → Ascending (signed n (letter l) ∷ signed m (letter k) ∷ ts)

-- A fraction in lowest terms may follow, with a plus.
pub data WrittenTerms : List Term → Type 0 where
  plain : {ts : List Term} → Ascending ts → WrittenTerms ts
  moved : {ts : List Term} → Ascending ts → (p q : ℕ) → Lowest p q → WrittenTerms (signed false (fraction p q) ∷ ts)

-- A text in written form, and its terms.
pub record WrittenAs (text : List ℕ) (line : Line) : Type 0 where
  pub bytes : text ≡ plain_line line
  pub x : WrittenTerms line.x
  pub y : WrittenTerms line.y
  pub z : WrittenTerms line.z

-- ---- terms in written form are told by the row and the twelfths that they denote
term_told : (n : Bool) (l : Letter) → letter_term l (sign_digit n) ≡ signed n (letter l) ∷ []
term_told true l = refl
term_told false l = refl

-- No letter comes behind z.
place : Letter → ℕ
place X = 0
place Y = 1
place Z = 2

ascends : {k l : Letter} → Before k l → place k < place l
unfolding place
ascends x-y = omega arith
ascends x-z = omega arith
ascends y-z = omega arith

none-behind : {l : Letter} → Before Z l → ⊥
unfolding place
none-behind {l = X} b = absurd (omega (arith, ascends b))
none-behind {l = Y} b = absurd (omega (arith, ascends b))
none-behind {l = Z} b = absurd (omega (arith, ascends b))

letters-told : (ts : List Term) → Ascending ts → letters_of (digit_in X ts) (digit_in Y ts) (digit_in Z ts) ≡ ts
unfolding letters_of digit_in digit_then
letters-told ts (one n X) = term_told n X
letters-told ts (one n Y) = ap (λ (r : List Term). r ++ []) (term_told n Y)
letters-told ts (one n Z) = ap (λ (r : List Term). r ++ []) (term_told n Z)
letters-told ts (then (one m X) n Y x-y) = ap₂ ◌++◌ (term_told n Y) (term_told m X)
letters-told ts (then (one m X) n Z x-z) = ap₂ ◌++◌ (term_told n Z) (term_told m X)
letters-told ts (then (one m Y) n Z y-z) = ap₂ (λ (r s : List Term). r ++ (s ++ [])) (term_told n Z) (term_told m Y)
letters-told ts (then (then (one o X) m Y x-y) n Z y-z) = ap₂ ◌++◌ (term_told n Z) (ap₂ ◌++◌ (term_told m Y) (term_told o X))
letters-told ts (then (then (one o Y) m Z y-z) n l b) = absurd (none-behind b)
letters-told ts (then (then (then a o Y b) m Z y-z) n l c) = absurd (none-behind c)
letters-told ts (then (then (then a o Z b) m k c) n l d) = absurd (none-behind c)
letters-told _ (then {m = m} {k = X} (one _ _) n X b) = elim b [ ]
letters-told _ (then {m = m} {k = Y} (one _ _) n X b) = elim b [ ]
letters-told _ (then {m = m} {k = Y} (one _ _) n Y b) = elim b [ ]
letters-told _ (then {m = m} {k = Z} (one _ _) n l b) = elim b [ ]
letters-told _ (then {m = m} {k = X} (then {k = k} (one _ _) _ _ c) n l b) = elim c [ ]
letters-told _ (then {m = m} {k = Y} (then {k = X} (one _ _) _ _ x-y) n X b) = elim b [ ]
letters-told _ (then {m = m} {k = Y} (then {k = X} (one _ _) _ _ x-y) n Y b) = elim b [ ]
letters-told _ (then {m = m} {k = Y} (then {k = Y} (one _ _) _ _ c) n l b) = elim c [ ]
letters-told _ (then {m = m} {k = Y} (then {k = Z} (one _ _) _ _ c) n l b) = elim c [ ]
letters-told _ (then {m = m} {k = Z} (then {k = X} (one _ _) _ _ c) n l b) = elim b [ ]
letters-told _ (then {m = m} {k = Z} (then {k = Z} (one _ _) _ _ c) n l b) = elim c [ ]
letters-told _ (then {m = m} {k = k} (then {k = X} (then {ts = ts} a _ _ b) _ _ _) n l c) = elim b [ ]
letters-told _ (then {m = m} {k = X} (then {k = Y} (then {k = k} {ts = ts} a _ _ b) _ _ c') n l c) = elim c' [ ]
letters-told _ (then {m = m} {k = Y} (then {k = Y} (then {k = k} {ts = ts} a _ _ b) _ _ c') n l c) = elim c' [ ]

letters-rest : (ts : List Term) → Ascending ts → twelfths_in ts ≡ 0
unfolding twelfths_in twelfths_then
letters-rest ts (one n l) = refl
letters-rest ts (then a n l b) = letters-rest _ a

moved_told : (us : List Term) → Ascending us → (p q : ℕ) → Lowest p q
    → row_terms (digit_in X (signed false (fraction p q) ∷ us)) (digit_in Y (signed false (fraction p q) ∷ us)) (digit_in Z (signed false (fraction p q) ∷ us))
    (twelfths_in (signed false (fraction p q) ∷ us)) ≡ signed false (fraction p q) ∷ us
unfolding row_terms digit_in digit_then twelfths_in twelfths_then
moved_told us a p q l = ap₂ ◌++◌ (lowest-term p q l) (letters-told us a)

-- Terms in written form are those of the row and the twelfths that they denote.
pub row_told : (ts : List Term) → WrittenTerms ts → row_terms (digit_in X ts) (digit_in Y ts) (digit_in Z ts) (twelfths_in ts) ≡ ts
unfolding row_terms
row_told ts (plain a) = ap₂ (λ (k : ℕ) (l : List Term). fraction_term k ++ l) (letters-rest ts a) (letters-told ts a)
row_told ts (moved {ts = us} a p q l) = moved_told us a p q l
