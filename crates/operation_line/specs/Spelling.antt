-- How operation lines are spelt, as R10 says it: three parts between commas, each of one or more terms, each term a sign and a letter
-- or a fraction. Nothing here reads: these are the rules that the reader and the writer are held against.
use Rattle.std.specs.Prelude.{◌≡◌, Bool, true, false, cond, ◌||◌, ℕ, ◌+◌, ◌/◌, ◌%◌, ◌<◌, ◌≤◌, ltb}
use mathlib.Core.List.{List, [], ◌∷◌, ◌++◌, Memᴰ as Mem}
use Rattle.operation_line.specs.declared.Letter.{Letter}
use Rattle.operation_line.specs.declared.Letter.TheVariants.{X, Y, Z}

-- ---- terms

-- What a term's sign stands before: a letter, or a numerator over a denominator.
pub data Body : Type 0 where
  letter : Letter → Body
  fraction : ℕ → ℕ → Body

pub record Term : Type 0 where
  pub negative : Bool
  pub body : Body

abbrev pub signed : Bool → Body → Term
signed n b = record { negative = n; body = b }

-- x y z
abbrev pub letter_byte : Letter → ℕ
letter_byte X = 120
letter_byte Y = 121
letter_byte Z = 122

-- `-` and `+`
abbrev pub sign_byte : Bool → ℕ
sign_byte true = 45
sign_byte false = 43

-- A number below 100 in decimal digits, with no leading zero.
unfoldable pub numeral : ℕ → List ℕ
numeral n = cond (ltb n 10) ((48 + n) ∷ []) ((48 + n / 10) ∷ (48 + n % 10) ∷ [])

-- A fraction has no spaces inside.
abbrev pub body_bytes : Body → List ℕ
body_bytes (letter l) = letter_byte l ∷ []
body_bytes (fraction n d) = numeral n ++ (47 ∷ numeral d)

abbrev pub denominators : List ℕ
denominators = 2 ∷ 3 ∷ 4 ∷ 6 ∷ 12 ∷ []

-- The numerator goes from 1 to one below the denominator.
abbrev pub Proper : Body → Type 0
Proper (letter l) = Unit {0}
Proper (fraction n d) = (1 ≤ n) × (n < d) × Mem d denominators

-- ---- parts

abbrev pub same_letter : Letter → Letter → Bool
same_letter X X = true
same_letter X Y = false
same_letter X Z = false
same_letter Y X = false
same_letter Y Y = true
same_letter Y Z = false
same_letter Z X = false
same_letter Z Y = false
same_letter Z Z = true

-- Whether two terms may not stand in one part: they have the same letter, or both a fraction.
abbrev pub clash : Body → Body → Bool
clash (letter l) (letter k) = same_letter l k
clash (letter l) (fraction n d) = false
clash (fraction m e) (letter k) = false
clash (fraction m e) (fraction n d) = true

-- Whether terms have this letter, or a fraction, already.
unfoldable pub used : Body → List Term → Bool
used b [] = false
used b (t ∷ ts) = clash b t.body || used b ts

-- Spaces, byte 32, and nothing else.
pub data Blank : List ℕ → Type 0 where
  none : Blank []
  space : {s : List ℕ} → Blank s → Blank (32 ∷ s)

-- The text of a part's first terms, the last of them first in the list. Each has a sign, but that a part's first plus may be missing; spaces stand
-- anywhere but inside a fraction; each letter, and a fraction, stands at most once.
pub data Terms : List ℕ → List Term → Type 0 where
  blank : {s : List ℕ} → Blank s → Terms s []
  unsigned : {s v : List ℕ} → Blank s → (b : Body) → Proper b → Blank v → Terms (s ++ (body_bytes b ++ v)) (signed false b ∷ [])
  then : {p u v : List ℕ} {ts : List Term} → Terms p ts → (n : Bool) → Blank u → (b : Body) → Proper b → used b ts ≡ false → Blank v
      → Terms (p ++ (sign_byte n ∷ (u ++ (body_bytes b ++ v)))) (signed n b ∷ ts)

-- A part has one or more terms.
pub record Part (text : List ℕ) (terms : List Term) : Type 0 where
  pub spelt : Terms text terms
  pub some : ¬ (terms ≡ [])

-- ---- lines

-- The terms of the three parts.
pub record Line : Type 0 where
  pub x : List Term
  pub y : List Term
  pub z : List Term

-- Three parts, between commas.
pub record Spells (text : List ℕ) (line : Line) : Type 0 where
  pub first : List ℕ
  pub second : List ℕ
  pub third : List ℕ
  pub split : text ≡ first ++ (44 ∷ (second ++ (44 ∷ third)))
  pub of-x : Part first line.x
  pub of-y : Part second line.y
  pub of-z : Part third line.z

-- A line, of any length.
abbrev pub Spelt : List ℕ → Type 0
Spelt text = (line : Line) × Spells text line
