-- An answer as one 64-bit number, for C: the top byte is 0 and the value stands below it, or it is the refusal's number and the place stands below it.
use Rattle.std.specs.Prelude.{◌≡◌, refl, ℕ, ◌+◌, ◌*◌, ◌%◌, ◌<◌, ◌≤◌}
use Rattle.std.proofs.Common.{◌∙◌, ap, ap₂, mod-eq_of_lt, arith}
use Rattle.operation.specs.Answer.{Answer, given, refused, Nothing}
use Rattle.operation.specs.Code.{code_of, code_lt, code-injective}
use Rattle.operation.specs.declared.Operation.{Operation}
use Rattle.centering.specs.Letters.{byte_of}
use Rattle.centering.specs.LatticeLaws.{byte-injective}
use Rattle.centering.specs.declared.Centering.{Centering}
use Rattle.centering.specs.declared.Centering.TheVariants.{P, A, B, C, I, R, F, H}
use Rattle.hall_token.specs.Answers.{Reduced}

-- Where the top byte begins: 2⁵⁶.
abbrev pub top_byte : ℕ
top_byte = 72057594037927936

-- The number of an answer.
abbrev pub packed : Answer ℕ Nothing → ℕ
packed (given value) = value
packed (refused number place _) = number * top_byte + place

-- What is told of any number and place: places from 2³² on, which no refusal has, are cut to 32 bits.
abbrev pub place_limit : ℕ
place_limit = 4294967296

abbrev pub told_number : ℕ → ℕ → ℕ
told_number number place = number * top_byte + place % place_limit

-- One of two equal outcomes is packed as the other.
pub packed-as : {A : Type 0} (answer : A → Answer ℕ Nothing) {r : ℕ} {a b : A} → r ≡ packed (answer a) → a ≡ b → r ≡ packed (answer b)
packed-as answer e same = e ∙ ap (λ x. packed (answer x)) same

-- An answer with something made of its value.
abbrev pub mapped : {A B : Type 0} → (A → B) → Answer A Nothing → Answer B Nothing
mapped f (given value) = given (f value)
mapped f (refused number place _) = refused number place tt

-- An operation as one number: its rotation's code, then x, y, z in twelfths.
abbrev pub operation_number : Operation → ℕ
operation_number o = code_of o.rotation * 1728 + o.translation.x * 144 + o.translation.y * 12 + o.translation.z

-- ---- nothing is lost
-- A refusal's number fills the top byte, and its place leaves it free.
pub record Told (number place : ℕ) : Type 0 where
  pub some : 1 ≤ number
  pub one_byte : number ≤ 255
  pub low : place < place_limit

-- A symbol's refusal: its number is one byte, and its place at most 80.
pub record Close (number place : ℕ) : Type 0 where
  pub some : 1 ≤ number
  pub one_byte : number ≤ 255
  pub at_most : place ≤ 80

-- The places of R8 are at most 80.
pub near : {number place : ℕ} → 1 ≤ number → number ≤ 255 → place ≤ 80 → Told number place
near some one_byte low = record { some = some; one_byte = one_byte; low = omega arith }

-- What is told of such a refusal is its number and its place.
pub told-whole : {number place : ℕ} → Told number place → told_number number place ≡ number * top_byte + place
told-whole {number = number} {place = place} h = ap (λ (p : ℕ). number * top_byte + p) (mod-eq_of_lt h.low)

-- The value is good, or the refusal can be told.
abbrev pub Within : {A : Type 0} → (A → Type 0) → Answer A Nothing → Type 0
Within Good (given value) = Good value
Within Good (refused number place _) = Told number place

-- A number that leaves the top byte free.
abbrev pub Low : ℕ → Type 0
Low value = value < top_byte

-- What is told of any answer, and of one that is good it is the packed one.
abbrev pub told_answer : Answer ℕ Nothing → ℕ
told_answer (given value) = value
told_answer (refused number place _) = told_number number place

told-packed : (a : Answer ℕ Nothing) → Within Low a → told_answer a ≡ packed a
told-packed (given value) h = refl
told-packed (refused number place _) h = told-whole h

-- So what is told of one of two equal outcomes is the other's packed answer.
pub told-as : {A : Type 0} (answer : A → Answer ℕ Nothing) {r : ℕ} {a b : A} → r ≡ told_answer (answer a) → a ≡ b → Within Low (answer b)
    → r ≡ packed (answer b)
told-as answer {b = b} e same h = e ∙ ap (λ x. told_answer (answer x)) same ∙ told-packed (answer b) h

-- Packed answers fit 64 bits.
pub packed-fits : (a : Answer ℕ Nothing) → Within Low a → packed a < 256 * top_byte
packed-fits (given value) h = omega arith
packed-fits (refused number place _) h = omega arith

-- Two answers never share a number.
pub packed-once : (a b : Answer ℕ Nothing) → Within Low a → Within Low b → packed a ≡ packed b → a ≡ b
packed-once (given v) (given w) h k e = ap given e
packed-once (given v) (refused n p _) h k e = absurd (omega arith)
packed-once (refused n p _) (given w) h k e = absurd (omega arith)
packed-once (refused n p _) (refused m q _) h k e =
    let numbers : n ≡ m = omega arith in
    let places : p ≡ q = omega arith in
    ap₂ (λ (i j : ℕ). refused i j tt) numbers places

-- Good values as numbers: each leaves the top byte free, and no two share one.
pub record Numbers {A : Type 0} (Good : A → Type 0) (number : A → ℕ) : Type 0 where
  pub low : (v : A) → Good v → Low (number v)
  pub once : (v w : A) → Good v → Good w → number v ≡ number w → v ≡ w

module _ {A : Type 0} {Good : A → Type 0} {number : A → ℕ} (N : Numbers Good number) where
  -- Such answers are packed within bounds,
  pub mapped-low : (a : Answer A Nothing) → Within Good a → Within Low (mapped number a)
  mapped-low (given v) h = N.low v h
  mapped-low (refused n p _) h = h

  -- what was mapped can be told from the outcome,
  mapped-once : (a b : Answer A Nothing) → Within Good a → Within Good b → mapped number a ≡ mapped number b → a ≡ b
  mapped-once (given v) (given w) h k e =
      let same : number v ≡ number w = cc in
      ap given (N.once v w h k same)
  mapped-once (given v) (refused n p _) h k e = let z : ◌≡◌ {A = ℕ} 0 1 = cc in absurd (omega arith)
  mapped-once (refused n p _) (given w) h k e = let z : ◌≡◌ {A = ℕ} 0 1 = cc in absurd (omega arith)
  mapped-once (refused n p _) (refused m q _) h k e =
      let numbers : n ≡ m = cc in
      let places : p ≡ q = cc in
      ap₂ (λ (i j : ℕ). refused i j tt) numbers places

  -- and two of them never share a number.
  pub loses-nothing : (a b : Answer A Nothing) → Within Good a → Within Good b → packed (mapped number a) ≡ packed (mapped number b) → a ≡ b
  loses-nothing a b h k e =
      mapped-once a b h k (packed-once (mapped number a) (mapped number b) (mapped-low a h) (mapped-low b k) e)

-- ---- letters and operations as numbers
-- Every letter is good.
abbrev pub AnyLetter : Centering → Type 0
AnyLetter c = Unit {0}

-- A letter is one byte.
letter-low : (c : Centering) → Low (byte_of c)
letter-low P = omega arith
letter-low A = omega arith
letter-low B = omega arith
letter-low C = omega arith
letter-low I = omega arith
letter-low R = omega arith
letter-low F = omega arith
letter-low H = omega arith

-- A letter is told by its byte.
pub letters : Numbers AnyLetter byte_of
letters = record { low = λ c _. letter-low c; once = λ c d _ _ e. byte-injective c d e }

-- The number says the code and the coordinates,
number-parts : (a b c d e f g h : ℕ) → b < 12 → c < 12 → d < 12 → f < 12 → g < 12 → h < 12 → a * 1728 + b * 144 + c * 12 + d ≡ e * 1728 + f * 144 + g * 12 + h
    → (a ≡ e) × (b ≡ f) × (c ≡ g) × (d ≡ h)
number-parts a b c d e f g h hb hc hd hf hg hh same = (omega arith, omega arith, omega arith, omega arith)

-- which stay below 19683 · 1728,
operation-low : (o : Operation) → Reduced o → Low (operation_number o)
operation-low o r = omega (arith, code_lt o.rotation r.digits)

-- and an operation is told by them,
operation-once : (o p : Operation) → Reduced o → Reduced p → operation_number o ≡ operation_number p → o ≡ p
operation-once o p r s e =
    let (codes, x, y, z) = number-parts (code_of o.rotation) o.translation.x o.translation.y o.translation.z (code_of p.rotation)
    p.translation.x p.translation.y p.translation.z r.x r.y r.z s.x s.y s.z e in
    let turns : o.rotation ≡ p.rotation = code-injective o.rotation p.rotation r.digits s.digits codes in
    λ i. record { rotation = turns i; translation = record { x = x i; y = y i; z = z i } }

-- so operations of symbols are told by their numbers.
pub operations : Numbers Reduced operation_number
operations = record { low = operation-low; once = operation-once }
