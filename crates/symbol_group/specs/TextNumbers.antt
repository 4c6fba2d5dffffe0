-- The numbers of a text's refusals: 1 to 11, and 17, which came later; none is a number of generators or 28.
use Rattle.std.specs.Prelude.{◌≡◌, refl, ◌⊎◌, ℕ, ◌≤◌}
use Rattle.std.proofs.Common.{inl, inr, arith}
use Rattle.hall_token.specs.Refusals as token
use Rattle.hall_token.specs.declared.refusal.Refusal as token-refusal
use Rattle.hall_token.specs.declared.refusal.Refusal.TheVariants.{Misspelt, Primed, Unsettled, Digit, Doubled}
use Rattle.hall_symbol.specs.Refusals.{number_of}
use Rattle.hall_symbol.specs.declared.refusal.Refusal.{Refusal}
use Rattle.hall_symbol.specs.declared.refusal.Refusal.TheVariants.{TooLong, ForbiddenByte, NoToken, Lattice, Token, Shift, NoRotation, TooMany}

abbrev pub OfText : ℕ → Type 0
OfText n = (n ≤ 11) ⊎ (n ≡ 17)

token-number : (r : token-refusal.Refusal) → OfText (token.number_of r)
token-number Misspelt = inl (omega arith)
token-number Unsettled = inl (omega arith)
token-number Digit = inl (omega arith)
token-number Primed = inl (omega arith)
token-number Doubled = inr refl

pub text-number : (r : Refusal) → OfText (number_of r)
text-number TooLong = inl (omega arith)
text-number (ForbiddenByte p) = inl (omega arith)
text-number NoToken = inl (omega arith)
text-number (Lattice p) = inl (omega arith)
text-number (Token p r) = token-number r
text-number (Shift p) = inl (omega arith)
text-number (NoRotation p) = inl (omega arith)
text-number (TooMany p) = inl (omega arith)

-- They are none of the numbers of generators,
pub apart : (m n : ℕ) → OfText m → (12 ≤ n) × (n ≤ 14) → m ≡ n → ⊥
apart m n (inl h) (l, u) e = omega arith
apart m n (inr h) (l, u) e = omega arith

-- and end with 17.
pub at_most : (m : ℕ) → OfText m → m ≤ 17
at_most m (inl h) = omega arith
at_most m (inr h) = omega arith
