-- The numbers and places of R8, 1 to 11 and 17: the one place where they stand, but for those of an N token, which are that room's.
use Rattle.std.specs.Prelude.{ℕ}
use Rattle.hall_token.specs.Refusals as token
use Rattle.hall_symbol.specs.declared.refusal.Refusal.{Refusal}
use Rattle.hall_symbol.specs.declared.refusal.Refusal.TheVariants.{TooLong, ForbiddenByte, NoToken, Lattice, Token, Shift, NoRotation, TooMany}

-- The number.
abbrev pub number_of : Refusal → ℕ
number_of TooLong = 1
number_of (ForbiddenByte p) = 2
number_of NoToken = 3
number_of (Lattice p) = 4
number_of (Token p r) = token.number_of r
number_of (Shift p) = 9
number_of (NoRotation p) = 10
number_of (TooMany p) = 11

-- The place: a byte's, a token's, or a fixed one.
abbrev pub place_of : Refusal → ℕ
place_of TooLong = 80
place_of (ForbiddenByte p) = p
place_of NoToken = 0
place_of (Lattice p) = p
place_of (Token p r) = p
place_of (Shift p) = p
place_of (NoRotation p) = p
place_of (TooMany p) = p
