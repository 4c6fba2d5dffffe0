-- The spelling rules of R1, said of the text alone: which texts spell which symbol, and for each refusal 1 to 11 which
-- texts it is given for and at which place. Nothing here speaks of a reader: what an N token spells is said by `Answers`, the rules of one token.
use Rattle.std.specs.Prelude.{◌≡◌, Bool, true, false, cond, List, [], ◌∷◌, ◌++◌, map, ℕ, ◌+◌, ◌<◌, ◌≤◌, ltb, ℤ, pos, neg_ℤ, length, get_or, Err, Ok}
use Rattle.laws.specs.Matrix.{Vector}
use Rattle.operation.specs.declared.Operation.{Operation}
use Rattle.centering.specs.Letters.{byte_of}
use Rattle.centering.specs.declared.Centering.{Centering}
use Rattle.hall_token.specs.Answers.{Answers}
use Rattle.hall_axes.specs.declared.Fold.{Fold}
use Rattle.hall_axes.specs.declared.Axis.{Axis}
use Rattle.hall_axes.specs.declared.Previous.{Previous}
use Rattle.hall_token.specs.declared.refusal.Refusal as token
use Rattle.hall_symbol.specs.Bytes.{whitespace, allowed, opening}
use Rattle.hall_symbol.specs.Runs.{Every, Stops}
use Rattle.hall_symbol.specs.Cut.{Cut}
use Rattle.hall_symbol.specs.Generators.{leading, shift_by, shifted}
use Rattle.hall_symbol.specs.Reader.{Reading, symbol, refusal, no_previous, next_previous}
use Rattle.hall_symbol.specs.declared.refusal.Refusal.{Refusal}
use Rattle.hall_symbol.specs.declared.refusal.Refusal.TheVariants.{TooLong, ForbiddenByte, NoToken, Lattice, Token, Shift, NoRotation, TooMany}

-- ---- the first token
-- The letter c, with the byte 45, `-`, before it where the inversion is there.
abbrev pub lattice_spelling : Bool → Centering → List ℕ
lattice_spelling true c = 45 ∷ byte_of c ∷ []
lattice_spelling false c = byte_of c ∷ []

-- ---- the shift
-- A number in decimal digits with no leading zero, as far as two digits go that start with 1.
abbrev pub decimal : ℕ → List ℕ
decimal n = cond (ltb n 10) ((48 + n) ∷ []) (49 ∷ (38 + n) ∷ [])

-- The integers −11 to 11; below zero the byte 45, `-`, stands directly before the digits, and 0 has no sign.
pub data NumberSpelled (w : List ℕ) : ℤ → Type 0 where
  above : (n : ℕ) → n < 12 → w ≡ decimal n → NumberSpelled w (pos n)
  below : (k : ℕ) → 1 ≤ k → k ≤ 11 → w ≡ 45 ∷ decimal k → NumberSpelled w (neg_ℤ (pos k))

-- Three numbers separated by whitespace, which may also stand before and behind them.
pub record NumbersSpelled (s : List ℕ) (v : Vector) : Type 0 where
  pub gap-x : List ℕ
  pub word-x : List ℕ
  pub behind-x : List ℕ
  pub gap-y : List ℕ
  pub word-y : List ℕ
  pub behind-y : List ℕ
  pub gap-z : List ℕ
  pub word-z : List ℕ
  pub behind-z : List ℕ
  pub cut-x : Cut s gap-x word-x behind-x
  pub cut-y : Cut behind-x gap-y word-y behind-y
  pub cut-z : Cut behind-y gap-z word-z behind-z
  pub blank : Every whitespace behind-z
  pub number-x : NumberSpelled word-x v.x
  pub number-y : NumberSpelled word-y v.y
  pub number-z : NumberSpelled word-z v.z

-- `(`, three numbers, `)`, and then only whitespace.
pub record ShiftSpelled (s : List ℕ) (v : Vector) : Type 0 where
  pub inside : List ℕ
  pub after : List ℕ
  pub brackets : s ≡ 40 ∷ (inside ++ (41 ∷ after))
  pub numbers : NumbersSpelled inside v
  pub blank : Every whitespace after

-- A token starts with `(`.
abbrev pub Opens : List ℕ → Type 0
Opens [] = ⊥
Opens (b ∷ s) = opening b ≡ true

-- ---- the whole text
-- At most 80 bytes, and none that may not stand in a symbol.
abbrev pub Fit : List ℕ → Type 0
Fit text = (length text ≤ 80) × Every allowed text

-- The text begins well: up to place p stand a first token with the letter c and at most 8 N tokens, each an operation after those to its left, and
-- s follows. `found` are the generators so far, and `previous` is what the next N token has to its left.
pub data Begins (text : List ℕ) : Centering → List Operation → Previous → ℕ → List ℕ → Type 0 where
  lattice : {w after : List ℕ} (inverted : Bool) (c : Centering) → Fit text → Cut text w (lattice_spelling inverted c) after
      → Begins text c (leading inverted) no_previous (length w + length (lattice_spelling inverted c)) after
  rotation : {c : Centering} {found : List Operation} {previous : Previous} {p : ℕ} {s w t after : List ℕ} (o : Operation) (f : Fold) (a : Axis)
      → Begins text c found previous p s → Cut s w t after → Stops opening t → previous.count < 8 → Answers t previous (Ok (o, f, a))
      → Begins text c (found ++ (o ∷ [])) (next_previous previous f a) (p + length w + length t) after

-- The end of a symbol: only whitespace, or a shift.
pub data Ending (s : List ℕ) : Vector → Type 0 where
  plain : Every whitespace s → Ending s (record { x = pos 0; y = pos 0; z = pos 0 })
  moved : {w t after : List ℕ} (v : Vector) → Cut s w t after → ShiftSpelled (t ++ after) v → Ending s v

-- The text spells the symbol with the letter c and the generators gs.
pub record Spells (text : List ℕ) (c : Centering) (gs : List Operation) : Type 0 where
  pub found : List Operation
  pub previous : Previous
  pub p : ℕ
  pub s : List ℕ
  pub v : Vector
  pub begins : Begins text c found previous p s
  pub some : 0 < previous.count
  pub ending : Ending s v
  pub generators : gs ≡ map (shifted (shift_by v)) found

-- ---- the refusals
-- 2: the first byte that may not stand in a symbol is at the place.
pub record FirstForbidden (text : List ℕ) (place : ℕ) : Type 0 where
  pub short : length text ≤ 80
  pub within : place < length text
  pub forbidden : allowed (get_or text place 0) ≡ false
  pub first : (i : ℕ) → i < place → allowed (get_or text i 0) ≡ true

-- 4: the first token is no letter with or without `-`.
pub record LatticeWrong (text : List ℕ) (place : ℕ) : Type 0 where
  pub w : List ℕ
  pub t : List ℕ
  pub after : List ℕ
  pub fit : Fit text
  pub cut : Cut text w t after
  pub stands : place ≡ length w
  pub wrong : (inverted : Bool) (c : Centering) → t ≡ lattice_spelling inverted c → ⊥

-- The text begins well, and its next token t stands at the place.
pub record Next (text : List ℕ) (previous : Previous) (place : ℕ) (t after : List ℕ) : Type 0 where
  pub c : Centering
  pub found : List Operation
  pub p : ℕ
  pub s : List ℕ
  pub w : List ℕ
  pub begins : Begins text c found previous p s
  pub cut : Cut s w t after
  pub stands : place ≡ p + length w

-- 5, 6, 7, 8, 17: the first N token that is no operation, and is not the ninth; its own refusal says what is wrong with it, and at which offset. The
-- place is so far behind the token's start.
pub record TokenRefused (text : List ℕ) (place : ℕ) (r : token.Refusal) : Type 0 where
  pub previous : Previous
  pub start : ℕ
  pub offset : ℕ
  pub t : List ℕ
  pub after : List ℕ
  pub next : Next text previous start t after
  pub stands : place ≡ start + offset
  pub rotation : Stops opening t
  pub few : previous.count < 8
  pub says : Answers t previous (Err (offset, r))

-- 9: a shift stands at the place, behind an N token, and is spelt like none.
pub record ShiftMalformed (text : List ℕ) (place : ℕ) : Type 0 where
  pub previous : Previous
  pub t : List ℕ
  pub after : List ℕ
  pub next : Next text previous place t after
  pub opens : Opens t
  pub some : 0 < previous.count
  pub malformed : (v : Vector) → ShiftSpelled (t ++ after) v → ⊥

-- 10: behind the first token comes the text's end, the place being its length, or at the place a token that starts with `(`.
pub data RotationMissing (text : List ℕ) : ℕ → Type 0 where
  ends : {c : Centering} {found : List Operation} {previous : Previous} {p : ℕ} {s : List ℕ} → Begins text c found previous p s → previous.count ≡ 0
      → Every whitespace s → RotationMissing text (length text)
  opens : {previous : Previous} {place : ℕ} {t after : List ℕ} → Next text previous place t after → previous.count ≡ 0 → Opens t → RotationMissing text place

-- 11: the ninth N token stands at the place, however it reads.
pub record NinthRotation (text : List ℕ) (place : ℕ) : Type 0 where
  pub previous : Previous
  pub t : List ℕ
  pub after : List ℕ
  pub next : Next text previous place t after
  pub rotation : Stops opening t
  pub eight : previous.count ≡ 8

-- What each refusal says of the text.
abbrev pub Refuses : List ℕ → Refusal → Type 0
Refuses text TooLong = 80 < length text
Refuses text (ForbiddenByte p) = FirstForbidden text p
Refuses text NoToken = Fit text × Every whitespace text
Refuses text (Lattice p) = LatticeWrong text p
Refuses text (Token p r) = TokenRefused text p r
Refuses text (Shift p) = ShiftMalformed text p
Refuses text (NoRotation p) = RotationMissing text p
Refuses text (TooMany p) = NinthRotation text p

-- What the text says by the rules: a symbol, or a refusal.
abbrev pub Says : List ℕ → Reading → Type 0
Says text (symbol c gs) = Spells text c gs
Says text (refusal r) = Refuses text r
