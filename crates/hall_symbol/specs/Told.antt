-- Refusals 1 to 11 and 17 by number and place, each exactly when its rule holds of the text; number and place determine the refusal.
use Rattle.std.specs.Prelude.{◌≡◌, refl, ◌↔◌, cond, List, ◌++◌, ℕ, ◌+◌, ◌<◌, ◌≤◌, eqb, length}
use Rattle.std.proofs.Math.Path.{sym, ap}
use Rattle.std.proofs.Common.{◌∙◌, arith, length-append}
use Rattle.operation.specs.declared.Operation.{Operation}
use Rattle.centering.specs.declared.Centering.{Centering}
use Rattle.hall_token.specs.Answers.{refused-within}
use Rattle.hall_token.specs.Refusals as token
use Rattle.hall_axes.specs.declared.Previous.{Previous}
use Rattle.hall_token.specs.declared.refusal.Refusal as token-refusal
use Rattle.hall_token.specs.declared.refusal.Refusal.TheVariants.{Misspelt, Primed, Unsettled, Digit, Doubled}
use Rattle.hall_symbol.specs.Bytes.{whitespace}
use Rattle.hall_symbol.specs.Runs.{Every}
use Rattle.hall_symbol.specs.Reader.{read_symbol, answer_of}
use Rattle.hall_symbol.specs.Refusals.{number_of, place_of}
use Rattle.hall_symbol.specs.Spelling.{Fit, Begins, lattice, rotation, FirstForbidden, LatticeWrong, Next, TokenRefused, ShiftMalformed, RotationMissing, ends, opens, NinthRotation, Refuses}
use Rattle.hall_symbol.specs.Answers.{begins-place, answer-refused}
use Rattle.hall_symbol.specs.declared.refusal.Refusal.{Refusal}
use Rattle.hall_symbol.specs.declared.refusal.Refusal.TheVariants.{TooLong, ForbiddenByte, NoToken, Lattice, Token, Shift, NoRotation, TooMany}
use Rattle.hall_symbol.specs.declared.Answer.TheVariants.{Refused}
use Rattle.hall_symbol.specs.declared.HallSymbol.{HallSymbol}

-- ---- number and place determine the refusal
-- The refusal of a number and a place.
refusal_at : ℕ → ℕ → Refusal
refusal_at n k =
    cond (eqb n 1) TooLong
    (cond (eqb n 2) (ForbiddenByte k)
    (cond (eqb n 3) NoToken
    (cond (eqb n 4) (Lattice k)
    (cond (eqb n 5) (Token k Misspelt)
    (cond (eqb n 6) (Token k Unsettled)
    (cond (eqb n 7) (Token k Digit)
    (cond (eqb n 8) (Token k Primed)
    (cond (eqb n 9) (Shift k)
    (cond (eqb n 10) (NoRotation k)
    (cond (eqb n 11) (TooMany k) (Token k Doubled)))))))))))

refusal-back : (r : Refusal) → refusal_at (number_of r) (place_of r) ≡ r
unfolding refusal_at
refusal-back TooLong = refl
refusal-back (ForbiddenByte p) = refl
refusal-back NoToken = refl
refusal-back (Lattice p) = refl
refusal-back (Token p Misspelt) = refl
refusal-back (Token p Unsettled) = refl
refusal-back (Token p Digit) = refl
refusal-back (Token p Primed) = refl
refusal-back (Token p Doubled) = refl
refusal-back (Shift p) = refl
refusal-back (NoRotation p) = refl
refusal-back (TooMany p) = refl

pub told-once : (r s : Refusal) → number_of r ≡ number_of s → place_of r ≡ place_of s → r ≡ s
told-once r s n k =
    sym (refusal-back r)
    ∙ ap (λ (m : ℕ). refusal_at m (place_of r)) n
    ∙ ap (refusal_at (number_of s)) k
    ∙ refusal-back s

-- ---- each exactly when
-- An answer is a refusal with this number at this place.
abbrev pub Tells : HallSymbol → ℕ → ℕ → Type 0
Tells h n k = (r : Refusal) × (h.answer ≡ Refused r) × (number_of r ≡ n) × (place_of r ≡ k)

tells-exactly : (text : List ℕ) (r : Refusal) → Tells (answer_of (read_symbol text)) (number_of r) (place_of r) ↔ Refuses text r
tells-exactly text r = (
  (λ (s, e, n, k). (answer-refused text r).0 (e ∙ ap Refused (told-once s r n k))),
  λ h. (r, (answer-refused text r).1 h, refl, refl),
)

module _ (text : List ℕ) (k : ℕ) where
  -- One with a fixed place.
  fixed-exactly : (r : Refusal) → ((s : Refusal) → number_of s ≡ number_of r → s ≡ r)
      → Tells (answer_of (read_symbol text)) (number_of r) k ↔ (Refuses text r × (k ≡ place_of r))
  fixed-exactly r only = (
    (λ (s, e, n, p). ((answer-refused text r).0 (e ∙ ap Refused (only s n)), sym p ∙ ap place_of (only s n))),
    λ (h, p). (r, (answer-refused text r).1 h, refl, sym p),
  )

  -- 1: over 80 bytes, at 80.
  pub one-exactly : Tells (answer_of (read_symbol text)) 1 k ↔ ((80 < length text) × (k ≡ 80))
  unfolding refusal_at
  one-exactly = fixed-exactly TooLong (λ s n. sym (refusal-back s) ∙ ap (λ (m : ℕ). refusal_at m (place_of s)) n)

  -- 2: a byte not 9 to 13 or 32 to 126, at the first such.
  pub two-exactly : Tells (answer_of (read_symbol text)) 2 k ↔ FirstForbidden text k
  two-exactly = tells-exactly text (ForbiddenByte k)

  -- 3: no token, at 0.
  pub three-exactly : Tells (answer_of (read_symbol text)) 3 k ↔ ((Fit text × Every whitespace text) × (k ≡ 0))
  unfolding refusal_at
  three-exactly = fixed-exactly NoToken (λ s n. sym (refusal-back s) ∙ ap (λ (m : ℕ). refusal_at m (place_of s)) n)

  -- 4: the first token wrong, at the token.
  pub four-exactly : Tells (answer_of (read_symbol text)) 4 k ↔ LatticeWrong text k
  four-exactly = tells-exactly text (Lattice k)

  -- 5: an N token misspelt, at its first offending byte, or where its fold should stand.
  pub five-exactly : Tells (answer_of (read_symbol text)) 5 k ↔ TokenRefused text k Misspelt
  five-exactly = tells-exactly text (Token k Misspelt)

  -- 6: axis not settled or no matrix, at the token.
  pub six-exactly : Tells (answer_of (read_symbol text)) 6 k ↔ TokenRefused text k Unsettled
  six-exactly = tells-exactly text (Token k Unsettled)

  -- 7: a digit wrong, at the first such.
  pub seven-exactly : Tells (answer_of (read_symbol text)) 7 k ↔ TokenRefused text k Digit
  seven-exactly = tells-exactly text (Token k Digit)

  -- 8: `'` present, at the token.
  pub eight-exactly : Tells (answer_of (read_symbol text)) 8 k ↔ TokenRefused text k Primed
  eight-exactly = tells-exactly text (Token k Primed)

  -- 9: the shift malformed, at its `(`.
  pub nine-exactly : Tells (answer_of (read_symbol text)) 9 k ↔ ShiftMalformed text k
  nine-exactly = tells-exactly text (Shift k)

  -- 10: no N token before `(` or the end, at the `(` or the text's length.
  pub ten-exactly : Tells (answer_of (read_symbol text)) 10 k ↔ RotationMissing text k
  ten-exactly = tells-exactly text (NoRotation k)

  -- 11: a ninth N token, at the token.
  pub eleven-exactly : Tells (answer_of (read_symbol text)) 11 k ↔ NinthRotation text k
  eleven-exactly = tells-exactly text (TooMany k)

  -- 17: a letter twice in an N token, at the first that repeats an earlier one.
  pub seventeen-exactly : Tells (answer_of (read_symbol text)) 17 k ↔ TokenRefused text k Doubled
  seventeen-exactly = tells-exactly text (Token k Doubled)

-- ---- how large they are
-- A number has one digit or two.
token-number : (r : token-refusal.Refusal) → (1 ≤ token.number_of r) × (token.number_of r ≤ 99)
token-number Misspelt = (omega arith, omega arith)
token-number Unsettled = (omega arith, omega arith)
token-number Digit = (omega arith, omega arith)
token-number Primed = (omega arith, omega arith)
token-number Doubled = (omega arith, omega arith)

pub number-range : (r : Refusal) → (1 ≤ number_of r) × (number_of r ≤ 99)
number-range TooLong = (omega arith, omega arith)
number-range (ForbiddenByte p) = (omega arith, omega arith)
number-range NoToken = (omega arith, omega arith)
number-range (Lattice p) = (omega arith, omega arith)
number-range (Token p r) = token-number r
number-range (Shift p) = (omega arith, omega arith)
number-range (NoRotation p) = (omega arith, omega arith)
number-range (TooMany p) = (omega arith, omega arith)

module _ (text : List ℕ) where
  -- A text that begins well is at most 80 bytes long.
  begins-fit : {c : Centering} {found : List Operation} {previous : Previous} {p : ℕ} {s : List ℕ} → Begins text c found previous p s → length text ≤ 80
  begins-fit (lattice inverted c fit cut) = fit.0
  begins-fit (rotation o f a begins cut start few says) = begins-fit begins

  -- The next token stands within them.
  next_place : {previous : Previous} {place : ℕ} {t after : List ℕ} → Next text previous place t after → place + length t ≤ 80
  next_place {previous} {place} {t} {after} n =
      let (before, split, long) = begins-place text n.begins in
      let fit = begins-fit n.begins in
      let whole = ap length split ∙ length-append before n.s in
      let rest = ap length n.cut.text ∙ length-append n.w (t ++ after) in
      let own = length-append t after in
      omega (arith, n.stands)

  -- A place is at most 80.
  pub place-within : (r : Refusal) → Refuses text r → place_of r ≤ 80
  place-within TooLong h = omega arith
  place-within (ForbiddenByte p) h = omega (arith, h.short, h.within)
  place-within NoToken h = omega arith
  place-within (Lattice p) h =
      let fit = h.fit.0 in
      let whole = ap length h.cut.text ∙ length-append h.w (h.t ++ h.after) in
      omega (arith, h.stands)
  place-within (Token p r) h =
      let within = refused-within h.t h.previous h.offset r h.says in
      omega (arith, next_place h.next, h.stands)
  place-within (Shift p) h = omega (arith, next_place h.next)
  place-within (NoRotation p) (ends begins none blank) = begins-fit begins
  place-within (NoRotation p) (opens next none first) = omega (arith, next_place next)
  place-within (TooMany p) h = omega (arith, next_place h.next)
