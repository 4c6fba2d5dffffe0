-- The reader by R1, R2 and R8: a text's letter and generators, or its refusal, in the order of R8.
use Rattle.std.specs.Prelude.{◌≡◌, true, false, cond, List, [], ◌∷◌, ◌++◌, map, ℕ, ◌+◌, ◌<◌, ◌≤◌, eqb, leb, ltb, length, get_or, replicate, Option, Some, Bool, Err, None, Ok, Result}
use borrow.Author.Tests.{le-leb, lt-leb}
use Rattle.operation.specs.Product.{identity_operation}
use Rattle.operation.specs.declared.Translation.{Translation}
use Rattle.operation.specs.declared.Operation.{Operation}
use Rattle.centering.specs.declared.Centering.{Centering}
use Rattle.centering.specs.declared.Centering.TheVariants.{P}
use Rattle.hall_token.specs.Reader.{operation_token}
use Rattle.hall_axes.specs.declared.Fold.{Fold}
use Rattle.hall_axes.specs.declared.Fold.TheVariants.{One}
use Rattle.hall_axes.specs.declared.Mark.TheVariants.{Unmarked}
use Rattle.hall_axes.specs.declared.Direction.TheVariants.{Z}
use Rattle.hall_axes.specs.declared.Axis.{Axis}
use Rattle.hall_axes.specs.declared.Previous.{Previous}
use Rattle.hall_symbol.specs.Bytes.{allowed, opening}
use Rattle.hall_symbol.specs.Runs.{run}
use Rattle.hall_symbol.specs.Tokens.{Token, tokens, bytes_of}
use Rattle.hall_symbol.specs.Lattice.{lattice_token}
use Rattle.hall_symbol.specs.Shift.{shift_of, no_shift}
use Rattle.hall_symbol.specs.Generators.{leading, shifted, slots}
use Rattle.hall_symbol.specs.declared.refusal.Refusal.{Refusal}
use Rattle.hall_symbol.specs.declared.refusal.Refusal.TheVariants.{TooLong, ForbiddenByte, NoToken, Lattice as BadLattice, Token as BadToken, Shift as BadShift, NoRotation, TooMany}
use Rattle.hall_symbol.specs.declared.Answer.TheVariants.{Symbol, Refused}
use Rattle.hall_symbol.specs.declared.HallSymbol.{HallSymbol}
use Rattle.hall_token.specs.declared.refusal.Refusal.{Refusal as RefusalOf}

-- What a text is: a symbol with its letter and generators, or refused.
pub data Reading : Type 0 where
  symbol : Centering → List Operation → Reading
  refusal : Refusal → Reading

-- ---- N tokens
-- Before the first N token: none, so that the fold and the axis here are never asked for.
abbrev pub no_previous : Previous
no_previous = record { count = 0; fold = One; axis = record { mark = Unmarked; direction = Z } }

-- Behind an N token.
abbrev pub next_previous : Previous → Fold → Axis → Previous
next_previous previous f a = record { count = previous.count + 1; fold = f; axis = a }

-- What an N token's own answer says of the symbol, where it starts at place p: it is refused at an offset from there.
abbrev pub on_operation : ℕ → Result (Operation × Fold × Axis) (ℕ × RefusalOf) → (Operation → Fold → Axis → Reading) → Reading
on_operation p (Ok (o, f, a)) next = next o f a
on_operation p (Err (k, r)) next = refusal (BadToken (p + k) r)

-- The whole symbol, once its shift is known.
abbrev pub shifted_symbol : Centering → List Operation → Translation → Reading
shifted_symbol c found v = symbol c (map (shifted v) found)

-- What the shift's own answer says of the symbol.
abbrev pub on_shift : ℕ → Centering → List Operation → Option Translation → Reading
on_shift p c found (Some v) = shifted_symbol c found v
on_shift p c found Option.None = refusal (BadShift p)

-- At a token that starts with `(`: refusal 10 goes before 9.
unfoldable pub at_shift : Centering → List Operation → ℕ → Token → Reading
at_shift c found count t =
    cond (eqb count 0) (refusal (NoRotation t.place)) (on_shift t.place c found (shift_of t.rest))

-- At the end of a text of n bytes.
unfoldable pub at_end : ℕ → Centering → List Operation → ℕ → Reading
at_end n c found count = cond (eqb count 0) (refusal (NoRotation n)) (shifted_symbol c found no_shift)

-- The tokens behind the first: at most 8 N tokens, the ninth refused unread, and the shift. `found` holds the generators to the left.
unfoldable pub operations : ℕ → Centering → List Operation → Previous → List Token → Reading
operations n c found previous [] = at_end n c found previous.count
operations n c found previous (t ∷ ts) =
    cond (opening (get_or t.rest 0 0))
    (at_shift c found previous.count t)
    (cond (leb 8 previous.count)
    (refusal (TooMany t.place))
    (on_operation t.place (operation_token (bytes_of t) previous) (λ o f a. operations n c (found ++ (o ∷ [])) (next_previous previous f a) ts)))

-- ---- one step
module _ (n : ℕ) (c : Centering) (found : List Operation) (previous : Previous) (t : Token) (ts : List Token) where
  -- At a token that starts with `(`.
  pub step-shift : opening (get_or t.rest 0 0) ≡ true → operations n c found previous (t ∷ ts) ≡ at_shift c found previous.count t
  unfolding operations
  step-shift h = rw h

  -- At the ninth N token.
  pub step-ninth : opening (get_or t.rest 0 0) ≡ false → 8 ≤ previous.count → operations n c found previous (t ∷ ts) ≡ refusal (TooMany t.place)
  unfolding operations
  step-ninth h k = rw (h, le-leb 8 previous.count k)

  -- At any other token.
  pub step-rotation : opening (get_or t.rest 0 0) ≡ false → previous.count < 8
      → operations n c found previous (t ∷ ts) ≡ on_operation t.place (operation_token (bytes_of t) previous) (λ o f a. operations n c (found ++ (o ∷ []))
      (next_previous previous f a) ts)
  unfolding operations
  step-rotation h k = rw (h, lt-leb 8 previous.count k)

-- ---- the whole text
abbrev pub on_lattice : ℕ → ℕ → Option (Bool × Centering) → List Token → Reading
on_lattice n p (Some (inverted, c)) ts = operations n c (leading inverted) no_previous ts
on_lattice n p (None) ts = refusal (BadLattice p)

-- A symbol has a first token.
abbrev pub read_tokens : ℕ → List Token → Reading
read_tokens n [] = refusal NoToken
read_tokens n (t ∷ ts) = on_lattice n t.place (lattice_token (bytes_of t)) ts

-- 1 and 2 go before all that speaks of tokens.
unfoldable pub read_symbol : List ℕ → Reading
read_symbol text =
    let n = length text in
    cond (ltb 80 n) (refusal TooLong)
    (cond (ltb (run allowed text) n) (refusal (ForbiddenByte (run allowed text))) (read_tokens n (tokens text)))

-- ---- the answer, slot by slot
-- A refusal carries number and place and no other data: letter P, no generators, nine times the identity.
abbrev pub refused_answer : Refusal → HallSymbol
refused_answer r = record { answer = Refused r; centering = P; count = 0; generators = replicate 9 identity_operation }

-- A symbol carries its letter, and its generators in nine slots.
abbrev pub answer_of : Reading → HallSymbol
answer_of (symbol c gs) = record { answer = Symbol; centering = c; count = length gs; generators = slots gs }
answer_of (refusal r) = refused_answer r
