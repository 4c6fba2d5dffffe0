-- The lent bytes and the catalogue in them: what is put back is found again, and nothing else moves.
use Rattle.std.specs.Prelude.{◌≡◌, refl, length, get_or, take, drop, set, replicate}
use Rattle.std.proofs.Common.{sym, ◌∙◌, ap₂, arith, add-one, length-append, take-append-drop, take_at, take_all, length-take-le, get_or-drop}
use Rattle.std.proofs.Math.Path.{ap}
use mathlib.Core.List.{List, [], ◌∷◌, ◌++◌, append-nil}
use Prim.Native.Nat.{ℕ, suc, ◌+◌, ◌≤◌, ◌<◌}
use Rattle.std.proofs.Math.ListN.{length-drop}
use Rattle.std.proofs.Math.Seq.{drop_at}
use Rattle.lines.specs.Copying.{copied, copied_more}
use Rattle.catalogue.specs.Answers.{fresh}
use Rattle.catalogue.specs.declared.Catalogue.{Catalogue}
use Rattle.catalogue_numbers.specs.Catalogues.{state_length, catalogue_in, put_back}

module _ (c : Catalogue) (places : length c.bytes ≡ 80) (state : List ℕ) where
  -- What was put back is found again.
  pub state-back : catalogue_in (put_back c state) ≡ c
  unfolding put_back
  state-back = ap (λ (l : List ℕ). record { status = c.status; bytes = l }) (take_at c.bytes (drop state_length state) 80 places)

  -- Behind the 81 bytes nothing moves,
  pub state-behind : drop state_length (put_back c state) ≡ drop state_length state
  unfolding put_back
  state-behind = drop_at c.bytes (drop state_length state) 80 places

  -- and there are as many as before.
  pub state-length : state_length ≤ length state → length (put_back c state) ≡ length state
  unfolding put_back
  state-length h = ap suc (length-append c.bytes (drop state_length state)) ∙ omega (arith, length-drop state_length state)

-- What is found and put back is there already: a refusal leaves all bytes as they were.
pub state-kept : (state : List ℕ) → state_length ≤ length state → put_back (catalogue_in state) state ≡ state
unfolding put_back
state-kept (b ∷ state) h = ap (λ (l : List ℕ). b ∷ l) (take-append-drop 80 state)
state-kept [] h = absurd (omega arith)

-- The places are there.
pub state-places : (state : List ℕ) → state_length ≤ length state → length (catalogue_in state).bytes ≡ 80
state-places state h = length-take-le 80 (drop 1 state) (omega (arith, length-drop 1 state))

-- ---- byte by byte
-- Taking the kept bytes out: the first n of them.
abbrev pub found_so_far : List ℕ → ℕ → List ℕ
found_so_far state n = copied (replicate 80 0) (drop 1 state) n

pub found-more : (state bytes : List ℕ) (n : ℕ) → state_length ≤ length state → n < 80 → bytes ≡ found_so_far state n
    → set bytes n (get_or state (n + 1) 0) ≡ found_so_far state (n + 1)
found-more state bytes n long less e =
    let byte : get_or state (n + 1) 0 ≡ get_or (drop 1 state) n 0 = ap (λ (k : ℕ). get_or state k 0) (omega arith) ∙ sym (get_or-drop 1 state n 0) in
    ap₂ (λ (l : List ℕ) (b : ℕ). set l n b) e byte ∙ copied_more (replicate 80 0) (drop 1 state) n (omega arith) (omega (arith, length-drop 1 state))

pub found_all : (state bytes : List ℕ) → bytes ≡ found_so_far state 80 → record { status = get_or state 0 0; bytes = bytes } ≡ catalogue_in state
found_all state bytes e = ap (λ (l : List ℕ). record { status = get_or state 0 0; bytes = l }) (e ∙ append-nil (take 80 (drop 1 state)))

-- Putting them back: the status, and the first n of them.
abbrev pub put_so_far : List ℕ → List ℕ → ℕ → List ℕ
put_so_far state bytes n = get_or state 0 0 ∷ copied (drop 1 state) bytes n

pub put-none : (state bytes : List ℕ) → 0 < length state → state ≡ put_so_far state bytes 0
put-none [] bytes h = absurd (omega arith)
put-none (b ∷ state) bytes h = refl

pub put-more : (state bytes now : List ℕ) (n : ℕ) → state_length ≤ length state → length bytes ≡ 80 → n < 80 → now ≡ put_so_far state bytes n
    → set now (n + 1) (get_or bytes n 0) ≡ put_so_far state bytes (n + 1)
put-more state bytes now n long places less e =
    let byte = get_or bytes n 0 in
    ap₂ (λ (l : List ℕ) (k : ℕ). set l k byte) e (add-one n)
    ∙ ap (λ (l : List ℕ). get_or state 0 0 ∷ l) (copied_more (drop 1 state) bytes n (omega (arith, length-drop 1 state)) (omega arith))

pub put-length : (state bytes now : List ℕ) (n : ℕ) → state_length ≤ length state → length bytes ≡ 80 → n ≤ 80 → now ≡ put_so_far state bytes n
    → length now ≡ length state
put-length state bytes now n long places few e =
    ap length e ∙ ap suc (length-append (take n bytes) (drop n (drop 1 state)))
    ∙ omega (arith, length-take-le n bytes (omega arith), length-drop n (drop 1 state), length-drop 1 state)

-- The status is put there first.
pub put_all : (c : Catalogue) → length c.bytes ≡ 80 → (state now : List ℕ) → 0 < length state → now ≡ put_so_far (set state 0 c.status) c.bytes 80
    → now ≡ put_back c state
unfolding put_back
put_all c places [] now h e = absurd (omega arith)
put_all c places (b ∷ state) now h e = e ∙ ap (λ (l : List ℕ). c.status ∷ (l ++ drop 80 state)) (take_all 80 c.bytes (omega arith))

-- A fresh start puts back the status alone.
pub start-put : (state : List ℕ) → state_length ≤ length state → set state 0 0 ≡ put_back (fresh (catalogue_in state).bytes) state
unfolding put_back
start-put [] h = absurd (omega arith)
start-put (b ∷ state) h = ap (λ (l : List ℕ). 0 ∷ l) (sym (take-append-drop 80 state))
