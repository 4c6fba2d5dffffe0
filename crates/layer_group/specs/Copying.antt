-- The copy in capitals is the text with one byte changed, and where: what the code writes.
use Rattle.std.proofs.Math.Path.{◌≡◌, refl, sym, ap}
use Rattle.std.specs.Prelude as std
use Rattle.std.specs.List.{position, position_or_len}
use Rattle.std.proofs.Common.{◌∙◌, add-one, drop_of_length-le, take-append-drop, take_at, lt-ltb, le-ltb}
use Rattle.std.proofs.Math.Seq.{take-set-lt}
use Rattle.std.specs.Prelude.{Bool, not, ◌||◌, List, [], ◌∷◌, ◌++◌, ℕ, suc, ◌+◌, ◌-◌, ◌<◌, ◌≤◌}
use Rattle.std.proofs.Math.Bool.{true, false, cond}
use native.Mathlib.Omega.{arith}
use Rattle.std.proofs.Math.Decide.{dec_lt}
use Rattle.std.proofs.Math.Dec.{eqb}
use borrow.Author.Tests.{eqb-true, eq-eqb, ne_eqb}
use Rattle.std.proofs.Math.ListN.{length, get_or, take, drop, set}
use Rattle.std.proofs.Math.Seq.{drop-cons, set_split, take-suc, append_snoc}
use Rattle.laws.specs.Truth.{and_both}
use Rattle.hall_symbol.specs.Bytes.{whitespace}
use Rattle.hall_symbol.specs.Runs.{run, Every, Stops, run-every, run-stops, run-all}
use Rattle.layer_group.specs.Capitals.{is_small, letter_here, marked, from_token, capitalised}

-- Whitespace before the first token stays,
pub capitalised-blank : (w s : List ℕ) → Every whitespace w → Stops whitespace s → capitalised (w ++ s) ≡ w ++ from_token s
unfolding capitalised from_token
capitalised-blank [] [] h k = refl
capitalised-blank [] (b ∷ s) h k = rw k
capitalised-blank (b ∷ w) s h k = rw h.0 (ap (λ l. b ∷ l) (capitalised-blank w s h.1 k))

-- and a text of whitespace stays whole.
pub capitalised-none : (s : List ℕ) → Every whitespace s → capitalised s ≡ s
unfolding capitalised
capitalised-none [] h = refl
capitalised-none (b ∷ s) h = rw h.0 (ap (λ l. b ∷ l) (capitalised-none s h.1))

pub blank-whole : (s : List ℕ) → length s ≤ run whitespace s → capitalised s ≡ s
blank-whole s h = capitalised-none s (run-all whitespace s h)

module _ (text : List ℕ) where
  -- In the places that a scan finds.
  at-token : capitalised text ≡ take (run whitespace text) text ++ from_token (drop (run whitespace text) text)
  at-token = ap capitalised (sym (take-append-drop (run whitespace text) text))
      ∙ capitalised-blank (take (run whitespace text) text) (drop (run whitespace text) text) (run-every whitespace text) (run-stops whitespace text)

  -- A place past the end has no letter.
  pub letter-none : (at : ℕ) → length text ≤ at → letter_here (drop at text) ≡ false
  letter-none at h = rw (drop_of_length-le text h)

  -- Such a byte is p or c.
  pub letter-small : (at : ℕ) → at < length text → letter_here (drop at text) ≡ true → 32 ≤ get_or text at 0
  unfolding is_small
  letter-small at h e = small-above (get_or text at 0) (and_both (is_small (get_or text at 0)) _ (rw (drop-cons text at 0 h) at e)).0
    where
      small-above : (b : ℕ) → is_small b ≡ true → 32 ≤ b
      small-above b e = go (eqb b 112) refl (eqb b 99) refl e
        where
          go : (x : Bool) → eqb b 112 ≡ x → (y : Bool) → eqb b 99 ≡ y → x || y ≡ true → 32 ≤ b
          go true p y q e = let z = eqb-true b 112 p in omega arith
          go false p true q e = let z = eqb-true b 99 q in omega arith
          go false p false q e = let y : ◌≡◌ {A = ℕ} 0 1 = ap (λ b. cond b 1 0) e in absurd (omega arith)

  -- A place with a letter is inside.
  pub letter-inside : (at : ℕ) → letter_here (drop at text) ≡ true → at < length text
  letter-inside at e = elim (dec_lt at (length text)) [
    | yes h ↦ h
    | no h ↦ let n = letter-none at (omega arith) in let z : ◌≡◌ {A = Bool} true false = sym e
        ∙ n in let y : ◌≡◌ {A = ℕ} 1 0 = ap (λ b. cond b 1 0) z in absurd (omega arith)
  ]

  -- ---- the change, by the first token's place
  module _ (start : ℕ) (blank : start ≡ run whitespace text) (inside : start < length text) where
    there : capitalised text ≡ take start text ++ from_token (get_or text start 0 ∷ drop (suc start) text)
    there = at-token ∙ rw (← blank, drop-cons text start 0 inside)

    here-again : drop start text ≡ get_or text start 0 ∷ drop (suc start) text
    here-again = drop-cons text start 0 inside

    -- p or c,
    pub change-letter : letter_here (drop start text) ≡ true → set text start (get_or text start 0 - 32) ≡ capitalised text
    unfolding from_token
    change-letter e = set_split text start _ inside ∙ sym (there ∙ rw (rw here-again at e))

    -- `-p` or `-c`,
    pub change-inverted : letter_here (drop start text) ≡ false → get_or text start 0 ≡ 45 → letter_here (drop (start + 1) text) ≡ true
        → set text (start + 1) (get_or text (start + 1) 0 - 32) ≡ capitalised text
    unfolding from_token
    change-inverted n m e =
        let within : start + 1 < length text = letter-inside (start + 1) e in
        let next : drop (suc start) text ≡ get_or text (start + 1) 0 ∷ drop (suc (start + 1)) text = ap (λ k. drop k text) (sym (add-one start))
        ∙ drop-cons text (start + 1) 0 within in
        let split : set text (start + 1) (get_or text (start + 1) 0 - 32) ≡ take start text
        ++ (get_or text start 0 ∷ (get_or text (start + 1) 0 - 32) ∷ drop (suc (start + 1)) text) =
        set_split text (start + 1) _ within ∙ ap (λ l. l ++ ((get_or text (start + 1) 0 - 32) ∷ drop (suc (start + 1)) text))
        (ap (λ k. take k text) (add-one start) ∙ take-suc text start 0 inside) ∙ append_snoc (take start text) (get_or text start 0) _ in
        split ∙ sym (there ∙ rw (rw here-again at n, eq-eqb (get_or text start 0) 45 m, next, rw (add-one start, next) at e))

    -- or any other token: its first byte is no `-`,
    pub change-other : letter_here (drop start text) ≡ false → (get_or text start 0 ≡ 45 → ⊥) → set text start (marked (get_or text start 0)) ≡ capitalised text
    unfolding from_token
    change-other n m = set_split text start _ inside ∙ sym (there ∙ rw (rw here-again at n, ne_eqb (get_or text start 0) 45 m))

    -- or no letter follows that.
    pub change-minus : letter_here (drop start text) ≡ false → get_or text start 0 ≡ 45 → letter_here (drop (start + 1) text) ≡ false
        → set text start (marked (get_or text start 0)) ≡ capitalised text
    unfolding from_token
    change-minus n m e = set_split text start _ inside ∙ sym (there ∙ rw (rw here-again at n, eq-eqb (get_or text start 0) 45 m, rw (add-one start) at e))

-- ---- the first token
-- The search for a byte that is no whitespace ends where the run of whitespace does.
first-run : (s : List ℕ) → position_or_len (λ b. not (whitespace b)) s ≡ run whitespace s
unfolding run
first-run [] = refl
first-run (b ∷ s) = by-test (whitespace b) (first-run s)
  where
    by-test : (t : Bool) → position_or_len (λ b. not (whitespace b)) s ≡ run whitespace s
        → cond (not (not t)) (1 + position_or_len (λ b. not (whitespace b)) s) 0 ≡ cond t (suc (run whitespace s)) 0
    by-test true e = omega (arith, e)
    by-test false e = refl

pub token-found : (s : List ℕ) (i : ℕ) → position (λ b. not (whitespace b)) s ≡ std.Some i → (i ≡ run whitespace s) × (i < length s)
token-found s i e = elim (dec_lt (run whitespace s) (length s)) [
  | yes h ↦
      let found : position (λ b. not (whitespace b)) s ≡ std.Some (run whitespace s) = rw (first-run s, lt-ltb (run whitespace s) (length s) h) refl in
      let both : std.Some (run whitespace s) ≡ std.Some i = sym found ∙ e in
      let same : run whitespace s ≡ i = cc in
      (sym same, omega arith)
  | no h ↦
      let low : length s ≤ run whitespace s = omega arith in
      let missed : position (λ b. not (whitespace b)) s ≡ std.None = rw (first-run s, le-ltb (run whitespace s) (length s) low) refl in
      let both : ◌≡◌ {A = std.Option ℕ} std.None (std.Some i) = sym missed ∙ e in
      absurd (cc)
]

pub token-missed : (s : List ℕ) → position (λ b. not (whitespace b)) s ≡ std.None → capitalised s ≡ s
token-missed s e = elim (dec_lt (run whitespace s) (length s)) [
  | yes h ↦
      let found : position (λ b. not (whitespace b)) s ≡ std.Some (run whitespace s) = rw (first-run s, lt-ltb (run whitespace s) (length s) h) refl in
      let both : ◌≡◌ {A = std.Option ℕ} std.None (std.Some (run whitespace s)) = sym e ∙ found in
      absurd (cc)
  | no h ↦ blank-whole s (omega arith)
]

-- ---- the copying
-- The text in front of the slots,
pub copy-front : (text copy rest : List ℕ) → copy ≡ text → take (length text) (copy ++ rest) ≡ text
copy-front text copy rest e = rw e (take_at text rest (length text) refl)

-- and one byte of it changed.
pub copy-changed : (text copy : List ℕ) (place byte : ℕ) → take (length text) copy ≡ text → place < length text
    → set text place byte ≡ capitalised text → take (length text) (set copy place byte) ≡ capitalised text
copy-changed text copy place byte front h e =
    take-set-lt (length text) copy place byte h ∙ ap (λ l. set l place byte) front ∙ e
