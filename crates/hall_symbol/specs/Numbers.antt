-- A shift read from place to place, as the code goes: each outcome against the definition on the text from there on.
use Rattle.std.specs.Prelude.{◌≡◌, refl, Bool, true, false, cond, List, length, take, Option, Some, None}
use Rattle.std.proofs.Math.Path.{sym, ap}
use Rattle.std.proofs.Common.{◌∙◌}
use Prim.Native.Nat.{ℕ, suc, ◌+◌, ◌-◌, ◌<◌, ◌≤◌}
use native.Mathlib.Omega.{arith}
use borrow.Author.Tests.{le-leb, lt-leb, lt-ltb, le-ltb}
use Rattle.std.proofs.Math.ListN.{drop, length-drop}
use Rattle.std.proofs.Math.Seq.{drop-drop}
use Rattle.operation.specs.declared.Translation.{Translation}
use Rattle.hall_symbol.specs.Bytes.{whitespace, unclosed}
use Rattle.hall_symbol.specs.Runs.{run}
use Rattle.hall_symbol.specs.Tokens.{first_word, behind_word, word_from}
use Rattle.hall_symbol.specs.Places.{word-behind, word-within}
use Rattle.hall_symbol.specs.Shift.{shift_number, number_ending, number_from, blank, numbers_of, closed_shift, shift_of}

-- What an answer with a place says of the number.
ending-none : (e : ℕ) (n : Option ℕ) → number_ending e n ≡ None → n ≡ None
-- What an answer with a place says of the number.
ending-none e (Some n) h = let z : ◌≡◌ {A = ℕ} 0 1 = cc in absurd (omega arith)
ending-none e None h = refl

-- And of the place.
ending-is : (e : ℕ) (n : Option ℕ) (m q : ℕ) → number_ending e n ≡ Some (m, q) → (n ≡ Some m) × (q ≡ e)
ending-is e (Some n) m q h =
    let pair : ◌≡◌ {A = ℕ × ℕ} (n, e) (m, q) = cc in
    (ap (λ (p : ℕ × ℕ). Some p.0) pair, sym (ap (λ (p : ℕ × ℕ). p.1) pair))
-- And of the place.
ending-is e None m q h = let z : ◌≡◌ {A = ℕ} 0 1 = cc in absurd (omega arith)

-- No number from place p on.
from-none : (p : ℕ) (s : List ℕ) → number_from p s ≡ None → shift_number (first_word (drop p s)) ≡ None
from-none p s h = ending-none (word_from p s).end (shift_number (first_word (drop p s))) h

-- The number m from place p on, and q behind it.
from_is : (p : ℕ) (s : List ℕ) (m q : ℕ) → number_from p s ≡ Some (m, q) → (shift_number (first_word (drop p s)) ≡ Some m) × (drop q s ≡ behind_word (drop p s))
from_is p s m q h =
    let (n, e) = ending-is (word_from p s).end (shift_number (first_word (drop p s))) m q h in
    (n, ap (λ (k : ℕ). drop k s) e ∙ word-behind s p (word_from p s) refl)

-- The place behind a number is in the text.
pub behind-within : (p : ℕ) (s : List ℕ) (m q : ℕ) → p ≤ length s → number_from p s ≡ Some (m, q) → q ≤ length s
behind-within p s m q l h =
    let (n, e) = ending-is (word_from p s).end (shift_number (first_word (drop p s))) m q h in
    let (a, b, c) = word-within s p (word_from p s) refl l in
    omega arith

-- A test between two refusals is a refusal.
either_way : (b : Bool) → ◌≡◌ {A = Option Translation} None (cond b None None)
either_way true = refl
either_way false = refl

module _ (s : List ℕ) where
  -- No first number.
  pub no-first : number_from 0 s ≡ None → None ≡ numbers_of s
  unfolding numbers_of
  no-first h = rw (from-none 0 s h) (either_way (blank (behind_word (behind_word (behind_word s)))))

  module _ (x a : ℕ) (first : number_from 0 s ≡ Some (x, a)) where
    -- No second number.
    pub no_second : number_from a s ≡ None → None ≡ numbers_of s
    unfolding numbers_of
    no_second h =
        let (n, r) = from_is 0 s x a first in
        let none : shift_number (first_word (behind_word s)) ≡ None = rw r at (from-none a s h) in
        rw (n, none) (either_way (blank (behind_word (behind_word (behind_word s)))))

    module _ (y b : ℕ) (second : number_from a s ≡ Some (y, b)) where
      -- The second number is the one read behind the first.
      second_is : (shift_number (first_word (behind_word s)) ≡ Some y) × (drop b s ≡ behind_word (behind_word s))
      second_is = let (n, r) = from_is 0 s x a first in rw r at (from_is a s y b second)

      -- No third number.
      pub no_third : number_from b s ≡ None → None ≡ numbers_of s
      unfolding numbers_of
      no_third h =
          let (n, r) = from_is 0 s x a first in
          let (m, q) = second_is in
          let none : shift_number (first_word (behind_word (behind_word s))) ≡ None = rw q at (from-none b s h) in
          rw (n, m, none) (either_way (blank (behind_word (behind_word (behind_word s)))))

      module _ (z d : ℕ) (third : number_from b s ≡ Some (z, d)) where
        -- The third is the one read behind the second.
        third-is : (shift_number (first_word (behind_word (behind_word s))) ≡ Some z) × (drop d s ≡ behind_word (behind_word (behind_word s)))
        third-is = let (m, q) = second_is in rw q at (from_is b s z d third)

        -- More than whitespace is left behind the third.
        pub more-follows : d + run whitespace (drop d s) < length s → None ≡ numbers_of s
        unfolding numbers_of
        more-follows h =
            let (k, r) = third-is in
            rw (← r, lt-leb (length (drop d s)) (run whitespace (drop d s)) (omega (arith, length-drop d s)))

        -- Only whitespace is left.
        pub three-numbers : length s ≤ d + run whitespace (drop d s) → Some (record { x = x; y = y; z = z }) ≡ numbers_of s
        unfolding numbers_of
        three-numbers h =
            let (n, a') = from_is 0 s x a first in
            let (m, b') = second_is in
            let (k, r) = third-is in
            rw (n, m, k, ← r, le-leb (length (drop d s)) (run whitespace (drop d s)) (omega (arith, length-drop d s)))

-- ---- the brackets
module _ (text : List ℕ) (p close : ℕ) (found : close ≡ p + 1 + run unclosed (drop (p + 1) text)) where
  -- The text behind the `(`.
  inner : List ℕ
  inner = drop (p + 1) text

  -- The shift is read there.
  opened : shift_of (drop p text) ≡ closed_shift inner
  unfolding inner
  opened = ap closed_shift (drop-drop 1 p text)

  -- What stands behind the `)`.
  rest : drop (suc (run unclosed inner)) inner ≡ drop (close + 1) text
  unfolding inner
  rest =
      let e : p + 1 + suc (run unclosed (drop (p + 1) text)) ≡ close + 1 = omega arith in
      drop-drop (suc (run unclosed (drop (p + 1) text))) (p + 1) text ∙ ap (λ (k : ℕ). drop k text) e

  -- There is no `)`.
  pub not-closed : length text ≤ close → None ≡ shift_of (drop p text)
  unfolding closed_shift inner
  not-closed h =
      sym (opened ∙ rw (le-ltb (run unclosed inner) (length inner) (omega (arith, length-drop (p + 1) text))))

  -- More than whitespace stands behind it.
  pub text-follows : close < length text → close + 1 + run whitespace (drop (close + 1) text) < length text → None ≡ shift_of (drop p text)
  unfolding closed_shift inner
  text-follows h k =
      sym (opened ∙ rw (
        lt-ltb (run unclosed inner) (length inner) (omega (arith, length-drop (p + 1) text)),
        rest,
        lt-leb (length (drop (close + 1) text)) (run whitespace (drop (close + 1) text)) (omega (arith, length-drop (close + 1) text)),
      ))

  -- Only whitespace stands behind it.
  pub brackets-close : close < length text → length text ≤ close + 1 + run whitespace (drop (close + 1) text)
      → numbers_of (take (close - (p + 1)) (drop (p + 1) text)) ≡ shift_of (drop p text)
  unfolding closed_shift inner
  brackets-close h k =
      let e : close - (p + 1) ≡ run unclosed inner = omega arith in
      rw e (sym (opened ∙ rw (
        lt-ltb (run unclosed inner) (length inner) (omega (arith, length-drop (p + 1) text)),
        rest,
        le-leb (length (drop (close + 1) text)) (run whitespace (drop (close + 1) text)) (omega (arith, length-drop (close + 1) text)),
      )))
