-- Places in a text against the text from there on: what a scan's numbers say of words.
use Rattle.std.specs.Prelude.{◌≡◌, refl, Bool, true, false, cond, List, ℕ, ◌+◌, ◌-◌, ◌<◌, ◌≤◌, ltb, length, take, drop, Option, Some, None}
use Rattle.std.proofs.Common.{sym, ◌∙◌, ap, subst, arith, length-drop, drop-drop, ltb-true, ltb-false}
use Rattle.hall_symbol.specs.Bytes.{whitespace, solid}
use Rattle.hall_symbol.specs.Runs.{run, run-within}
use Rattle.hall_symbol.specs.declared.bytes.Word.{Word}
use Rattle.hall_symbol.specs.Tokens.{trimmed, first_word, behind_word, word_from}

-- A run from a place on stays within the text.
pub run-reaches : (f : ℕ → Bool) (text : List ℕ) (p : ℕ) → p ≤ length text → p + run f (drop p text) ≤ length text
run-reaches f text p h = omega (arith, run-within f (drop p text), length-drop p text)

-- ---- the first word from place p on
module _ (text : List ℕ) (p : ℕ) where
  -- The text from the word on.
  here-trimmed : drop (word_from p text).start text ≡ trimmed (drop p text)
  here-trimmed = sym (drop-drop (run whitespace (drop p text)) p text)

  -- The text behind it.
  here-behind : drop (word_from p text).end text ≡ behind_word (drop p text)
  here-behind =
      sym (drop-drop (run solid (drop (word_from p text).start text)) (word_from p text).start text)
      ∙ ap (λ (l : List ℕ). drop (run solid l) l) here-trimmed

  -- Its own bytes.
  here-bytes : take ((word_from p text).end - (word_from p text).start) (drop (word_from p text).start text) ≡ first_word (drop p text)
  here-bytes =
      let e : (word_from p text).end - (word_from p text).start ≡ run solid (drop (word_from p text).start text) = omega arith in
      ap (λ (n : ℕ). take n (drop (word_from p text).start text)) e ∙ ap (λ (l : List ℕ). take (run solid l) l) here-trimmed

  -- It lies in the text.
  here-within : p ≤ length text → (p ≤ (word_from p text).start) × ((word_from p text).start ≤ (word_from p text).end) × ((word_from p text).end ≤ length text)
  here-within h =
      let first = run-reaches whitespace text p h in
      let second = run-reaches solid text (word_from p text).start first in
      (omega arith, omega arith, second)

  -- The same of a word that is found there.
  module _ (w : Word) (found : w ≡ word_from p text) where
    pub word-trimmed : drop w.start text ≡ trimmed (drop p text)
    word-trimmed = ap (λ (x : Word). drop x.start text) found ∙ here-trimmed

    -- The text behind it.
    pub word-behind : drop w.end text ≡ behind_word (drop p text)
    word-behind = ap (λ (x : Word). drop x.end text) found ∙ here-behind

    -- Its own bytes.
    pub word_bytes : take (w.end - w.start) (drop w.start text) ≡ first_word (drop p text)
    word_bytes = ap (λ (x : Word). take (x.end - x.start) (drop x.start text)) found ∙ here-bytes

    -- It lies in the text.
    pub word-within : p ≤ length text → (p ≤ w.start) × (w.start ≤ w.end) × (w.end ≤ length text)
    word-within h =
        subst (λ (x : Word). (p ≤ x.start) × (x.start ≤ x.end) × (x.end ≤ length text)) (sym found) (here-within h)

-- ---- the first word from place p on, where there is one
unfoldable pub found_word : ℕ → List ℕ → Option Word
found_word p text = cond (ltb (word_from p text).start (length text)) (Some (word_from p text)) None

pub found-word : (p : ℕ) (text : List ℕ) (r : Option Word) (w : Word) → r ≡ found_word p text → r ≡ Some w → (w ≡ word_from p text) × (w.start < length text)
unfolding found_word
found-word p text r w e h = go (ltb (word_from p text).start (length text)) refl (sym e ∙ h)
  where
    go : (t : Bool) → ltb (word_from p text).start (length text) ≡ t → cond t (Some (word_from p text)) None ≡ Some w
        → (w ≡ word_from p text) × (w.start < length text)
    go true b i =
        let same : w ≡ word_from p text = cc in
        let start = ap (λ (x : Word). x.start) same in
        let below = ltb-true (word_from p text).start (length text) b in
        (same, omega arith)
    go false b i = let z : ◌≡◌ {A = ℕ} 0 1 = cc in absurd (omega arith)

pub no_more : (p : ℕ) (text : List ℕ) (r : Option Word) → r ≡ found_word p text → r ≡ None → length text ≤ (word_from p text).start
unfolding found_word
no_more p text r e h = go (ltb (word_from p text).start (length text)) refl (sym e ∙ h)
  where
    go : (t : Bool) → ltb (word_from p text).start (length text) ≡ t → cond t (Some (word_from p text)) None ≡ None
        → length text ≤ (word_from p text).start
    go true b i = let z : ◌≡◌ {A = ℕ} 0 1 = cc in absurd (omega arith)
    go false b i = ltb-false (word_from p text).start (length text) b

-- Where only whitespace is left, the first word is empty.
pub no-bytes : (p : ℕ) (text : List ℕ) → p ≤ length text → length text ≤ (word_from p text).start → length (first_word (drop p text)) ≡ 0
no-bytes p text h k =
    let (after, ordered, reaches) = word-within text p (word_from p text) refl h in
    let none : (word_from p text).end - (word_from p text).start ≡ 0 = omega arith in
    ap length (sym (word_bytes text p (word_from p text) refl) ∙ ap (λ (n : ℕ). take n (drop (word_from p text).start text)) none)
