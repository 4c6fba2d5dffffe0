-- A text cut at its first token: whitespace, the token, and what follows. There is one such cut if the text has a token, and none otherwise.
use Rattle.std.specs.Prelude.{◌≡◌, refl, Bool, true, false, List, [], ◌∷◌, ◌++◌, ℕ, suc, ◌+◌, ◌<◌, ◌≤◌, ltb, length, take, drop}
use Rattle.std.proofs.Common.{sym, ◌∙◌, ap, arith, ltb-true, ltb-false, length-append, length-drop, take-append-drop, length-take-le}
use Rattle.std.proofs.lemmas.Bool.{not-true}
use Rattle.std.proofs.Math.Seq.{drop-append_seam, take-append_seam}
use Rattle.hall_symbol.specs.Bytes.{whitespace, solid}
use Rattle.hall_symbol.specs.Runs.{run, Every, Stops, run-seam, run-every, run-stops, run-within, run-all}
use Rattle.hall_symbol.specs.Tokens.{Token, token_at, word, trimmed, first_word, behind_word, tokens_from}

-- The text s is the whitespace w, the token t, and then what follows, which is nothing or begins with whitespace.
pub record Cut (s w t after : List ℕ) : Type 0 where
  pub text : s ≡ w ++ (t ++ after)
  pub blank : Every whitespace w
  pub some : 0 < length t
  pub whole : Every solid t
  pub apart : Stops solid after

-- No byte is both.
pub solid-not-whitespace : (b : ℕ) → solid b ≡ true → whitespace b ≡ false
unfolding solid
solid-not-whitespace b h = not-true (whitespace b) h

-- Whitespace is no byte of a token.
pub whitespace-not-solid : (b : ℕ) → whitespace b ≡ true → solid b ≡ false
unfolding solid
whitespace-not-solid b h = rw h

-- What is no whitespace is one.
not-whitespace-solid : (b : ℕ) → whitespace b ≡ false → solid b ≡ true
unfolding solid
not-whitespace-solid b h = rw h

-- A token ends the whitespace before it.
pub token-stops : (t after : List ℕ) → 0 < length t → Every solid t → Stops whitespace (t ++ after)
token-stops [] after h e = absurd (omega arith)
token-stops (b ∷ t) after h e = solid-not-whitespace b e.0

-- ---- the cut's parts are the ones that the reader takes
module _ (s w t after : List ℕ) (cut : Cut s w t after) where
  -- The whitespace is all that the text starts with.
  pub cut-blank : run whitespace s ≡ length w
  cut-blank = rw cut.text (run-seam whitespace w (t ++ after) cut.blank (token-stops t after cut.some cut.whole))

  -- Behind it the token starts.
  pub cut-trimmed : trimmed s ≡ t ++ after
  cut-trimmed = ap (λ (n : ℕ). drop n s) cut-blank ∙ rw cut.text (drop-append_seam w (t ++ after))

  -- The token is the longest run.
  pub cut-run : run solid (t ++ after) ≡ length t
  cut-run = run-seam solid t after cut.whole cut.apart

  -- Its bytes are those read.
  pub cut_word : word (t ++ after) ≡ t
  cut_word = ap (λ (n : ℕ). take n (t ++ after)) cut-run ∙ take-append_seam t after

  -- It is the first word of the text.
  pub cut-firstword : first_word s ≡ t
  cut-firstword = ap word cut-trimmed ∙ cut_word

  -- What follows it is what is read on.
  pub cut-behind : behind_word s ≡ after
  cut-behind =
      ap (λ (l : List ℕ). drop (run solid l) l) cut-trimmed ∙ ap (λ (n : ℕ). drop n (t ++ after)) cut-run ∙ drop-append_seam t after

  -- The lengths add up.
  pub cut-length : length s ≡ length w + length t + length after
  cut-length = ap length cut.text ∙ length-append w (t ++ after) ∙ omega (arith, length-append t after)

-- ---- the cut of a text that has a token
split-solid : (s : List ℕ) → Stops whitespace s → 0 < length s → 0 < length (word s)
unfolding run
split-solid [] h k = absurd (omega arith)
split-solid (b ∷ s) h k = rw (not-whitespace-solid b h) (omega arith)

-- A text with a byte behind its first whitespace has a cut.
pub has-cut : (s : List ℕ) → run whitespace s < length s → Cut s (take (run whitespace s) s) (first_word s) (behind_word s)
has-cut s h =
    let r = trimmed s in
    let long : 0 < length r = omega (arith, length-drop (run whitespace s) s) in
    record {
      text = sym (take-append-drop (run whitespace s) s) ∙ ap (λ (l : List ℕ). take (run whitespace s) s ++ l) (sym (take-append-drop (run solid r) r));
      blank = run-every whitespace s;
      some = split-solid r (run-stops whitespace s) long;
      whole = run-every solid r;
      apart = run-stops solid r;
    }

-- A text is whitespace, or it has a first token.
pub data FirstToken (s : List ℕ) : Type 0 where
  blank : Every whitespace s → FirstToken s
  token : (w t after : List ℕ) → Cut s w t after → FirstToken s

-- Which of the two it is.
pub first-token : (s : List ℕ) → FirstToken s
first-token s = go (ltb (run whitespace s) (length s)) refl
  where
    go : (b : Bool) → ltb (run whitespace s) (length s) ≡ b → FirstToken s
    go true e = token (take (run whitespace s) s) (first_word s) (behind_word s) (has-cut s (ltb-true (run whitespace s) (length s) e))
    go false e = blank (run-all whitespace s (ltb-false (run whitespace s) (length s) e))

-- ---- the list of tokens
tokens-blank : (p : ℕ) (w s : List ℕ) → Every whitespace w → tokens_from p true (w ++ s) ≡ tokens_from (p + length w) true s
unfolding tokens_from
-- Whitespace before the tokens moves them on.
tokens-blank p [] s h = let e : p ≡ p + 0 = omega arith in ap (λ (q : ℕ). tokens_from q true s) e
tokens-blank p (b ∷ w) s h =
    let e : suc p + length w ≡ p + suc (length w) = omega arith in
    rw (whitespace-not-solid b h.0, h.0) (tokens-blank (suc p) w s h.1 ∙ ap (λ (q : ℕ). tokens_from q true s) e)

-- Whitespace alone has no token.
pub tokens_none : (p : ℕ) (w : List ℕ) → Every whitespace w → tokens_from p true w ≡ []
unfolding tokens_from
tokens_none p [] h = refl
tokens_none p (b ∷ w) h = rw (whitespace-not-solid b h.0, h.0) (tokens_none (suc p) w h.1)

-- Behind a token whitespace comes first, so none starts there.
tokens-apart : (p : ℕ) (after : List ℕ) → Stops solid after → tokens_from p false after ≡ tokens_from p true after
unfolding tokens_from
tokens-apart p [] h = refl
tokens-apart p (b ∷ s) h = rw h

-- Inside a token none starts.
tokens-inside : (p : ℕ) (t after : List ℕ) → Every solid t → Stops solid after → tokens_from p false (t ++ after) ≡ tokens_from (p + length t) true after
unfolding tokens_from
tokens-inside p [] after h k =
    let e : p ≡ p + 0 = omega arith in tokens-apart p after k ∙ ap (λ (q : ℕ). tokens_from q true after) e
tokens-inside p (b ∷ t) after h k =
    let e : suc p + length t ≡ p + suc (length t) = omega arith in
    rw (solid-not-whitespace b h.0) (tokens-inside (suc p) t after h.1 k ∙ ap (λ (q : ℕ). tokens_from q true after) e)

-- A token, and then those of what follows.
tokens-word : (p : ℕ) (t after : List ℕ) → 0 < length t → Every solid t → Stops solid after
    → tokens_from p true (t ++ after) ≡ token_at p (t ++ after) ∷ tokens_from (p + length t) true after
unfolding tokens_from
tokens-word p [] after l h k = absurd (omega arith)
tokens-word p (b ∷ t) after l h k =
    let e : suc p + length t ≡ p + suc (length t) = omega arith in
    rw (h.0, solid-not-whitespace b h.0) (ap (λ (ts : List Token). token_at p (b ∷ (t ++ after)) ∷ ts)
    (tokens-inside (suc p) t after h.1 k ∙ ap (λ (q : ℕ). tokens_from q true after) e))

-- A cut text's tokens: the first, and then those of what follows.
pub tokens-cut : (p : ℕ) (s w t after : List ℕ) → Cut s w t after
    → tokens_from p true s ≡ token_at (p + length w) (t ++ after) ∷ tokens_from (p + length w + length t) true after
tokens-cut p s w t after cut =
    ap (λ (l : List ℕ). tokens_from p true l) cut.text ∙ tokens-blank p w (t ++ after) cut.blank
    ∙ tokens-word (p + length w) t after cut.some cut.whole cut.apart

-- The same in the numbers that a scan finds.
pub tokens-scan : (p : ℕ) (s : List ℕ) → run whitespace s < length s
    → tokens_from p true s ≡ token_at (p + run whitespace s) (trimmed s) ∷ tokens_from (p + run whitespace s + run solid (trimmed s)) true (behind_word s)
tokens-scan p s h =
    let r = trimmed s in
    let w : length (take (run whitespace s) s) ≡ run whitespace s = length-take-le (run whitespace s) s (run-within whitespace s) in
    let l : length (word r) ≡ run solid r = length-take-le (run solid r) r (run-within solid r) in
    tokens-cut p s (take (run whitespace s) s) (first_word s) (behind_word s) (has-cut s h) ∙ rw (w, l, take-append-drop (run solid r) r)

-- No byte behind the whitespace, no token.
pub tokens-scan-none : (p : ℕ) (s : List ℕ) → length s ≤ run whitespace s → tokens_from p true s ≡ []
tokens-scan-none p s h = tokens_none p s (run-all whitespace s h)
