-- The reader's steps at places of the text, as the code goes from token to token.
use Rattle.std.specs.Prelude.{◌≡◌, true, false, ℕ, ◌+◌, ◌-◌, ◌<◌, ◌≤◌, length, get_or, drop, Bool, Err, Option, Result}
use Rattle.std.proofs.Math.Path.{sym, ap}
use Rattle.std.proofs.Common.{◌∙◌, arith, add-zero, length-drop, get_or-drop, length-take-le}
use mathlib.Core.List.{List, [], ◌∷◌, ◌++◌}
use Rattle.std.proofs.Math.ListN.{take}
use Rattle.operation.specs.declared.Operation.{Operation}
use Rattle.centering.specs.declared.Centering.{Centering}
use Rattle.hall_token.specs.Reader.{operation_token}
use Rattle.hall_axes.specs.declared.Previous.{Previous}
use Rattle.hall_token.specs.Answers.{answers-exact, refused-within}
use Rattle.hall_token.specs.declared.refusal.Refusal as token
use borrow.Author.Tests.{lt-ltb, le-ltb}
use Rattle.hall_symbol.specs.Bytes.{whitespace, solid, allowed, opening}
use Rattle.hall_symbol.specs.Runs.{run, run-within}
use Rattle.hall_symbol.specs.Tokens.{Token, token_at, tokens_from, tokens, word, trimmed, first_word, word_from}
use Rattle.hall_symbol.specs.Cut.{has-cut, tokens-scan, tokens-scan-none}
use Rattle.hall_symbol.specs.Listed.{list_of}
use Rattle.hall_symbol.specs.declared.generators.Generators.{Generators}
use Rattle.hall_symbol.specs.Places.{word-trimmed, word-behind, word_bytes, word-within}
use Rattle.hall_symbol.specs.Reader.{Reading, refusal, read_symbol, read_tokens, on_lattice, at_shift, at_end, operations, on_operation, next_previous, step-shift, step-ninth, step-rotation}
use Rattle.hall_symbol.specs.declared.bytes.Word.{Word}
use Rattle.hall_symbol.specs.declared.refusal.Refusal.TheVariants.{TooLong, ForbiddenByte, NoToken, TooMany}
use Rattle.hall_symbol.specs.Lattice.{lattice_token}
use Rattle.hall_axes.specs.declared.Fold.{Fold}
use Rattle.hall_axes.specs.declared.Axis.{Axis}
use Rattle.hall_token.specs.declared.refusal.Refusal.{Refusal}

module _ (text : List ℕ) (p : ℕ) (w : Word) (found : w ≡ word_from p text) where
  -- Where the word starts.
  starts : w.start ≡ p + run whitespace (drop p text)
  starts = ap (λ (x : Word). x.start) found

  -- Where it ends.
  ends : w.end ≡ w.start + run solid (drop w.start text)
  ends = ap (λ (x : Word). x.end) found ∙ ap (λ (n : ℕ). n + run solid (drop n text)) (sym starts)

  -- Nothing but whitespace is left.
  none_left : p ≤ length text → length text ≤ w.start → tokens_from p true (drop p text) ≡ []
  none_left h k = tokens-scan-none p (drop p text) (omega (arith, starts, length-drop p text))

  -- The next token, and those behind it.
  next-left : w.start < length text → tokens_from p true (drop p text)
      ≡ token_at w.start (drop w.start text) ∷ tokens_from w.end true (drop w.end text)
  next-left h =
      let s = drop p text in
      let last : p + run whitespace s + run solid (trimmed s) ≡ w.end =
      ap (λ (n : ℕ). n + run solid (trimmed s)) (sym starts) ∙ ap (λ (l : List ℕ). w.start + run solid l) (sym (word-trimmed text p w found)) ∙ sym ends in
      tokens-scan p s (omega (arith, starts, length-drop p text))
      ∙ rw (last, ← starts, ← word-behind text p w found, ← word-trimmed text p w found)

  -- A token that is there has a byte.
  word_some : w.start < length text → w.start < w.end
  word_some h =
      let s = drop p text in
      let some = (has-cut s (omega (arith, starts, length-drop p text))).some in
      let long : length (first_word s) ≡ run solid (trimmed s) = length-take-le (run solid (trimmed s)) (trimmed s) (run-within solid (trimmed s)) in
      let same : run solid (drop w.start text) ≡ run solid (trimmed s) = ap (run solid) (word-trimmed text p w found) in
      omega (arith, ends)

  module _ (n : ℕ) (c : Centering) (gs : List Operation) (previous : Previous) (there : w.start < length text) where
    -- The byte at its start.
    first_byte : get_or (drop w.start text) 0 0 ≡ get_or text w.start 0
    -- The byte at its start.
    first_byte = get_or-drop w.start text 0 0 ∙ ap (λ (i : ℕ). get_or text i 0) (add-zero w.start)

    -- The token there.
    here : Token
    here = token_at w.start (drop w.start text)

    -- The tokens behind it.
    later : List Token
    later = tokens_from w.end true (drop w.end text)

    -- The reader's step to that token.
    step : operations n c gs previous (tokens_from p true (drop p text)) ≡ operations n c gs previous (here ∷ later)
    unfolding here later
    step = ap (λ (ts : List Token). operations n c gs previous ts) (next-left there)

    -- At a token that starts with `(`.
    walk-shift : opening (get_or text w.start 0) ≡ true
        → operations n c gs previous (tokens_from p true (drop p text)) ≡ at_shift c gs previous.count (token_at w.start (drop w.start text))
    unfolding here
    walk-shift h = step ∙ step-shift n c gs previous here later (ap opening first_byte ∙ h)

    -- At the ninth N token.
    walk-ninth : opening (get_or text w.start 0) ≡ false → 8 ≤ previous.count
        → operations n c gs previous (tokens_from p true (drop p text)) ≡ refusal (TooMany w.start)
    unfolding here
    walk-ninth h k = step ∙ step-ninth n c gs previous here later (ap opening first_byte ∙ h) k

    -- At any other token.
    walk-rotation : opening (get_or text w.start 0) ≡ false → previous.count < 8 → (answer : Result (Operation × Fold × Axis) (ℕ × Refusal))
        → answer ≡ operation_token (take (w.end - w.start) (drop w.start text)) previous
        → operations n c gs previous (tokens_from p true (drop p text))
        ≡ on_operation w.start answer (λ o f a. operations n c (gs ++ (o ∷ [])) (next_previous previous f a)
        (tokens_from w.end true (drop w.end text)))
    unfolding here later
    walk-rotation h k answer e =
        let same : word (drop w.start text) ≡ take (w.end - w.start) (drop w.start text) =
        ap word (word-trimmed text p w found) ∙ sym (word_bytes text p w found) in
        step ∙ step-rotation n c gs previous here later (ap opening first_byte ∙ h) k ∙ rw (same, ← e)

-- ---- the code's walk over the N tokens
-- The code has come to place p with a list and with what is previous, and `whole`, the reading from the first token on, is the reading from here on.
pub record Reached (text : List ℕ) (c : Centering) (whole : Reading) (p : ℕ) (list : Generators) (previous : Previous) : Type 0 where
  pub within : p ≤ length text
  pub few : previous.count ≤ 8
  pub short : list.count ≤ previous.count + 1
  pub slots : length list.operations ≡ 9
  pub same : whole ≡ operations (length text) c (list_of list) previous (tokens_from p true (drop p text))

module _ {text : List ℕ} {c : Centering} {whole : Reading} {p : ℕ} {list : Generators} {previous : Previous} {w : Word}
    (reached : Reached text c whole p list previous) (found : w ≡ word_from p text) where
  -- The next word lies in the text.
  pub reached-word : (p ≤ w.start) × (w.start ≤ w.end) × (w.end ≤ length text)
  reached-word = word-within text p w found reached.within

  -- A token that is there has a byte.
  pub reached-some : w.start < length text → w.start < w.end
  reached-some there = word_some text p w found there

  -- Nothing but whitespace is left.
  pub reached-end : length text ≤ w.start → whole ≡ at_end (length text) c (list_of list) previous.count
  unfolding operations
  reached-end h =
      reached.same ∙ ap (operations (length text) c (list_of list) previous) (none_left text p w found reached.within h)

  -- At a token that starts with `(`.
  pub reached-shift : w.start < length text → opening (get_or text w.start 0) ≡ true
      → whole ≡ at_shift c (list_of list) previous.count (token_at w.start (drop w.start text))
  reached-shift there h = reached.same ∙ walk-shift text p w found (length text) c (list_of list) previous there h

  -- At the ninth N token.
  pub reached-ninth : w.start < length text → opening (get_or text w.start 0) ≡ false → 8 ≤ previous.count → whole ≡ refusal (TooMany w.start)
  reached-ninth there h k = reached.same ∙ walk-ninth text p w found (length text) c (list_of list) previous there h k

  -- At any other token the reading goes by its answer.
  pub reached-rotation : w.start < length text → opening (get_or text w.start 0) ≡ false → previous.count < 8
      → (answer : Result (Operation × Fold × Axis) (ℕ × Refusal))
      → answer ≡ operation_token (take (w.end - w.start) (drop w.start text)) previous
      → whole ≡ on_operation w.start answer (λ o f a. operations (length text) c (list_of list ++ (o ∷ [])) (next_previous previous f a)
      (tokens_from w.end true (drop w.end text)))
  reached-rotation there h k answer e =
      reached.same ∙ walk-rotation text p w found (length text) c (list_of list) previous there h k answer e

  -- A refused token's offset stays within the text.
  pub reached-offset : (k : ℕ) (r : token.Refusal) → Err (k, r) ≡ operation_token (take (w.end - w.start) (drop w.start text)) previous
      → w.start + k ≤ length text
  reached-offset k r e =
      let own = take (w.end - w.start) (drop w.start text) in
      let within = refused-within own previous k r ((answers-exact own previous (Err (k, r))).0 (sym e)) in
      let (after, ordered, reaches) = reached-word in
      let left = length-drop w.start text in
      let long : length own ≡ w.end - w.start = length-take-le (w.end - w.start) (drop w.start text) (omega arith) in
      omega arith

-- ---- the whole text
module _ (text : List ℕ) where
  -- Over 80 bytes.
  pub read-long : 80 < length text → read_symbol text ≡ refusal TooLong
  unfolding read_symbol
  read-long h = rw (lt-ltb 80 (length text) h)

  module _ (short : length text ≤ 80) (p : ℕ) (found : p ≡ 0 + run allowed text) where
    -- The scan's place is the run of allowed bytes.
    reached : run allowed text ≡ p
    reached = omega (arith, found)

    -- A byte that may not stand there.
    pub read-forbidden : p < length text → read_symbol text ≡ refusal (ForbiddenByte p)
    unfolding read_symbol
    read-forbidden h = rw (le-ltb 80 (length text) short, reached, lt-ltb p (length text) h)

    -- A fit text is read by its tokens.
    read-fit : length text ≤ p → read_symbol text ≡ read_tokens (length text) (tokens text)
    unfolding read_symbol
    read-fit h = rw (le-ltb 80 (length text) short, reached, le-ltb p (length text) h)

    module _ (fit : length text ≤ p) (w : Word) (first : w ≡ word_from 0 text) where
      -- No token.
      pub read-blank : length text ≤ w.start → read_symbol text ≡ refusal NoToken
      read-blank h = read-fit fit ∙ ap (read_tokens (length text)) (none_left text 0 w first (omega arith) h)

      -- The first token's answer decides.
      pub read-lattice : w.start < length text → (answer : Option (Bool × Centering)) → answer ≡ lattice_token (take (w.end - w.start) (drop w.start text))
          → read_symbol text ≡ on_lattice (length text) w.start answer (tokens_from w.end true (drop w.end text))
      read-lattice h answer e =
          let same : word (drop w.start text) ≡ take (w.end - w.start) (drop w.start text) =
          ap word (word-trimmed text 0 w first) ∙ sym (word_bytes text 0 w first) in
          read-fit fit ∙ ap (read_tokens (length text)) (next-left text 0 w first h) ∙ rw (same, ← e)
