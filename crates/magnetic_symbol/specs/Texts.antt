-- The copy of a text, held to the rules of time reversal: byte by byte it is the text with its time reversals taken off, and its tokens are those that the
-- text's are read as, at the same places. So nobody has to believe the copy.
-- The idea: a text is cut at its first token, whose copy is known, and what follows is a shorter text.
use Rattle.std.specs.Prelude.{◌≡◌, refl, ◌⊎◌, ◌↔◌, Bool, true, false, cond, List, [], ◌∷◌, ◌++◌, ℕ, zero, suc, ◌+◌, ◌<◌, eqb, length}
use Rattle.std.proofs.Common.{sym, ◌∙◌, ap, ap₂, subst, inl, inr, true≢false, append_assoc, append-nil, arith, eqb-true, length-append}
use Rattle.std.proofs.Math.Bool.{and-false}
use Rattle.hall_symbol.specs.Bytes.{whitespace, solid, opening}
use Rattle.hall_symbol.specs.Runs.{Every, Stops, every_append}
use Rattle.hall_symbol.specs.Cut.{Cut, FirstToken, solid-not-whitespace, whitespace-not-solid, cut_word, cut-length, tokens-cut, tokens_none}
use Rattle.hall_symbol.specs.Cut as cut
use Rattle.hall_symbol.specs.Spelling.{Opens}
use Rattle.hall_symbol.specs.Tokens.{token_at, tokens_from, tokens, bytes_of}
use Rattle.hall_symbol.specs.Agreement.{opens-append}
use Rattle.magnetic_symbol.specs.TimeReversals.{ReadAs, reversal, same, gap_of, Unreversed, end, shift, token, inversion_flag, TakenOff, blank, first}
use Rattle.magnetic_symbol.specs.TimeReversals.{TokensReadAs, none, shift-token, token-read, TextReadAs, no-token}
use Rattle.magnetic_symbol.specs.TimeReversals as rules
use Rattle.magnetic_symbol.specs.Reversals.{ends, blanked_from, blanked, flags_from, flags_of}
use Rattle.magnetic_symbol.specs.TokenCopies.{not-solid-whitespace, blank-copy, blank-flags, open-copy, open-flags}
use Rattle.magnetic_symbol.specs.Tokens.{TokenCopy, token-copy, every-left}
use Rattle.magnetic_symbol.specs.declared.reversals.Mode.TheVariants.{Before, First, Between}

-- ---- a token is read in one way
append-last : (u v : List ℕ) (b : ℕ) → u ++ (b ∷ []) ≡ v ++ (b ∷ []) → u ≡ v
append-last [] [] b e = refl
append-last [] (d ∷ v) b e = let z = ap length e in absurd (omega (arith, length-append v (b ∷ [])))
append-last (c ∷ u) [] b e = let z = ap length e in absurd (omega (arith, length-append u (b ∷ [])))
append-last (c ∷ u) (d ∷ v) b e =
    let heads : c ≡ d = cc in
    let tails : u ++ (b ∷ []) ≡ v ++ (b ∷ []) = cc in
    ap₂ (λ (x : ℕ) (l : List ℕ). x ∷ l) heads (append-last u v b tails)

pub read-once : (t u v : List ℕ) (f g : Bool) → ReadAs t u f → ReadAs t v g → (u ≡ v) × (f ≡ g)
read-once t u v f g (reversal _ r) (reversal _ q) = (append-last u v 39 (sym r.text ∙ q.text), refl)
read-once t u v f g (reversal _ r) (same never) = absurd (never u r)
read-once t u v f g (same never) (reversal _ q) = absurd (never v q)
read-once t u v f g (same h) (same k) = (refl, refl)

-- What a token is read as has bytes, none of them whitespace, and is shorter by its time reversal.
module _ (t : List ℕ) (long : 0 < length t) (whole : Every solid t) where
  pub read_some : (u : List ℕ) (f : Bool) → ReadAs t u f → 0 < length u
  read_some u f (reversal _ r) = r.some
  read_some u f (same never) = long

  pub read_whole : (u : List ℕ) (f : Bool) → ReadAs t u f → Every solid u
  read_whole u f (reversal _ r) = every-left solid u (39 ∷ []) (subst (Every solid) r.text whole)
  read_whole u f (same never) = whole

  pub read_length : (u : List ℕ) (f : Bool) → ReadAs t u f → length u + length (gap_of f) ≡ length t
  read_length u f (reversal _ r) = sym (length-append u (39 ∷ [])) ∙ sym (ap length r.text)
  read_length u f (same never) = omega arith

-- ---- the copy behind the first token
pub blank-same : (s : List ℕ) → Every whitespace s → blanked_from Between s ≡ s
unfolding blanked_from
blank-same s h = ap (blanked_from Between) (sym (append-nil s)) ∙ blank-copy s [] h ∙ append-nil s

pub blank_none : (s : List ℕ) → Every whitespace s → flags_from Between s ≡ []
unfolding flags_from
blank_none s h = ap (flags_from Between) (sym (append-nil s)) ∙ blank-flags s [] h

-- A token starts with `(`, or it is an N token.
pub opens-or-not : (t : List ℕ) → 0 < length t → Opens t ⊎ Stops opening t
opens-or-not [] h = absurd (omega arith)
opens-or-not (b ∷ t) h = go (opening b) refl
  where
    go : (o : Bool) → opening b ≡ o → (opening b ≡ true) ⊎ (opening b ≡ false)
    go true e = inl e
    go false e = inr e

shift_same : (t after : List ℕ) → Every solid t → Opens t → (blanked_from Between (t ++ after) ≡ t ++ after) × (flags_from Between (t ++ after) ≡ [])
shift_same [] after h o = absurd o
shift_same (b ∷ t) after h o = (open-copy b (t ++ after) h.0 o, open-flags b (t ++ after) h.0 o)

pub copy_of : (t after : List ℕ) → 0 < length t → Every solid t → Stops opening t → Stops solid after → TokenCopy t after
copy_of [] after l h o k = absurd (omega arith)
copy_of (b ∷ t) after l h o k = token-copy after k b t h o

module _ (s w t after : List ℕ) (cut : Cut s w t after) where
  pub cut-copy : blanked_from Between s ≡ w ++ blanked_from Between (t ++ after)
  cut-copy = ap (blanked_from Between) cut.text ∙ blank-copy w (t ++ after) cut.blank

  pub cut-flags : flags_from Between s ≡ flags_from Between (t ++ after)
  cut-flags = ap (flags_from Between) cut.text ∙ blank-flags w (t ++ after) cut.blank

  pub shift-copy : Opens t → blanked_from Between s ≡ s
  shift-copy o = cut-copy ∙ ap (λ (l : List ℕ). w ++ l) (shift_same t after cut.whole o).0 ∙ sym cut.text

  pub shift-flags : Opens t → flags_from Between s ≡ []
  shift-flags o = cut-flags ∙ (shift_same t after cut.whole o).1

-- What the rules say is the copy,
unreversed-copy : {s copy : List ℕ} {flags : List Bool} → Unreversed s copy flags → (copy ≡ blanked_from Between s) × (flags ≡ flags_from Between s)
unreversed-copy (end s h) = (sym (blank-same s h), sym (blank_none s h))
unreversed-copy (shift s w t after cut o) = (sym (shift-copy s w t after cut o), sym (shift-flags s w t after cut o))
unreversed-copy (token s w t after u later flag flags cut o read rest) =
    let c = copy_of t after cut.some cut.whole o cut.apart in
    let (bytes, flag_same) = read-once t u c.copy flag c.flag read c.copied in
    let (Later-same, flags-same) = unreversed-copy rest in (
      rw (bytes, flag_same, Later-same) (sym (cut-copy s w t after cut ∙ ap (λ (l : List ℕ). w ++ l) c.bytes)),
      ap₂ (λ (f : Bool) (fs : List Bool). f ∷ fs) flag_same flags-same ∙ sym (cut-flags s w t after cut ∙ c.flags),
    )

-- and of every text they say something.
abbrev Taken : List ℕ → Type 0
Taken s = (copy : List ℕ) × (flags : List Bool) × Unreversed s copy flags

unreversed-some : (n : ℕ) (s : List ℕ) → length s < n → Taken s
unreversed-some zero s l = absurd (omega arith)
unreversed-some (suc n) s l = by_first (cut.first-token s) (λ after k. unreversed-some n after k)
  where
    by_first : FirstToken s → ((after : List ℕ) → length after < n → Taken after) → Taken s
    by_first (cut.blank h) shorter = (s, [], end s h)
    by_first (cut.token w t after cut) shorter = by-start (opens-or-not t cut.some)
      where
        by-start : Opens t ⊎ Stops opening t → Taken s
        by-start (inl o) = (s, [], shift s w t after cut o)
        by-start (inr o) =
            let c = copy_of t after cut.some cut.whole o cut.apart in
            let (later, flags, rest) = shorter after (omega (arith, cut-length s w t after cut, cut.some)) in
            (_, _, token s w t after c.copy later c.flag flags cut o c.copied rest)

pub unreversed : (s : List ℕ) → Unreversed s (blanked_from Between s) (flags_from Between s)
unreversed s =
    let (copy, flags, u) = unreversed-some (suc (length s)) s (omega arith) in
    let (bytes, said) = unreversed-copy u in
    rw (← bytes, ← said) u

-- ---- the whole text
-- The first token stays, and its `-` gives a flag.
first-copy : (t after : List ℕ) → Every solid t → Stops solid after → blanked_from First (t ++ after) ≡ t ++ blanked_from Between after
unfolding blanked_from
first-copy [] [] h k = refl
first-copy [] (b ∷ s) h k = rw (not-solid-whitespace b k)
first-copy (b ∷ t) after h k = rw (solid-not-whitespace b h.0) (ap (λ (l : List ℕ). b ∷ l) (first-copy t after h.1 k))

first-flags : (t after : List ℕ) → Every solid t → Stops solid after → flags_from First (t ++ after) ≡ flags_from Between after
unfolding flags_from
first-flags [] [] h k = refl
first-flags [] (b ∷ s) h k = rw (not-solid-whitespace b k, and-false (ends s))
first-flags (b ∷ t) after h k = rw (solid-not-whitespace b h.0, and-false (ends (t ++ after))) (first-flags t after h.1 k)

minus-solid : whitespace 45 ≡ false
unfolding whitespace
minus-solid = refl

no_minus : (b : ℕ) → whitespace b ≡ true → eqb b 45 ≡ false
no_minus b h = go (eqb b 45) refl
  where
    go : (x : Bool) → eqb b 45 ≡ x → x ≡ false
    go true e = absurd (true≢false (sym h ∙ ap whitespace (eqb-true b 45 e) ∙ minus-solid))
    go false e = refl

blank-byte : (b : ℕ) (s : List ℕ) → whitespace b ≡ true
    → (blanked_from Before (b ∷ s) ≡ b ∷ blanked_from Before s) × (flags_from Before (b ∷ s) ≡ flags_from Before s)
unfolding blanked_from flags_from
blank-byte b s h = (rw h, rw (h, no_minus b h, and-false (ends s)))

before-blank : (w s : List ℕ) → Every whitespace w
    → (blanked_from Before (w ++ s) ≡ w ++ blanked_from Before s) × (flags_from Before (w ++ s) ≡ flags_from Before s)
before-blank [] s h = (refl, refl)
before-blank (b ∷ w) s h =
    let (bytes, flags) = before-blank w s h.1 in
    let (byte, no_flag) = blank-byte b (w ++ s) h.0 in
    (byte ∙ ap (λ (l : List ℕ). b ∷ l) bytes, no_flag ∙ flags)

start-bytes : (b : ℕ) (s : List ℕ) → solid b ≡ true → blanked_from Before (b ∷ s) ≡ b ∷ blanked_from First s
unfolding blanked_from
start-bytes b s h = rw (solid-not-whitespace b h)

start-flags : (b : ℕ) (s : List ℕ) → solid b ≡ true → flags_from Before (b ∷ s) ≡ inversion_flag (b ∷ []) ++ flags_from First s
unfolding flags_from
start-flags b s h = go (eqb b 45) refl
  where
    go : (minus : Bool) → eqb b 45 ≡ minus → flags_from Before (b ∷ s) ≡ cond minus (false ∷ []) [] ++ flags_from First s
    go true e = rw (e, solid-not-whitespace b h)
    go false e = rw (e, solid-not-whitespace b h, and-false (ends s))

before-token : (t after : List ℕ) → 0 < length t → Every solid t → Stops solid after
    → (blanked_from Before (t ++ after) ≡ t ++ blanked_from Between after) × (flags_from Before (t ++ after) ≡ inversion_flag t ++ flags_from Between after)
before-token [] after l h k = absurd (omega arith)
before-token (b ∷ t) after l h k = (
  start-bytes b (t ++ after) h.0 ∙ ap (λ (l : List ℕ). b ∷ l) (first-copy t after h.1 k),
  start-flags b (t ++ after) h.0 ∙ ap (λ (l : List Bool). inversion_flag (b ∷ t) ++ l) (first-flags t after h.1 k),
)

-- The copy of a cut text.
pub text-copy : (s w t after : List ℕ) → Cut s w t after
    → (blanked s ≡ w ++ (t ++ blanked_from Between after)) × (flags_of s ≡ inversion_flag t ++ flags_from Between after)
text-copy s w t after cut =
    let (bytes, flags) = before-blank w (t ++ after) cut.blank in
    let (own, given) = before-token t after cut.some cut.whole cut.apart in (
      ap blanked cut.text ∙ bytes ∙ ap (λ (l : List ℕ). w ++ l) own,
      ap flags_of cut.text ∙ flags ∙ given,
    )

pub text-blank : (s : List ℕ) → Every whitespace s → (blanked s ≡ s) × (flags_of s ≡ [])
unfolding blanked_from flags_from
text-blank s h =
    let (bytes, flags) = before-blank s [] h in
    (ap blanked (sym (append-nil s)) ∙ bytes ∙ append-nil s, ap flags_of (sym (append-nil s)) ∙ flags)

taken-copy : (text copy : List ℕ) (flags : List Bool) → TakenOff text copy flags → (copy ≡ blanked text) × (flags ≡ flags_of text)
taken-copy text copy flags (blank h) = let (bytes, given) = text-blank text h in (sym bytes, sym given)
taken-copy text copy flags (first w t after later fs cut rest) =
    let (bytes, given) = text-copy text w t after cut in
    let (Later-same, flags-same) = unreversed-copy rest in
    (rw Later-same (sym bytes), rw flags-same (sym given))

taken-off : (text : List ℕ) → TakenOff text (blanked text) (flags_of text)
taken-off text = go (cut.first-token text)
  where
    go : FirstToken text → TakenOff text (blanked text) (flags_of text)
    go (cut.blank h) = let (bytes, given) = text-blank text h in rw (bytes, given) (blank h)
    go (cut.token w t after cut) =
        let (bytes, given) = text-copy text w t after cut in
        rw (bytes, given) (first w t after (blanked_from Between after) (flags_from Between after) cut (unreversed after))

-- The copy is the text with its time reversals taken off, and no other bytes are; the flags are those of its generators.
pub taken-off-exactly : (text copy : List ℕ) (flags : List Bool) → TakenOff text copy flags ↔ ((copy ≡ blanked text) × (flags ≡ flags_of text))
taken-off-exactly text copy flags = (
  taken-copy text copy flags,
  λ (bytes, given). rw (bytes, given) (taken-off text),
)

-- ---- the tokens
-- Whitespace may be put before a cut text.
pub cut_later : (gap s w t after : List ℕ) → Every whitespace gap → Cut s w t after → Cut (gap ++ s) (gap ++ w) t after
cut_later gap s w t after h cut =
    record {
      text = ap (λ (l : List ℕ). gap ++ l) cut.text ∙ sym (append_assoc gap w (t ++ after));
      blank = every_append whitespace gap w h cut.blank;
      some = cut.some;
      whole = cut.whole;
      apart = cut.apart;
    }

space-apart : solid 32 ≡ false
unfolding solid whitespace
space-apart = refl

pub gap-blank : (f : Bool) → Every whitespace (gap_of f)
unfolding whitespace
gap-blank true = (refl, tt)
gap-blank false = tt

-- What follows a token does so in the copy.
pub stays-apart : {s copy : List ℕ} {flags : List Bool} → Unreversed s copy flags → Stops solid s → Stops solid copy
stays-apart (end s h) k = k
stays-apart (shift s w t after cut o) k = k
stays-apart (token s [] [] after u later flag flags cut o read rest) k = absurd (omega (arith, cut.some))
stays-apart (token s [] (b ∷ t) after u later flag flags cut o read rest) k =
    let z : solid b ≡ false = subst (Stops solid) cut.text k in absurd (true≢false (sym cut.whole.0 ∙ z))
stays-apart (token s (b ∷ w) t after u later flag flags cut o read rest) k = whitespace-not-solid b cut.blank.0

-- The token that a cut token is read as is cut out of the copy.
pub read-cut : (s w t after u later : List ℕ) (flag : Bool) (flags : List Bool) → Cut s w t after → ReadAs t u flag → Unreversed after later flags
    → Cut (w ++ (u ++ (gap_of flag ++ later))) w u (gap_of flag ++ later)
read-cut s w t after u later flag flags cut read rest =
    record {
      text = refl;
      blank = cut.blank;
      some = read_some t cut.some cut.whole u flag read;
      whole = read_whole t cut.some cut.whole u flag read;
      apart = behind flag;
    }
  where
    behind : (f : Bool) → Stops solid (gap_of f ++ later)
    behind true = space-apart
    behind false = stays-apart rest cut.apart

unreversed-tokens : {s copy : List ℕ} {flags : List Bool} → Unreversed s copy flags → (p : ℕ) (gap : List ℕ) → Every whitespace gap
    → TokensReadAs (tokens_from (p + length gap) true s) (tokens_from p true (gap ++ copy)) flags
unreversed-tokens (end s h) p gap g = rw (tokens_none (p + length gap) s h, tokens_none p (gap ++ s) (every_append whitespace gap s g h)) none
unreversed-tokens (shift s w t after cut o) p gap g =
    let place : p + length (gap ++ w) ≡ p + length gap + length w = omega (arith, length-append gap w) in
    rw (tokens-cut (p + length gap) s w t after cut, tokens-cut p (gap ++ s) (gap ++ w) t after (cut_later gap s w t after g cut), place)
    (shift-token _ _ (opens-append t after o))
unreversed-tokens (token s w t after u later flag flags cut o read rest) p gap g =
    let copy = w ++ (u ++ (gap_of flag ++ later)) in
    let new = read-cut s w t after u later flag flags cut read rest in
    let long = cut_later gap copy w u (gap_of flag ++ later) g new in
    let start : p + length (gap ++ w) ≡ p + length gap + length w = omega (arith, length-append gap w) in
    let next : p + length (gap ++ w) + length u + length (gap_of flag) ≡ p + length gap + length w + length t =
    omega (arith, length-append gap w, read_length t cut.some cut.whole u flag read) in
    let here = token_at (p + length gap + length w) (t ++ after) in
    let there = token_at (p + length (gap ++ w)) (u ++ (gap_of flag ++ later)) in
    let own : bytes_of here ≡ t = cut_word s w t after cut in
    let said : bytes_of there ≡ u = cut_word copy w u (gap_of flag ++ later) new in
    let behind = tokens_from (p + length (gap ++ w) + length u) true (gap_of flag ++ later) in
    let later-tokens = unreversed-tokens rest (p + length (gap ++ w) + length u) (gap_of flag) (gap-blank flag) in
    let all-later = subst (λ (q : ℕ). TokensReadAs (tokens_from q true after) behind flags) next later-tokens in
    rw (tokens-cut (p + length gap) s w t after cut, tokens-cut p (gap ++ copy) (gap ++ w) u (gap_of flag ++ later) long)
    (token-read here there (tokens_from (p + length gap + length w + length t) true after) behind flag flags start (rw own o) (rw (own, said) read) all-later)

-- The first token is cut out of the copy as out of the text.
pub first-cut : (s w t after : List ℕ) → Cut s w t after → Cut (w ++ (t ++ blanked_from Between after)) w t (blanked_from Between after)
first-cut s w t after cut =
    record {
      text = refl;
      blank = cut.blank;
      some = cut.some;
      whole = cut.whole;
      apart = stays-apart (unreversed after) cut.apart;
    }

-- Each token of the copy is what the text's token is read as, at the same place: the first as it stands, each N token without its time reversal, and from a
-- token that starts with `(` on all as they stand.
pub blanked-tokens : (text : List ℕ) → TextReadAs (tokens text) (tokens (blanked text)) (flags_of text)
blanked-tokens text = go (cut.first-token text)
  where
    go : FirstToken text → TextReadAs (tokens text) (tokens (blanked text)) (flags_of text)
    go (cut.blank h) = let (bytes, given) = text-blank text h in rw (bytes, given, tokens_none 0 text h) no-token
    go (cut.token w t after cut) =
        let (bytes, given) = text-copy text w t after cut in
        let later = blanked_from Between after in
        let rest = unreversed after in
        let new = first-cut text w t after cut in
        let here = token_at (0 + length w) (t ++ after) in
        let there = token_at (0 + length w) (t ++ later) in
        let own : bytes_of here ≡ t = cut_word text w t after cut in
        let said : bytes_of there ≡ t = cut_word (w ++ (t ++ later)) w t later new in
        let ts = tokens_from (0 + length w + length t) true after in
        let us = tokens_from (0 + length w + length t) true later in
        let next : 0 + length w + length t + 0 ≡ 0 + length w + length t = omega arith in
        let later-tokens = unreversed-tokens rest (0 + length w + length t) [] tt in
        let all-later : TokensReadAs ts us (flags_from Between after) =
        subst (λ (q : ℕ). TokensReadAs (tokens_from q true after) us (flags_from Between after)) next later-tokens in
        rw (bytes, given, tokens-cut 0 text w t after cut, tokens-cut 0 (w ++ (t ++ later)) w t later new)
        (subst (λ (b : List ℕ). TextReadAs (here ∷ ts) (there ∷ us) (inversion_flag b ++ flags_from Between after)) own
        (rules.first-token here there ts us (flags_from Between after) refl (said ∙ sym own) all-later))
