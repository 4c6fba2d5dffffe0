-- Which texts spell which layer symbol, said of the text alone: the letter is p or c, and the rest is read as in a plain symbol with P or C. And that the
-- plain reader on the copy in capitals says exactly this, every refusal with its place: nobody has to believe the copy.
use Rattle.std.specs.Prelude.{◌≡◌, refl, ◌⊎◌, ◌↔◌, Bool, true, false, cond, ◌&&◌, List, [], ◌∷◌, ◌++◌, ℕ, zero, suc, ◌-◌, ◌<◌, ◌≤◌, eqb, ltb, length, get_or, Option, Some}
use Rattle.std.proofs.Common.{sym, ◌∙◌, ap, subst, inl, inr, arith, eqb-true, eq-eqb, ltb-true, ltb-false, lt-ltb, le-ltb}
use Rattle.std.proofs.lemmas.Bool.{not-false}
use Rattle.std.proofs.lemmas.Option.{some_pair_parts}
use Rattle.laws.specs.Truth.{and_both, or-either, clash}
use Rattle.operation.specs.declared.Operation.{Operation}
use Rattle.centering.specs.Letters.{byte_of}
use Rattle.centering.specs.declared.Centering.{Centering}
use Rattle.centering.specs.declared.Centering.TheVariants.{P, A, B, C, I, R, F, H}
use Rattle.hall_axes.specs.declared.Previous.{Previous}
use Rattle.hall_symbol.specs.Bytes.{whitespace, solid, allowed}
use Rattle.hall_symbol.specs.Runs.{run, Every, Stops, every-run, run-all, run_at, run-below}
use Rattle.hall_symbol.specs.Cut.{Cut, FirstToken, blank, token, first-token, solid-not-whitespace, cut-blank, cut-firstword, cut-length, token-stops}
use Rattle.hall_symbol.specs.Reader.{Reading, symbol, refusal, read_symbol}
use Rattle.hall_symbol.specs.Spelling.{lattice_spelling, Fit, Begins, lattice, rotation, Spells, FirstForbidden, LatticeWrong, Refuses, Says}
use Rattle.hall_symbol.specs.Lattice.{lattice_token}
use Rattle.hall_symbol.specs.Parts.{lattice-read}
use Rattle.hall_symbol.specs.Agreement.{says-read, read-says}
use Rattle.hall_symbol.specs.declared.refusal.Refusal.{Refusal}
use Rattle.hall_symbol.specs.declared.refusal.Refusal.TheVariants.{TooLong, ForbiddenByte, NoToken, Lattice, Token, Shift, NoRotation, TooMany}
use Rattle.layer_group.specs.Capitals.{is_small, ends_here, letter_here, marked, capital, from_token, capitalised}
use Rattle.layer_group.specs.Copying.{capitalised-blank, capitalised-none}
use Rattle.layer_group.specs.Answers.{small_of}
use Rattle.layer_group.specs.Slots.{capitalised-length}

-- ---- the first token
-- The letters of layers.
abbrev pub OfLayer : Centering → Type 0
OfLayer c = (c ≡ P) ⊎ (c ≡ C)

-- The small letter, with the byte 45, `-`, before it where the inversion is there.
abbrev pub small_spelling : Bool → Centering → List ℕ
small_spelling true c = 45 ∷ small_of c ∷ []
small_spelling false c = small_of c ∷ []

-- The token is such a letter.
abbrev pub SmallToken : List ℕ → Type 0
SmallToken t = (inverted : Bool) × (c : Centering) × OfLayer c × (t ≡ small_spelling inverted c)

-- The text's first token is a small letter, and `plain` is the text with the capital in its place.
pub record Capital (text plain : List ℕ) : Type 0 where
  pub w : List ℕ
  pub after : List ℕ
  pub inverted : Bool
  pub letter : Centering
  pub layer : OfLayer letter
  pub fit : Fit text
  pub cut : Cut text w (small_spelling inverted letter) after
  pub stands : plain ≡ w ++ (lattice_spelling inverted letter ++ after)

-- 4: the first token is no small letter with or without `-`.
pub record LayerWrong (text : List ℕ) (place : ℕ) : Type 0 where
  pub w : List ℕ
  pub t : List ℕ
  pub after : List ℕ
  pub fit : Fit text
  pub cut : Cut text w t after
  pub stands : place ≡ length w
  pub wrong : ¬ SmallToken t

-- The text spells the layer symbol with the lattice of c and the generators gs.
abbrev pub LayerSpells : List ℕ → Centering → List Operation → Type 0
LayerSpells text c gs = (plain : List ℕ) × Capital text plain × Spells plain c gs

-- What each refusal says of the text. Behind the letter it is that of the text with the capital.
abbrev pub LayerRefuses : List ℕ → Refusal → Type 0
LayerRefuses text TooLong = 80 < length text
LayerRefuses text (ForbiddenByte p) = FirstForbidden text p
LayerRefuses text NoToken = Fit text × Every whitespace text
LayerRefuses text (Lattice p) = LayerWrong text p
LayerRefuses text (Token p r) = (plain : List ℕ) × Capital text plain × Refuses plain (Token p r)
LayerRefuses text (Shift p) = (plain : List ℕ) × Capital text plain × Refuses plain (Shift p)
LayerRefuses text (NoRotation p) = (plain : List ℕ) × Capital text plain × Refuses plain (NoRotation p)
LayerRefuses text (TooMany p) = (plain : List ℕ) × Capital text plain × Refuses plain (TooMany p)

abbrev pub LayerSays : List ℕ → Reading → Type 0
LayerSays text (symbol c gs) = LayerSpells text c gs
LayerSays text (refusal r) = LayerRefuses text r

-- ---- bytes

small-letter : (b : ℕ) → is_small b ≡ true → (c : Centering) × OfLayer c × (b ≡ small_of c)
unfolding is_small
small-letter b e = go (or-either (eqb b 112) (eqb b 99) e)
  where
    go : (eqb b 112 ≡ true) ⊎ (eqb b 99 ≡ true) → (c : Centering) × OfLayer c × (b ≡ small_of c)
    go (inl p) = (P, inl refl, eqb-true b 112 p)
    go (inr p) = (C, inr refl, eqb-true b 99 p)

small-solid : (b : ℕ) → is_small b ≡ true → whitespace b ≡ false
unfolding is_small whitespace
small-solid b e = go (or-either (eqb b 112) (eqb b 99) e)
  where
    go : (eqb b 112 ≡ true) ⊎ (eqb b 99 ≡ true) → whitespace b ≡ false
    go (inl p) = ap whitespace (eqb-true b 112 p)
    go (inr p) = ap whitespace (eqb-true b 99 p)

small-allowed : (b : ℕ) → is_small b ≡ true → allowed (b - 32) ≡ allowed b
unfolding is_small allowed
small-allowed b e = go (or-either (eqb b 112) (eqb b 99) e)
  where
    go : (eqb b 112 ≡ true) ⊎ (eqb b 99 ≡ true) → allowed (b - 32) ≡ allowed b
    go (inl p) = let q = eqb-true b 112 p in ap (λ b. allowed (b - 32)) q ∙ sym (ap allowed q)
    go (inr p) = let q = eqb-true b 99 p in ap (λ b. allowed (b - 32)) q ∙ sym (ap allowed q)

marked-allowed : (b : ℕ) → allowed (marked b) ≡ allowed b
unfolding marked allowed
marked-allowed b = go (allowed b) refl
  where
    go : (x : Bool) → allowed b ≡ x → allowed (cond x 63 b) ≡ allowed b
    go true e = sym e
    go false e = refl

-- The letter here is small, and its token ends.
letter-parts : (b : ℕ) (s : List ℕ) → letter_here (b ∷ s) ≡ true → (is_small b ≡ true) × (ends_here s ≡ true)
letter-parts b s e = and_both (is_small b) (ends_here s) e

-- ---- the copy has an allowed byte where the text has one
token-allowed : (s : List ℕ) (i : ℕ) → allowed (get_or (from_token s) i 0) ≡ allowed (get_or s i 0)
unfolding from_token
token-allowed [] i = refl
token-allowed (b ∷ s) i = by-letter (letter_here (b ∷ s)) refl (eqb b 45 && letter_here s) refl i
  where
    capital-allowed : (s : List ℕ) → letter_here s ≡ true → (i : ℕ) → allowed (get_or (capital s) i 0) ≡ allowed (get_or s i 0)
    capital-allowed [] e i = refl
    capital-allowed (b ∷ s) e zero = small-allowed b (letter-parts b s e).0
    capital-allowed (b ∷ s) e (suc i) = refl

    by-letter : (x : Bool) → letter_here (b ∷ s) ≡ x → (y : Bool) → eqb b 45 && letter_here s ≡ y → (i : ℕ)
        → allowed (get_or (cond x (capital (b ∷ s)) (cond y (b ∷ capital s) (marked b ∷ s))) i 0) ≡ allowed (get_or (b ∷ s) i 0)
    by-letter true e y f i = capital-allowed (b ∷ s) e i
    by-letter false e true f zero = refl
    by-letter false e true f (suc i) = capital-allowed s (and_both (eqb b 45) (letter_here s) f).1 i
    by-letter false e false f zero = marked-allowed b
    by-letter false e false f (suc i) = refl

pub same-allowed : (text : List ℕ) (i : ℕ) → allowed (get_or (capitalised text) i 0) ≡ allowed (get_or text i 0)
unfolding capitalised
same-allowed [] i = refl
same-allowed (b ∷ s) i = go (whitespace b) i (λ j. same-allowed s j)
  where
    go : (x : Bool) (i : ℕ) → ((j : ℕ) → allowed (get_or (capitalised s) j 0) ≡ allowed (get_or s j 0))
        → allowed (get_or (cond x (b ∷ capitalised s) (from_token (b ∷ s))) i 0) ≡ allowed (get_or (b ∷ s) i 0)
    go true zero later = refl
    go true (suc i) later = later i
    go false i later = token-allowed (b ∷ s) i

-- Every byte passes exactly if each place's does.
every-at : (f : ℕ → Bool) (s : List ℕ) → Every f s → (i : ℕ) → i < length s → f (get_or s i 0) ≡ true
every-at f [] h i k = absurd (omega arith)
every-at f (b ∷ s) h zero k = h.0
every-at f (b ∷ s) h (suc i) k = every-at f s h.1 i (omega arith)

at_every : (f : ℕ → Bool) (s : List ℕ) → ((i : ℕ) → i < length s → f (get_or s i 0) ≡ true) → Every f s
at_every f [] h = tt
at_every f (b ∷ s) h = (h 0 (omega arith), at_every f s (λ i k. h (suc i) (omega arith)))

fit-copy : (text : List ℕ) → Fit text → Fit (capitalised text)
fit-copy text (short, every) = (
  rw (capitalised-length text) short,
  at_every allowed (capitalised text) (λ i k. same-allowed text i ∙ every-at allowed text every i (rw (capitalised-length text) at k)),
)

forbidden-copy : (text : List ℕ) (p : ℕ) → FirstForbidden text p → FirstForbidden (capitalised text) p
forbidden-copy text p h =
    record {
      short = rw (capitalised-length text) h.short;
      within = rw (capitalised-length text) h.within;
      forbidden = same-allowed text p ∙ h.forbidden;
      first = λ i k. same-allowed text i ∙ h.first i k;
    }

-- ---- the copy of a text with a first token
module _ (text w t after : List ℕ) (cut : Cut text w t after) where
  copy-token : Stops whitespace (t ++ after) → capitalised text ≡ w ++ from_token (t ++ after)
  copy-token k = ap capitalised cut.text ∙ capitalised-blank w (t ++ after) cut.blank k

-- What follows a token ends it.
ends-after : (after : List ℕ) → Stops solid after → ends_here after ≡ true
unfolding solid
ends-after [] h = refl
ends-after (b ∷ s) h = not-false (whitespace b) h

small-here : (c : Centering) → OfLayer c → is_small (small_of c) ≡ true
unfolding is_small
small-here c (inl e) = rw e refl
small-here c (inr e) = rw e refl

back-capital : (c : Centering) → OfLayer c → small_of c - 32 ≡ byte_of c
back-capital c (inl e) = rw e refl
back-capital c (inr e) = rw e refl

no_minus : (c : Centering) → OfLayer c → eqb (small_of c) 45 ≡ false
no_minus c (inl e) = rw e refl
no_minus c (inr e) = rw e refl

-- A small letter becomes its capital.
token-capital : (inverted : Bool) (c : Centering) (after : List ℕ) → OfLayer c → Stops solid after → from_token (small_spelling inverted c ++ after)
    ≡ lattice_spelling inverted c ++ after
unfolding from_token is_small
token-capital false c after l h = rw (small-here c l, ends-after after h, back-capital c l)
token-capital true c after l h = rw (small-here c l, ends-after after h, back-capital c l)

pub copy-plain : (text plain : List ℕ) → Capital text plain → capitalised text ≡ plain
copy-plain text plain K =
    copy-token text K.w (small_spelling K.inverted K.letter) K.after K.cut
    (token-stops (small_spelling K.inverted K.letter) K.after K.cut.some K.cut.whole)
    ∙ ap (λ l. K.w ++ l) (token-capital K.inverted K.letter K.after K.layer K.cut.apart)
    ∙ sym K.stands

-- No letter stands at a token that is none: alone,
no-letter : (b : ℕ) (t after : List ℕ) → Every solid (b ∷ t) → Stops solid after → ¬ SmallToken (b ∷ t) → letter_here (b ∷ t ++ after) ≡ false
no-letter b t after e k n = go (letter_here (b ∷ t ++ after)) refl
  where
    found : (t : List ℕ) → Every solid (b ∷ t) → ¬ SmallToken (b ∷ t) → letter_here (b ∷ t ++ after) ≡ true → ⊥
    found [] e n h = let (c, l, p) = small-letter b (letter-parts b after h).0 in n (false, c, l, ap (λ b. b ∷ []) p)
    found (d ∷ t) e n h = clash (whitespace d) (letter-parts b (d ∷ t ++ after) h).1 (solid-not-whitespace d e.1.0)

    go : (x : Bool) → letter_here (b ∷ t ++ after) ≡ x → letter_here (b ∷ t ++ after) ≡ false
    go true h = absurd (found t e n h)
    go false h = h

-- or behind `-`.
no-inverted : (b : ℕ) (t after : List ℕ) → Every solid (b ∷ t) → Stops solid after → ¬ SmallToken (b ∷ t) → eqb b 45 && letter_here (t ++ after) ≡ false
unfolding solid
no-inverted b t after e k n = go (eqb b 45 && letter_here (t ++ after)) refl
  where
    behind : (t after : List ℕ) → Every solid t → Stops solid after → b ≡ 45 → ¬ SmallToken (b ∷ t) → letter_here (t ++ after) ≡ true → ⊥
    behind [] [] e k m n h = clash false h refl
    behind [] (d ∷ s) e k m n h = clash (whitespace d) (not-false (whitespace d) k) (small-solid d (letter-parts d s h).0)
    behind (d ∷ []) after e k m n h = let (c, l, p) = small-letter d (letter-parts d after h).0 in n
        (true, c, l, ap (λ b. b ∷ d ∷ []) m ∙ ap (λ d. 45 ∷ d ∷ []) p)
    behind (d ∷ f ∷ t) after e k m n h = clash (whitespace f) (letter-parts d (f ∷ t ++ after) h).1 (solid-not-whitespace f e.1.0)

    go : (x : Bool) → eqb b 45 && letter_here (t ++ after) ≡ x → eqb b 45 && letter_here (t ++ after) ≡ false
    go true h = let (p, q) = and_both (eqb b 45) (letter_here (t ++ after)) h in absurd (behind t after e.1 k (eqb-true b 45 p) n q)
    go false h = h

-- `?` begins no letter.
no-mark : (t : List ℕ) (inverted : Bool) (c : Centering) → 63 ∷ t ≡ lattice_spelling inverted c → ⊥
no-mark t true c e = let y : ◌≡◌ {A = ℕ} 63 45 = ap (λ l. get_or l 0 0) e in omega arith
no-mark t false c e = let y : ◌≡◌ {A = ℕ} 63 (byte_of c) = ap (λ l. get_or l 0 0) e in other c y
  where
    other : (c : Centering) → ◌≡◌ {A = ℕ} 63 (byte_of c) → ⊥
    other P y = omega arith
    other A y = omega arith
    other B y = omega arith
    other C y = omega arith
    other I y = omega arith
    other R y = omega arith
    other F y = omega arith
    other H y = omega arith

-- Any other token begins with `?` in the copy.
token-other : (b : ℕ) (t after : List ℕ) → Every solid (b ∷ t) → Stops solid after → ¬ SmallToken (b ∷ t) → allowed b ≡ true → from_token (b ∷ t ++ after) ≡ 63 ∷ t ++ after
unfolding from_token marked
token-other b t after e k n h = rw (no-letter b t after e k n, no-inverted b t after e k n, h)

-- Any other first token is refused at its place.
wrong-copy : (text : List ℕ) (p : ℕ) → LayerWrong text p → LatticeWrong (capitalised text) p
unfolding solid whitespace marked
wrong-copy text p W = go W.t W.cut W.wrong
  where
    every-append-right : (f : ℕ → Bool) (w s : List ℕ) → Every f (w ++ s) → Every f s
    every-append-right f [] s h = h
    every-append-right f (b ∷ w) s h = every-append-right f w s h.1

    go : (t : List ℕ) → Cut text W.w t W.after → ¬ SmallToken t → LatticeWrong (capitalised text) p
    go [] cut n = absurd (omega (arith, cut.some))
    go (b ∷ t) cut n =
        let here : allowed b ≡ true = (every-append-right allowed W.w (b ∷ t ++ W.after) (subst (Every allowed) cut.text W.fit.1)).0 in
        let copy : from_token (b ∷ t ++ W.after) ≡ 63 ∷ t ++ W.after = token-other b t W.after cut.whole cut.apart n here in
        record {
          w = W.w;
          t = 63 ∷ t;
          after = W.after;
          fit = fit-copy text W.fit;
          cut =
              record {
                text = copy-token text W.w (b ∷ t) W.after cut (token-stops (b ∷ t) W.after cut.some cut.whole) ∙ ap (λ l. W.w ++ l) copy;
                blank = cut.blank;
                some = cut.some;
                whole = (refl, cut.whole.1);
                apart = cut.apart;
              };
          stands = W.stands;
          wrong = no-mark t;
        }

-- ---- the reader on the copy
-- What is said of the text is what the plain reader says of the copy,
pub layer-read : (text : List ℕ) (r : Reading) → LayerSays text r → read_symbol (capitalised text) ≡ r
layer-read text (symbol c gs) (plain, K, s) = ap read_symbol (copy-plain text plain K) ∙ says-read plain (symbol c gs) s
layer-read text (refusal TooLong) h = says-read (capitalised text) (refusal TooLong) (rw (capitalised-length text) h)
layer-read text (refusal (ForbiddenByte p)) h = says-read (capitalised text) (refusal (ForbiddenByte p)) (forbidden-copy text p h)
layer-read text (refusal NoToken) (fit, h) = ap read_symbol (capitalised-none text h) ∙ says-read text (refusal NoToken) (fit, h)
layer-read text (refusal (Lattice p)) h = says-read (capitalised text) (refusal (Lattice p)) (wrong-copy text p h)
layer-read text (refusal (Token p r)) (plain, K, h) = ap read_symbol (copy-plain text plain K) ∙ says-read plain (refusal (Token p r)) h
layer-read text (refusal (Shift p)) (plain, K, h) = ap read_symbol (copy-plain text plain K) ∙ says-read plain (refusal (Shift p)) h
layer-read text (refusal (NoRotation p)) (plain, K, h) = ap read_symbol (copy-plain text plain K) ∙ says-read plain (refusal (NoRotation p)) h
layer-read text (refusal (TooMany p)) (plain, K, h) = ap read_symbol (copy-plain text plain K) ∙ says-read plain (refusal (TooMany p)) h

-- A token is a small letter or none.
small-or-not : (t : List ℕ) → SmallToken t ⊎ (¬ SmallToken t)
small-or-not [] = inr (λ (i, c, l, e). none i c e)
  where
    none : (i : Bool) (c : Centering) → [] ≡ small_spelling i c → ⊥
    none true c e = let y : ◌≡◌ {A = ℕ} 0 2 = ap length e in omega arith
    none false c e = let y : ◌≡◌ {A = ℕ} 0 1 = ap length e in omega arith
small-or-not (b ∷ []) = go (is_small b) refl
  where
    other : (i : Bool) (c : Centering) → OfLayer c → is_small b ≡ false → b ∷ [] ≡ small_spelling i c → ⊥
    other true c l h e = let y : ◌≡◌ {A = ℕ} 1 2 = ap length e in omega arith
    other false c l h e = clash (is_small b) (ap is_small (ap (λ l. get_or l 0 0) e) ∙ small-here c l) h

    go : (x : Bool) → is_small b ≡ x → SmallToken (b ∷ []) ⊎ (¬ SmallToken (b ∷ []))
    go true h = let (c, l, p) = small-letter b h in inl (false, c, l, ap (λ b. b ∷ []) p)
    go false h = inr (λ (i, c, l, e). other i c l h e)
small-or-not (b ∷ d ∷ []) = go (eqb b 45 && is_small d) refl
  where
    met : (i : Bool) (c : Centering) → OfLayer c → b ∷ d ∷ [] ≡ small_spelling i c → eqb b 45 && is_small d ≡ true
    met true c l e =
        let p : b ≡ 45 = ap (λ l. get_or l 0 0) e in
        let q : is_small d ≡ true = ap is_small (ap (λ l. get_or l 1 0) e) ∙ small-here c l in
        rw (eq-eqb b 45 p, q)
    met false c l e = let y : ◌≡◌ {A = ℕ} 2 1 = ap length e in absurd (omega arith)

    go : (x : Bool) → eqb b 45 && is_small d ≡ x → SmallToken (b ∷ d ∷ []) ⊎ (¬ SmallToken (b ∷ d ∷ []))
    go true h =
        let (p, q) = and_both (eqb b 45) (is_small d) h in
        let (c, l, r) = small-letter d q in
        inl (true, c, l, ap (λ b. b ∷ d ∷ []) (eqb-true b 45 p) ∙ ap (λ d. 45 ∷ d ∷ []) r)
    go false h = inr (λ (i, c, l, e). clash (eqb b 45 && is_small d) (met i c l e) h)
small-or-not (b ∷ d ∷ f ∷ t) = inr (λ (i, c, l, e). none i c e)
  where
    none : (i : Bool) (c : Centering) → b ∷ d ∷ f ∷ t ≡ small_spelling i c → ⊥
    none true c e = let y : suc (suc (suc (length t))) ≡ 2 = ap length e in omega arith
    none false c e = let y : suc (suc (suc (length t))) ≡ 1 = ap length e in omega arith

-- ---- behind a small letter
capital-solid : (inverted : Bool) (c : Centering) → OfLayer c → Every solid (lattice_spelling inverted c)
unfolding solid whitespace
capital-solid true c (inl e) = rw e (refl, (refl, tt))
capital-solid true c (inr e) = rw e (refl, (refl, tt))
capital-solid false c (inl e) = rw e (refl, tt)
capital-solid false c (inr e) = rw e (refl, tt)

capital-some : (inverted : Bool) (c : Centering) → 0 < length (lattice_spelling inverted c)
capital-some true c = omega arith
capital-some false c = omega arith

-- The text with the capital has it as its first token,
plain-cut : (text plain : List ℕ) (K : Capital text plain) → Cut plain K.w (lattice_spelling K.inverted K.letter) K.after
plain-cut text plain K =
    record {
      text = K.stands;
      blank = K.cut.blank;
      some = capital-some K.inverted K.letter;
      whole = capital-solid K.inverted K.letter K.layer;
      apart = K.cut.apart;
    }

module _ (text plain : List ℕ) (K : Capital text plain) where
  plain-fit : Fit plain
  plain-fit = subst Fit (copy-plain text plain K) (fit-copy text K.fit)

  -- so that what is said of it is said of the layer symbol.
  behind-letter : (r : Reading) → Says plain r → LayerSays text r
  behind-letter (symbol c gs) s = (plain, K, s)
  behind-letter (refusal TooLong) h = absurd (omega (arith, plain-fit.0, h))
  behind-letter (refusal (ForbiddenByte p)) h = absurd (clash (allowed (get_or plain p 0)) (every-at allowed plain plain-fit.1 p h.within) h.forbidden)
  behind-letter (refusal NoToken) (fit, h) =
      absurd (clash (ltb (run whitespace plain) (length plain)) (lt-ltb (run whitespace plain) (length plain)
      (omega (
        arith,
        cut-blank plain K.w _ K.after (plain-cut text plain K),
        cut-length plain K.w _ K.after (plain-cut text plain K),
        capital-some K.inverted K.letter,
      ))) (le-ltb (run whitespace plain) (length plain) (omega (arith, every-run whitespace plain h))))
  behind-letter (refusal (Lattice p)) W =
      absurd (W.wrong K.inverted K.letter (sym (cut-firstword plain W.w W.t W.after W.cut) ∙ cut-firstword plain K.w _ K.after (plain-cut text plain K)))
  behind-letter (refusal (Token p r)) h = (plain, K, h)
  behind-letter (refusal (Shift p)) h = (plain, K, h)
  behind-letter (refusal (NoRotation p)) h = (plain, K, h)
  behind-letter (refusal (TooMany p)) h = (plain, K, h)

-- ---- every text says one thing
module _ (text : List ℕ) where
  settled : (r : Reading) → LayerSays text r → LayerSays text (read_symbol (capitalised text))
  settled r h = subst (LayerSays text) (sym (layer-read text r h)) h

  by-small : (w t after : List ℕ) → Fit text → Cut text w t after → SmallToken t ⊎ (¬ SmallToken t) → LayerSays text (read_symbol (capitalised text))
  by-small w t after fit cut (inl (inverted, c, l, e)) =
      let plain = w ++ (lattice_spelling inverted c ++ after) in
      let K : Capital text plain = record { w = w; after = after; inverted = inverted; letter = c; layer = l; fit = fit; cut = rw e at cut; stands = refl } in
      subst (λ l. LayerSays text (read_symbol l)) (sym (copy-plain text plain K)) (behind-letter text plain K (read_symbol plain) (read-says plain))
  by-small w t after fit cut (inr n) = settled (refusal (Lattice (length w))) (record {
    w = w;
    t = t;
    after = after;
    fit = fit;
    cut = cut;
    stands = refl;
    wrong = n;
  })

  by_token : Fit text → FirstToken text → LayerSays text (read_symbol (capitalised text))
  by_token fit (blank h) = settled (refusal NoToken) (fit, h)
  by_token fit (token w t after cut) = by-small w t after fit cut (small-or-not t)

  by_bytes : length text ≤ 80 → (x : Bool) → ltb (run allowed text) (length text) ≡ x → LayerSays text (read_symbol (capitalised text))
  by_bytes short true e =
      let within = ltb-true (run allowed text) (length text) e in
      settled (refusal (ForbiddenByte (run allowed text))) (record {
        short = short;
        within = within;
        forbidden = run_at allowed text within;
        first = run-below allowed text;
      })
  by_bytes short false e = by_token (short, run-all allowed text (ltb-false (run allowed text) (length text) e)) (first-token text)

  by_length : (x : Bool) → ltb 80 (length text) ≡ x → LayerSays text (read_symbol (capitalised text))
  by_length true e = settled (refusal TooLong) (ltb-true 80 (length text) e)
  by_length false e = by_bytes (ltb-false 80 (length text) e) (ltb (run allowed text) (length text)) refl

  -- and the other way round.
  pub read-layer : LayerSays text (read_symbol (capitalised text))
  read-layer = by_length (ltb 80 (length text)) refl

  -- The plain reader reads the copy as r exactly if the text says r as a layer symbol.
  pub layer-reads : (r : Reading) → (read_symbol (capitalised text) ≡ r) ↔ LayerSays text r
  layer-reads r = ((λ e. subst (LayerSays text) e read-layer), layer-read text r)

-- ---- the letter
-- A text that begins well begins with its letter.
first-letter : {text : List ℕ} {c : Centering} {found : List Operation} {previous : Previous} {p : ℕ} {s : List ℕ} → Begins text c found previous p s
    → (w : List ℕ) × (inverted : Bool) × (after : List ℕ) × Cut text w (lattice_spelling inverted c) after
first-letter (lattice {w} {after} inverted c fit cut) = (w, inverted, after, cut)
first-letter (rotation o f a b cut stops few says) = first-letter b

-- The lattice of a layer symbol is that of its letter: P or C.
pub layer-letter : (text : List ℕ) (c : Centering) (gs : List Operation) → LayerSpells text c gs → OfLayer c
layer-letter text c gs (plain, K, s) =
    let (w, inverted, after, cut) = first-letter s.begins in
    let same : lattice_spelling K.inverted K.letter ≡ lattice_spelling inverted c = sym (cut-firstword plain K.w _ K.after (plain-cut text plain K))
    ∙ cut-firstword plain w _ after cut in
    let read : ◌≡◌ {A = Option (Bool × Centering)} (Some (K.inverted, K.letter)) (Some (inverted, c)) =
    sym (lattice-read K.inverted K.letter) ∙ ap lattice_token same ∙ lattice-read inverted c in
    let letter : K.letter ≡ c = (some_pair_parts K.inverted inverted K.letter c read).1 in
    subst OfLayer letter K.layer
