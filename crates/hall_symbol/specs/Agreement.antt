-- The reader and the spelling rules are one: a text is read as a symbol exactly if it spells it, and refused exactly as the rules say. Forwards, what
-- begins well is followed token by token; backwards, the reader's own tests build the spelling.
use Rattle.std.proofs.Math.Path.{◌≡◌, refl, ap}
use Rattle.std.proofs.Common.{sym, ◌∙◌, subst, arith}
use Rattle.std.specs.Prelude.{◌↔◌, Bool, cond, ℕ, zero, suc, ◌+◌, ◌<◌, ◌≤◌, leb, ltb, get_or, Option, Some, None, Err, Ok, Result}
use Rattle.std.proofs.Math.Bool.{true, false}
use mathlib.Core.List.{List, [], ◌∷◌, ◌++◌, map}
use Rattle.std.proofs.Math.Dec.{eqb}
use Rattle.std.proofs.Math.IntN.{pos}
use borrow.Author.Tests.{eqb-true, eqb-false, leb-true, leb-false, ltb-true, ltb-false, eq-eqb, ne_eqb, lt-ltb, le-ltb}
use Rattle.std.proofs.Math.ListN.{length}
use Rattle.laws.specs.Matrix.{Vector}
use Rattle.laws.specs.Residue.{residue}
use Rattle.operation.specs.declared.Translation.{Translation}
use Rattle.operation.specs.declared.Operation.{Operation}
use Rattle.centering.specs.declared.Centering.{Centering}
use Rattle.hall_token.specs.Reader.{operation_token}
use Rattle.hall_token.specs.Answers.{answers-exact}
use Rattle.hall_axes.specs.declared.Fold.{Fold}
use Rattle.hall_axes.specs.declared.Axis.{Axis}
use Rattle.hall_axes.specs.declared.Previous.{Previous}
use Rattle.hall_token.specs.declared.refusal.Refusal as token-refusal
use Rattle.hall_symbol.specs.Bytes.{whitespace, allowed, opening}
use Rattle.hall_symbol.specs.Runs.{run, Every, Stops, run-all, run_at, run-below, first_run, every-run}
use Rattle.hall_symbol.specs.Tokens.{Token, token_at, tokens_from, tokens}
use Rattle.hall_symbol.specs.Cut.{Cut, FirstToken, blank, token, first-token, cut_word, tokens-cut, tokens_none, cut-length}
use Rattle.hall_symbol.specs.Lattice.{lattice_token}
use Rattle.hall_symbol.specs.Shift.{shift_of, no_shift}
use Rattle.hall_symbol.specs.Generators.{leading, shift_by, shifted}
use Rattle.hall_symbol.specs.Reader.{Reading, symbol, refusal, no_previous, next_previous, on_operation, on_shift, at_shift, at_end, operations, on_lattice, read_tokens, read_symbol, step-shift, step-ninth, step-rotation}
use Rattle.hall_symbol.specs.Spelling.{lattice_spelling, ShiftSpelled, Opens, Fit, Begins, lattice, rotation, Ending, plain, moved, Spells, Next, TokenRefused, RotationMissing, ends, opens, Refuses, Says}
use Rattle.hall_symbol.specs.Parts.{lattice-read, lattice-spelled, shift-read, shift-spelled}
use Rattle.hall_symbol.specs.declared.refusal.Refusal.{Refusal}
use Rattle.hall_symbol.specs.declared.refusal.Refusal.TheVariants.{TooLong, ForbiddenByte, NoToken, Lattice as BadLattice, Token as BadToken, Shift as BadShift, NoRotation, TooMany}
use Rattle.hall_token.specs.declared.refusal.Refusal.{Refusal as RefusalOf}

-- The byte that a token starts with.
stops_first : (t after : List ℕ) → 0 < length t → Stops opening t → opening (get_or (t ++ after) 0 0) ≡ false
stops_first [] after h k = absurd (omega arith)
stops_first (b ∷ t) after h k = k

-- The same where it starts with `(`.
opens-first : (t after : List ℕ) → Opens t → opening (get_or (t ++ after) 0 0) ≡ true
opens-first [] after h = absurd h
opens-first (b ∷ t) after h = h

-- ---- forwards
-- What begins well is read up to there.
pub begins-read : (text : List ℕ) {c : Centering} {found : List Operation} {previous : Previous} {p : ℕ} {s : List ℕ} → Begins text c found previous p s
    → read_symbol text ≡ operations (length text) c found previous (tokens_from p true s)
unfolding read_symbol
begins-read text (lattice {w} {after} inverted c fit cut) =
    let t = lattice_spelling inverted c in
    let all = every-run allowed text fit.1 in
    let e : 0 + length w + length t ≡ length w + length t = omega arith in
    rw (
      le-ltb 80 (length text) fit.0,
      le-ltb (run allowed text) (length text) (omega arith),
      tokens-cut 0 text w t after cut,
      cut_word text w t after cut,
      lattice-read inverted c,
      e,
    )
begins-read text {c} (rotation {found = found} {previous} {p} {s} {w} {t} {after} o f a begins cut start few says) =
    begins-read text begins
    ∙ ap (λ (ts : List Token). operations (length text) c found previous ts) (tokens-cut p s w t after cut)
    ∙ step-rotation (length text) c found previous (token_at (p + length w) (t ++ after)) (tokens_from
    (p + length w + length t) true after) (stops_first t after cut.some start) few
    ∙ rw (cut_word s w t after cut, (answers-exact t previous (Ok (o, f, a))).1 says)

-- Up to the next token the text is read.
next-read : (text : List ℕ) (previous : Previous) (place : ℕ) (t after : List ℕ) (n : Next text previous place t after)
    → read_symbol text ≡ operations (length text) n.c n.found previous (token_at place (t ++ after) ∷ tokens_from (place + length t) true after)
next-read text previous place t after n =
    begins-read text n.begins
    ∙ ap (λ (ts : List Token). operations (length text) n.c n.found previous ts) (tokens-cut n.p n.s n.w t after n.cut)
    ∙ rw (← n.stands)

-- At the end, with N tokens and without.
end-some : (n : ℕ) (c : Centering) (found : List Operation) (previous : Previous) → 0 < previous.count
    → operations n c found previous [] ≡ symbol c (map (shifted no_shift) found)
unfolding operations at_end
end-some n c found previous h = rw (ne_eqb previous.count 0 (omega arith))

-- Without an N token.
end_none : (n : ℕ) (c : Centering) (found : List Operation) (previous : Previous) → previous.count ≡ 0
    → operations n c found previous [] ≡ refusal (NoRotation n)
unfolding operations at_end
end_none n c found previous h = rw (eq-eqb previous.count 0 h)

-- At a shift, with N tokens and without.
shift-some : (c : Centering) (found : List Operation) (count : ℕ) (t : Token) → 0 < count
    → at_shift c found count t ≡ on_shift t.place c found (shift_of t.rest)
unfolding at_shift
shift-some c found count t h = rw (ne_eqb count 0 (omega arith))

-- Without an N token.
shift_none : (c : Centering) (found : List Operation) (count : ℕ) (t : Token) → count ≡ 0 → at_shift c found count t ≡ refusal (NoRotation t.place)
unfolding at_shift
shift_none c found count t h = rw (eq-eqb count 0 h)

-- A shift starts with `(`.
bracket-opens : (s : List ℕ) (v : Vector) → ShiftSpelled s v → opening (get_or s 0 0) ≡ true
unfolding opening
bracket-opens s v h = rw h.brackets

-- So does what a token begins.
pub opens-append : (t after : List ℕ) → Opens t → Opens (t ++ after)
opens-append [] after h = absurd h
opens-append (b ∷ t) after h = h

-- What a text spells is what it is read as.
spells-read : (text : List ℕ) (c : Centering) (gs : List Operation) → Spells text c gs → read_symbol text ≡ symbol c gs
unfolding residue
spells-read text c gs h = begins-read text h.begins ∙ go h.v h.ending h.generators
  where
    n : ℕ
    n = length text

    go : (v : Vector) → Ending h.s v → gs ≡ map (shifted (shift_by v)) h.found
        → operations n c h.found h.previous (tokens_from h.p true h.s) ≡ symbol c gs
    go v (plain e) g = rw (tokens_none h.p h.s e, g) (end-some n c h.found h.previous h.some)
    go v' (moved {w} {t} {after} v cut spelled) g =
        rw (tokens-cut h.p h.s w t after cut, g)
        (step-shift n c h.found h.previous _ _ (bracket-opens (t ++ after) v spelled)
        ∙ shift-some c h.found h.previous.count _ h.some
        ∙ rw (shift-read (t ++ after) v spelled))

-- A refused N token gives the reading its refusal.
token-refused-read : (text : List ℕ) (p : ℕ) (r : token-refusal.Refusal) → TokenRefused text p r → read_symbol text ≡ refusal (BadToken p r)
token-refused-read text p r h =
    let m = h.next in
    next-read text h.previous h.start h.t h.after m
    ∙ step-rotation (length text) m.c m.found h.previous _ _ (stops_first h.t h.after m.cut.some h.rotation) h.few
    ∙ rw (cut_word m.s m.w h.t h.after m.cut, (answers-exact h.t h.previous (Err (h.offset, r))).1 h.says, h.stands)

-- A token that spells no lattice is read as none.
no-lattice : (t : List ℕ) → ((inverted : Bool) (c : Centering) → t ≡ lattice_spelling inverted c → ⊥) → lattice_token t ≡ None
no-lattice t h = go (lattice_token t) refl
  where
    go : (l : Option (Bool × Centering)) → lattice_token t ≡ l → lattice_token t ≡ None
    go (Some (inverted, c)) e = absurd (h inverted c (lattice-spelled t inverted c e))
    go (None) e = e

-- A text that spells no shift is read as none.
no-shift-spelled : (s : List ℕ) → Opens s → ((v : Vector) → ShiftSpelled s v → ⊥) → shift_of s ≡ None
no-shift-spelled s o h = go (shift_of s) refl
  where
    go : (r : Option Translation) → shift_of s ≡ r → shift_of s ≡ None
    go (Some t) e = let (v, spelled, same) = shift-spelled s t o e in absurd (h v spelled)
    go None e = e

-- A text that is fit is read token by token.
fit-read : (text : List ℕ) → Fit text → read_symbol text ≡ read_tokens (length text) (tokens text)
unfolding read_symbol
fit-read text fit =
    let all = every-run allowed text fit.1 in
    rw (le-ltb 80 (length text) fit.0, le-ltb (run allowed text) (length text) (omega arith))

-- What the rules refuse is refused by the reader.
refuses-read : (text : List ℕ) (r : Refusal) → Refuses text r → read_symbol text ≡ refusal r
unfolding read_symbol
refuses-read text TooLong h = rw (lt-ltb 80 (length text) h)
refuses-read text (ForbiddenByte p) h =
    let e = first_run allowed text p h.within h.forbidden h.first in
    rw (le-ltb 80 (length text) h.short, e, lt-ltb p (length text) h.within)
refuses-read text NoToken h = fit-read text h.0 ∙ rw (tokens_none 0 text h.1)
refuses-read text (BadLattice p) h =
    fit-read text h.fit ∙ rw (
      tokens-cut 0 text h.w h.t h.after h.cut,
      cut_word text h.w h.t h.after h.cut,
      no-lattice h.t h.wrong,
      h.stands,
    ) (ap (λ (q : ℕ). refusal (BadLattice q)) (omega arith))
refuses-read text (BadToken p r) h = token-refused-read text p r h
refuses-read text (BadShift p) h =
    let m = h.next in
    next-read text h.previous p h.t h.after m
    ∙ step-shift (length text) m.c m.found h.previous _ _ (opens-first h.t h.after h.opens)
    ∙ shift-some m.c m.found h.previous.count _ h.some
    ∙ rw (no-shift-spelled (h.t ++ h.after) (opens-append h.t h.after h.opens) h.malformed)
refuses-read text (NoRotation p) h = missing p h
  where
    missing : (q : ℕ) → RotationMissing text q → read_symbol text ≡ refusal (NoRotation q)
    missing q (ends {c} {found} {previous} {p} {s} begins none e) =
        begins-read text begins ∙ rw (tokens_none p s e) (end_none (length text) c found previous none)
    missing q (opens {previous} {place} {t} {after} m none o) =
        next-read text previous place t after m
        ∙ step-shift (length text) m.c m.found previous _ _ (opens-first t after o)
        ∙ shift_none m.c m.found previous.count _ none
refuses-read text (TooMany p) h =
    let m = h.next in
    next-read text h.previous p h.t h.after m
    ∙ step-ninth (length text) m.c m.found h.previous _ _ (stops_first h.t h.after m.cut.some h.rotation) (omega (arith, h.eight))

-- What the rules say is what is read.
pub says-read : (text : List ℕ) (r : Reading) → Says text r → read_symbol text ≡ r
says-read text (symbol c gs) h = spells-read text c gs h
says-read text (refusal r) h = refuses-read text r h

-- ---- backwards
-- At most eight N tokens begin a text well.
begins-few : (text : List ℕ) {c : Centering} {found : List Operation} {previous : Previous} {p : ℕ} {s : List ℕ} → Begins text c found previous p s
    → previous.count ≤ 8
begins-few text (lattice inverted c fit cut) = omega arith
begins-few text (rotation o f a begins cut start few says) = omega arith

-- What the first byte says of the token.
first_stops : (t after : List ℕ) → opening (get_or (t ++ after) 0 0) ≡ false → Stops opening t
first_stops [] after h = tt
first_stops (b ∷ t) after h = h

-- The same where it is `(`.
first-opens : (t after : List ℕ) → 0 < length t → opening (get_or (t ++ after) 0 0) ≡ true → Opens t
first-opens [] after h k = absurd (omega arith)
first-opens (b ∷ t) after h k = k

module _ (text : List ℕ) (c : Centering) (found : List Operation) (previous : Previous) (p : ℕ) (s : List ℕ) (begins : Begins text c found previous p s) where
  -- Where the text ends.
  end-says : Every whitespace s → Says text (operations (length text) c found previous [])
  unfolding operations at_end residue
  end-says e = go (eqb previous.count 0) refl
    where
      go : (b : Bool) → eqb previous.count 0 ≡ b → Says text (cond b (refusal (NoRotation (length text))) (symbol c (map (shifted no_shift) found)))
      go true h = ends begins (eqb-true previous.count 0 h) e
      go false h =
          let none = eqb-false previous.count 0 h in
          record {
            found = found;
            previous = previous;
            p = p;
            s = s;
            v = record { x = pos 0; y = pos 0; z = pos 0 };
            begins = begins;
            some = omega (arith, none);
            ending = plain e;
            generators = refl;
          }

  module _ (w t after : List ℕ) (cut : Cut s w t after) where
    -- The next token, at its place.
    here : Next text previous (p + length w) t after
    here = record { c = c; found = found; p = p; s = s; w = w; begins = begins; cut = cut; stands = refl }

    -- At a token that starts with `(`.
    shift_says : Opens t → Says text (at_shift c found previous.count (token_at (p + length w) (t ++ after)))
    unfolding at_shift
    shift_says o = go (eqb previous.count 0) refl
      where
        read : 0 < previous.count → (r : Option Translation) → shift_of (t ++ after) ≡ r → Says text (on_shift (p + length w) c found r)
        read some (Some u) e =
            let (v, spelled, same) = shift-spelled (t ++ after) u (opens-append t after o) e in
            record {
              found = found;
              previous = previous;
              p = p;
              s = s;
              v = v;
              begins = begins;
              some = some;
              ending = moved v cut spelled;
              generators = ap (λ (w : Translation). map (shifted w) found) (sym same);
            }
        read some None e =
            record {
              previous = previous;
              t = t;
              after = after;
              next = here;
              opens = o;
              some = some;
              malformed = λ v spelled. let other = shift-read (t ++ after) v spelled in let z : ◌≡◌ {A = ℕ} 0 1 = cc in absurd (omega arith);
            }

        go : (b : Bool) → eqb previous.count 0 ≡ b → Says text (cond b (refusal (NoRotation (p + length w)))
            (on_shift (p + length w) c found (shift_of (t ++ after))))
        go true h = opens here (eqb-true previous.count 0 h) o
        go false h = let none = eqb-false previous.count 0 h in read (omega (arith, none)) (shift_of (t ++ after)) refl

    -- At any other token, where what follows an operation is known to be read by the rules.
    rotation-says : Stops opening t → ((o : Operation) (f : Fold) (a : Axis)
        → Begins text c (found ++ (o ∷ [])) (next_previous previous f a) (p + length w + length t) after
        → Says text (operations (length text) c (found ++ (o ∷ [])) (next_previous previous f a) (tokens_from (p + length w + length t) true after)))
        → (few : previous.count < 8) (answer : Result (Operation × Fold × Axis) (ℕ × RefusalOf)) → operation_token t previous ≡ answer
        → Says text (on_operation (p + length w) answer (λ o f a. operations (length text) c (found ++ (o ∷ [])) (next_previous previous f a)
        (tokens_from (p + length w + length t) true after)))
    rotation-says start later few (Ok (o, f, a)) e = later o f a (rotation o f a begins cut start few ((answers-exact t previous (Ok (o, f, a))).0 e))
    rotation-says start later few (Err (k, r)) e =
        record {
          previous = previous;
          start = p + length w;
          offset = k;
          t = t;
          after = after;
          next = here;
          stands = refl;
          rotation = start;
          few = few;
          says = (answers-exact t previous (Err (k, r))).0 e;
        }

    -- At any token.
    token-says : ((o : Operation) (f : Fold) (a : Axis) → Begins text c (found ++ (o ∷ [])) (next_previous previous f a) (p + length w + length t) after
        → Says text (operations (length text) c (found ++ (o ∷ [])) (next_previous previous f a) (tokens_from (p + length w + length t) true after)))
        → Says text (operations (length text) c found previous (token_at (p + length w) (t ++ after) ∷ tokens_from (p + length w + length t) true after))
    token-says later = go (opening (get_or (t ++ after) 0 0)) refl
      where
        ts : List Token
        ts = tokens_from (p + length w + length t) true after

        other : opening (get_or (t ++ after) 0 0) ≡ false → (b : Bool) → leb 8 previous.count ≡ b
            → Says text (operations (length text) c found previous (token_at (p + length w) (t ++ after) ∷ ts))
        other e true h =
            let most = leb-true 8 previous.count h in
            rw (step-ninth (length text) c found previous (token_at (p + length w) (t ++ after)) ts e most)
            (record { previous = previous; t = t; after = after; next = here; rotation = first_stops t after e; eight = omega (arith, begins-few text begins) })
        other e false h =
            let few = leb-false 8 previous.count h in
            rw (step-rotation (length text) c found previous (token_at (p + length w) (t ++ after)) ts e few, cut_word s w t after cut)
            (rotation-says (first_stops t after e) later few (operation_token t previous) refl)

        go : (b : Bool) → opening (get_or (t ++ after) 0 0) ≡ b → Says text (operations (length text) c found previous
            (token_at (p + length w) (t ++ after) ∷ ts))
        go true e = rw (step-shift (length text) c found previous (token_at (p + length w) (t ++ after)) ts e) (shift_says (first-opens t after cut.some e))
        go false e = other e (leb 8 previous.count) refl

-- What begins well is read on by the rules, by induction on a bound of what is left.
operations-says : (k : ℕ) (text : List ℕ) (c : Centering) (found : List Operation) (previous : Previous) (p : ℕ) (s : List ℕ) → length s ≤ k
    → Begins text c found previous p s → Says text (operations (length text) c found previous (tokens_from p true s))
operations-says zero text c found previous p s l begins = go (first-token s)
  where
    go : FirstToken s → Says text (operations (length text) c found previous (tokens_from p true s))
    go (blank e) = rw (tokens_none p s e) (end-says text c found previous p s begins e)
    go (token w t after cut) = absurd (omega (arith, cut-length s w t after cut, cut.some))
operations-says (suc k) text c found previous p s l begins =
    go (first-token s) (λ o f a q after m b. operations-says k text c (found ++ (o ∷ [])) (next_previous previous f a) q after m b)
  where
    go : FirstToken s → ((o : Operation) (f : Fold) (a : Axis) (q : ℕ) (after : List ℕ) → length after ≤ k
        → Begins text c (found ++ (o ∷ [])) (next_previous previous f a) q after
        → Says text (operations (length text) c (found ++ (o ∷ [])) (next_previous previous f a) (tokens_from q true after)))
        → Says text (operations (length text) c found previous (tokens_from p true s))
    go (blank e) later = rw (tokens_none p s e) (end-says text c found previous p s begins e)
    go (token w t after cut) later =
        rw (tokens-cut p s w t after cut)
        (token-says text c found previous p s begins w t after cut
        (λ o f a b. later o f a (p + length w + length t) after (omega (arith, cut-length s w t after cut, cut.some)) b))

-- A fit text is read by the rules.
fit-says : (text : List ℕ) → Fit text → Says text (read_tokens (length text) (tokens text))
fit-says text fit = go (first-token text)
  where
    lattice-says : (w t after : List ℕ) → Cut text w t after → (l : Option (Bool × Centering)) → lattice_token t ≡ l
        → Says text (on_lattice (length text) (length w) l (tokens_from (length w + length t) true after))
    lattice-says w t after cut (Some (inverted, c)) e =
        let same = lattice-spelled t inverted c e in
        operations-says (length after) text c (leading inverted) no_previous (length w + length t) after (omega arith) (rw same
        (lattice inverted c fit (rw same at cut)))
    lattice-says w t after cut (None) e =
        record {
          w = w;
          t = t;
          after = after;
          fit = fit;
          cut = cut;
          stands = refl;
          wrong = λ inverted c same. let other : lattice_token t ≡ (Some (inverted, c)) = ap lattice_token same ∙ lattice-read inverted c in
              let z : ◌≡◌ {A = ℕ} 0 1 = cc in absurd (omega arith);
        }

    go : FirstToken text → Says text (read_tokens (length text) (tokens text))
    go (blank e) = rw (tokens_none 0 text e) (fit, e)
    go (token w t after cut) =
        let q : 0 + length w ≡ length w = omega arith in
        rw (tokens-cut 0 text w t after cut, cut_word text w t after cut, q) (lattice-says w t after cut (lattice_token t) refl)

-- Every text is read by the rules.
pub read-says : (text : List ℕ) → Says text (read_symbol text)
unfolding read_symbol
read-says text = go (ltb 80 (length text)) refl
  where
    allowed-says : length text ≤ 80 → (b : Bool) → ltb (run allowed text) (length text) ≡ b
        → Says text (cond b (refusal (ForbiddenByte (run allowed text))) (read_tokens (length text) (tokens text)))
    allowed-says short true e =
        let within = ltb-true (run allowed text) (length text) e in
        record { short = short; within = within; forbidden = run_at allowed text within; first = run-below allowed text }
    allowed-says short false e = fit-says text (short, run-all allowed text (ltb-false (run allowed text) (length text) e))

    go : (b : Bool) → ltb 80 (length text) ≡ b → Says text (cond b (refusal TooLong)
        (cond (ltb (run allowed text) (length text)) (refusal (ForbiddenByte (run allowed text))) (read_tokens (length text) (tokens text))))
    go true e = ltb-true 80 (length text) e
    go false e = allowed-says (ltb-false 80 (length text) e) (ltb (run allowed text) (length text)) refl

-- ---- both ways
-- The reader gives an answer exactly if the rules do.
pub read-exactly : (text : List ℕ) (r : Reading) → (read_symbol text ≡ r) ↔ Says text r
read-exactly text r = ((λ e. subst (Says text) e (read-says text)), says-read text r)

-- A text is read as a symbol exactly if it spells it.
pub symbol-exactly : (text : List ℕ) (c : Centering) (gs : List Operation) → (read_symbol text ≡ symbol c gs) ↔ Spells text c gs
symbol-exactly text c gs = read-exactly text (symbol c gs)

-- A text is refused exactly if the refusal's rule holds of it.
pub refusal-exactly : (text : List ℕ) (r : Refusal) → (read_symbol text ≡ refusal r) ↔ Refuses text r
refusal-exactly text r = read-exactly text (refusal r)

-- Of any text exactly one answer holds by the rules.
pub says-one : (text : List ℕ) → (r : Reading) × Says text r × ((other : Reading) → Says text other → other ≡ r)
says-one text = (read_symbol text, read-says text, λ other h. sym (says-read text other h))

-- A text spells one symbol.
pub spells-once : (text : List ℕ) (c d : Centering) (gens hens : List Operation) → Spells text c gens → Spells text d hens → (c ≡ d) × (gens ≡ hens)
spells-once text c d gens hens s t =
    let same : symbol c gens ≡ symbol d hens = sym ((symbol-exactly text c gens).1 s) ∙ (symbol-exactly text d hens).1 t in
    (cc, cc)
