-- Where a misspelt line goes wrong: the reader stops at the first byte that no line so spelt has after the bytes before it. Every beginning that it
-- has read can be completed, and behind the byte at which it stops nothing helps.
use Rattle.std.specs.Prelude.{◌≡◌, refl, Bool, true, false, ◌&&◌, List, [], ◌∷◌, ◌++◌, ℕ, suc, ◌<◌, ◌≤◌, length, take}
use Rattle.std.proofs.Common.{sym, ◌∙◌, ap, subst, append_assoc, append-nil, arith}
use mathlib.Core.List.Memᴰ.{head as here}
use mathlib.Core.List.Memᴰ.{tail as there}
use Rattle.std.proofs.Math.Seq.{take-length}
use Rattle.laws.specs.Prefixes.{Starts, FirstOffending}
use Rattle.operation_line.specs.declared.Letter.TheVariants.{X, Y, Z}
use Rattle.operation_line.specs.declared.reader.Mode.{Mode}
use Rattle.operation_line.specs.declared.reader.Mode.TheVariants.{Start, Owed, Told, Numerator, Behind, Twelfth}
use Rattle.operation_line.specs.Spelling.{Body, letter, fraction, Term, signed, numeral, body_bytes, Proper, used, none, unsigned, Part, Spelt}
use Rattle.operation_line.specs.Reading.{Reading, Reached, at, stopped, full, step, onwards, reach, passed, readable, begin, line_of}
use Rattle.operation_line.specs.Beginnings.{used-fraction, Done, more, InFraction, Ends, Begun, closed, start-front, reached-begun}
use Rattle.operation_line.specs.SpeltRead.{read, begun-spelt, spelt-read}

-- ---- completions

-- Bytes that make a part of what has been read of one.
record Completed (q : List ℕ) : Type 0 where
  rest : List ℕ
  terms : List Term
  part : Part (q ++ rest) terms

-- Something that a part which is not full does not have.
pub record Unused (ts : List Term) : Type 0 where
  pub body : Body
  pub proper : Proper body
  pub fresh : used body ts ≡ false

pub unused-some : (ts : List Term) → full ts ≡ false → Unused ts
unfolding full
unused-some ts = go (used (letter X) ts) refl (used (letter Y) ts) refl (used (letter Z) ts) refl
  where
    go : (a : Bool) → used (letter X) ts ≡ a → (b : Bool) → used (letter Y) ts ≡ b → (c : Bool) → used (letter Z) ts ≡ c
        → a && (b && (c && used (fraction 1 2) ts)) ≡ false → Unused ts
    go false x b y c z e = record { body = letter X; proper = tt; fresh = x }
    go true x false y c z e = record { body = letter Y; proper = tt; fresh = y }
    go true x true y false z e = record { body = letter Z; proper = tt; fresh = z }
    go true x true y true z e = record { body = fraction 1 2; proper = (omega arith, omega arith, here refl); fresh = e }

fraction-completed : (q : List ℕ) (ts : List Term) (n : Bool) (m : ℕ) (digits rest : List ℕ) → digits ++ rest ≡ body_bytes (fraction m 12)
    → InFraction q ts n m digits → Completed q
fraction-completed q ts n m digits rest e f =
    record {
      rest = rest;
      terms = signed n (fraction m 12) ∷ ts;
      part =
          let proper : Proper (fraction m 12) = (f.least, omega (arith, f.most), there (there (there (there (here refl))))) in
          rw (f.split, append_assoc f.front digits rest, e) (closed f.opens (fraction m 12) proper (used-fraction m 12 1 2 ts ∙ f.fresh));
    }

completed : (q : List ℕ) (ts : List Term) (m : Mode) → Ends q ts m → Completed q
unfolding numeral used
completed q ts Start (h, e) = record { rest = 120 ∷ []; terms = signed false (letter X) ∷ []; part = closed (start-front h) (letter X) tt refl }
completed q ts (Owed n) (f, e) =
    let u = unused-some ts e in
    record { rest = body_bytes u.body; terms = signed n u.body ∷ ts; part = closed f u.body u.proper u.fresh }
completed q ts Told p = record { rest = []; terms = ts; part = subst (λ (l : List ℕ). Part l ts) (sym (append-nil q)) p }
completed q ts (Numerator n m) f = fraction-completed q ts n m (numeral m) (47 ∷ 49 ∷ 50 ∷ []) refl f
completed q ts (Behind n m) f = fraction-completed q ts n m (numeral m ++ (47 ∷ [])) (49 ∷ 50 ∷ []) (append_assoc (numeral m) (47 ∷ []) (49 ∷ 50 ∷ [])) f
completed q ts (Twelfth n m) f = fraction-completed q ts n m (numeral m ++ (47 ∷ 49 ∷ [])) (50 ∷ []) (append_assoc (numeral m) (47 ∷ 49 ∷ []) (50 ∷ [])) f

-- The part x.
part-x : Part (120 ∷ []) (signed false (letter X) ∷ [])
part-x = record { spelt = unsigned none (letter X) tt none; some = λ e. let z : ◌≡◌ {A = ℕ} 0 1 = cc in absurd (omega arith) }

-- A whole part behind finished ones; the missing ones are `,x`.
whole : (front q : List ℕ) (done : List (List Term)) (ts : List Term) → Done front done → length done ≤ 2 → Part q ts → Starts Spelt (front ++ q)
whole front q (z ∷ (y ∷ (x ∷ ps))) ts h few p = absurd (omega arith)
whole front q (y ∷ (x ∷ [])) ts h few p =
    let line = line_of x y ts in
    ([], (line, begun-spelt ((front ++ q) ++ []) line (record { front = front; part = q; split = append-nil (front ++ q); finished = h; few = few; ends = p })))
whole front q (x ∷ []) ts h few p =
    let line = line_of x ts (signed false (letter X) ∷ []) in
    let begun : Begun ((front ++ q) ++ (44 ∷ 120 ∷ [])) (read line) = record {
      front = front ++ (q ++ (44 ∷ []));
      part = 120 ∷ [];
      split = simp append_assoc;
      finished = more h p;
      few = omega arith;
      ends = part-x;
    } in
    (44 ∷ 120 ∷ [], (line, begun-spelt ((front ++ q) ++ (44 ∷ 120 ∷ [])) line begun))
whole front q [] ts h few p =
    let line = line_of ts (signed false (letter X) ∷ []) (signed false (letter X) ∷ []) in
    let begun : Begun ((front ++ q) ++ (44 ∷ 120 ∷ 44 ∷ 120 ∷ [])) (read line) = record {
      front = (front ++ (q ++ (44 ∷ []))) ++ (120 ∷ 44 ∷ []);
      part = 120 ∷ [];
      split = simp append_assoc;
      finished = more (more h p) part-x;
      few = omega arith;
      ends = part-x;
    } in
    (44 ∷ 120 ∷ 44 ∷ 120 ∷ [], (line, begun-spelt ((front ++ q) ++ (44 ∷ 120 ∷ 44 ∷ 120 ∷ [])) line begun))

-- Every beginning that is read can be completed to a line.
pub begun-starts : (text : List ℕ) (s : Reading) → Begun text s → Starts Spelt text
begun-starts text s h =
    let c = completed h.part s.terms s.mode h.ends in
    let w = whole h.front (h.part ++ c.rest) s.done c.terms h.finished h.few c.part in
    (c.rest ++ w.0, rw h.split (simp append_assoc (simp append_assoc at w.1)))

-- ---- stopping

abbrev IsAt : Reached → Type 0
IsAt (at s) = Unit {0}
IsAt stopped = ⊥

-- Where the reader stops, it has read the bytes before, and stops there whatever follows.
record Stops (text : List ℕ) (s : Reading) (k : ℕ) : Type 0 where
  within : k < length text
  before : Reading
  reached : reach (take k text) s ≡ at before
  stays : (w : List ℕ) → reach (take (suc k) text ++ w) s ≡ stopped

stops : (text : List ℕ) (s : Reading) → reach text s ≡ stopped → Stops text s (readable text s)
unfolding reach readable onwards passed
stops [] s e = absurd (subst IsAt e tt)
stops (b ∷ bs) s e = go (step s b) refl e (stops bs)
  where
    go : (w : Reached) → step s b ≡ w → onwards w (reach bs) ≡ stopped → ((s' : Reading) → reach bs s' ≡ stopped → Stops bs s' (readable bs s'))
        → Stops (b ∷ bs) s (passed w (readable bs))
    go (at s') is h below =
        let t = below s' h in
        record {
          within = omega (arith, t.within);
          before = t.before;
          reached = ap (λ (w : Reached). onwards w (reach (take (readable bs s') bs))) is ∙ t.reached;
          stays = λ w. ap (λ (v : Reached). onwards v (reach (take (suc (readable bs s')) bs ++ w))) is ∙ t.stays w;
        }
    go stopped is h below =
        record { within = omega arith; before = s; reached = refl; stays = λ w. ap (λ (v : Reached). onwards v (reach w)) is }

-- What is not read is not spelt.
pub stopped-misspelt : (text : List ℕ) → reach text begin ≡ stopped → ¬ (Spelt text)
stopped-misspelt text e (line, spells) = subst IsAt (sym (spelt-read text line spells) ∙ e) tt

-- The reader stops at the first offending byte.
pub stopped-offending : (text : List ℕ) → reach text begin ≡ stopped → FirstOffending Spelt text (readable text begin)
stopped-offending text e =
    let t = stops text begin e in
    record {
      within = omega (arith, t.within);
      good = begun-starts (take (readable text begin) text) t.before (reached-begun (take (readable text begin) text) t.before t.reached);
      offends = λ less (rest, spelt). stopped-misspelt (take (suc (readable text begin)) text ++ rest) (t.stays rest) spelt;
      breaks-off = λ last. absurd (omega (arith, t.within));
    }

-- A line that is read to its end and not spelt breaks off.
pub ended-offending : (text : List ℕ) (s : Reading) → reach text begin ≡ at s → ¬ (Spelt text) → FirstOffending Spelt text (length text)
ended-offending text s e misspelt =
    record {
      within = omega arith;
      good = subst (Starts Spelt) (sym (take-length text)) (begun-starts text s (reached-begun text s e));
      offends = λ less. absurd (omega arith);
      breaks-off = λ last. misspelt;
    }
