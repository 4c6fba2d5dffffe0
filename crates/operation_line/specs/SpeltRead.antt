-- Whatever is spelt is read: the reader goes through the spaces, signs, letters and fractions of a line to the end of its third part.
-- With the other way round, a line's terms are read exactly if the text spells them, and a text spells one line at most.
use Rattle.std.specs.Prelude.{◌≡◌, Bool, true, false, ◌&&◌, ◌↔◌, ℕ, ◌+◌, ◌<◌, ◌≤◌, ltb, length}
use Rattle.std.proofs.Math.Path.{refl, ap, subst}
use Rattle.std.proofs.Common.{sym, ◌∙◌, arith, ltb-true, ltb-false, ne_eqb, lt-ltb, le-ltb}
use Rattle.std.proofs.Math.Bool.{cond}
use mathlib.Core.List.Memᴰ.{head as here}
use mathlib.Core.List.Memᴰ.{tail as there}
use mathlib.Core.List.{List, [], ◌∷◌, ◌++◌, append_assoc, Memᴰ as Mem}
use Rattle.operation_line.specs.declared.Letter.{Letter}
use Rattle.operation_line.specs.declared.Letter.TheVariants.{X, Y, Z}
use Rattle.operation_line.specs.declared.reader.Symbol.TheVariants.{Sign, Named, Digit}
use Rattle.operation_line.specs.declared.reader.Mode.{Mode}
use Rattle.operation_line.specs.declared.reader.Mode.TheVariants.{Start, Owed, Told, Numerator, Behind}
use Rattle.operation_line.specs.Spelling.{Body, letter, fraction, Term, signed, letter_byte, sign_byte, numeral, body_bytes, denominators, Proper, used, Blank, none, space, Terms, blank, unsigned, then, Part, Line, Spells}
use Rattle.operation_line.specs.Reading.{symbol_in, digit_or, symbol_of, Reading, Reached, at, stopped, ending, told, with_letter, with_fraction, with_numerator, begun, at_start, full, after_term, after_numerator, one_digit, over_digit, after_slash, after_one, step_by, step, onwards, reach, begin}
use Rattle.operation_line.specs.Beginnings.{used-fraction, numeral-one, Done, nothing, more, Begun, reached-begun}
use Rattle.operation_line.specs.LowestTerms.{at-most-twelve}

abbrev pub state : List (List Term) → List Term → Mode → Reading
state d ts m = record { done = d; terms = ts; mode = m }

-- ---- going on

pub reach-append : (p q : List ℕ) (s r : Reading) → reach p s ≡ at r → reach (p ++ q) s ≡ reach q r
unfolding reach onwards
reach-append [] q s r e = let same : s ≡ r = cc in ap (reach q) same
reach-append (b ∷ bs) q s r e = go (step s b) e (λ s'. reach-append bs q s' r)
  where
    go : (w : Reached) → onwards w (reach bs) ≡ at r → ((s' : Reading) → reach bs s' ≡ at r → reach (bs ++ q) s' ≡ reach q r)
        → onwards w (reach (bs ++ q)) ≡ reach q r
    go (at s') h next = next s' h
    go stopped h next = let z : ◌≡◌ {A = ℕ} 0 1 = cc in absurd (omega arith)

reach_step : (b : ℕ) (bs : List ℕ) (s r : Reading) → step s b ≡ at r → reach (b ∷ bs) s ≡ reach bs r
unfolding reach onwards
reach_step b bs s r e = ap (λ (w : Reached). onwards w (reach bs)) e

-- Where spaces change nothing, any number of them does not.
spaces : (s : Reading) → step s 32 ≡ at s → {u : List ℕ} → Blank u → reach u s ≡ at s
unfolding reach
spaces s e none = refl
spaces s e (space {s = u} h) = reach_step 32 u s s e ∙ spaces s e h

-- ---- bytes

symbol-digit : (m : ℕ) → m ≤ 9 → symbol_of (48 + m) ≡ Digit m
unfolding symbol_of symbol_in digit_or
symbol-digit m h =
    rw (
      ne_eqb (48 + m) 32 (omega arith),
      ne_eqb (48 + m) 43 (omega arith),
      ne_eqb (48 + m) 45 (omega arith),
      ne_eqb (48 + m) 44 (omega arith),
      ne_eqb (48 + m) 47 (omega arith),
      ne_eqb (48 + m) 120 (omega arith),
      ne_eqb (48 + m) 121 (omega arith),
      ne_eqb (48 + m) 122 (omega arith),
      le-ltb (48 + m) 48 (omega arith),
      le-ltb 57 (48 + m) (omega arith),
    )
    (ap Digit (omega arith))

symbol-letter : (l : Letter) → symbol_of (letter_byte l) ≡ Named l
unfolding symbol_of symbol_in
symbol-letter X = refl
symbol-letter Y = refl
symbol-letter Z = refl

symbol-sign : (n : Bool) → symbol_of (sign_byte n) ≡ Sign n
unfolding symbol_of symbol_in
symbol-sign true = refl
symbol-sign false = refl

-- ---- one term

-- Where a term with this sign may begin.
record Opens (s : Reading) (n : Bool) : Type 0 where
  letters : (l : Letter) → step_by s s.mode (Named l) ≡ with_letter s n l
  digits : (m : ℕ) → step_by s s.mode (Digit m) ≡ with_numerator s n m

start-opens : (d : List (List Term)) (ts : List Term) → Opens (state d ts Start) false
unfolding step_by at_start begun
start-opens d ts = record { letters = λ l. refl; digits = λ m. refl }

owed-opens : (d : List (List Term)) (ts : List Term) (n : Bool) → Opens (state d ts (Owed n)) n
unfolding step_by begun
owed-opens d ts n = record { letters = λ l. refl; digits = λ m. refl }

module _ (s : Reading) (n : Bool) (o : Opens s n) where
  letter-read : (l : Letter) → used (letter l) s.terms ≡ false → reach (letter_byte l ∷ []) s ≡ at (state s.done (signed n (letter l) ∷ s.terms) Told)
  unfolding reach with_letter
  letter-read l fresh =
      reach_step (letter_byte l) [] s (state s.done (signed n (letter l) ∷ s.terms) Told)
      (ap (step_by s s.mode) (symbol-letter l) ∙ o.letters l ∙ ap (λ (t : Bool). cond t stopped (told s n (letter l))) fresh)

  first-digit : (m : ℕ) → 1 ≤ m → m ≤ 9 → used (fraction 1 2) s.terms ≡ false → step s (48 + m) ≡ at (state s.done s.terms (Numerator n m))
  unfolding with_numerator
  first-digit m least most fresh =
      ap (step_by s s.mode) (symbol-digit m most) ∙ o.digits m
      ∙ rw (ne_eqb m 0 (omega arith), used-fraction m 12 1 2 s.terms ∙ fresh)

  numeral-read : (m : ℕ) → 1 ≤ m → m ≤ 11 → used (fraction 1 2) s.terms ≡ false → reach (numeral m) s ≡ at (state s.done s.terms (Numerator n m))
  unfolding reach onwards numeral step_by after_numerator symbol_of symbol_in digit_or
  numeral-read m least most fresh = go (ltb m 10) refl (ltb m 11) refl
    where
      one : step s 49 ≡ at (state s.done s.terms (Numerator n 1))
      one = first-digit 1 (omega arith) (omega arith) fresh

      ten : reach (49 ∷ 48 ∷ []) s ≡ at (state s.done s.terms (Numerator n 10))
      ten = reach_step 49 (48 ∷ []) s (state s.done s.terms (Numerator n 1)) one

      eleven : reach (49 ∷ 49 ∷ []) s ≡ at (state s.done s.terms (Numerator n 11))
      eleven = reach_step 49 (49 ∷ []) s (state s.done s.terms (Numerator n 1)) one

      go : (t : Bool) → ltb m 10 ≡ t → (w : Bool) → ltb m 11 ≡ w → reach (numeral m) s ≡ at (state s.done s.terms (Numerator n m))
      go true h w k =
          let small : m ≤ 9 = omega (arith, ltb-true m 10 h) in
          ap (λ (l : List ℕ). reach l s) (numeral-one m small)
          ∙ reach_step (48 + m) [] s (state s.done s.terms (Numerator n m)) (first-digit m least small fresh)
      go false h true k =
          let is : 10 ≡ m = omega (arith, ltb-false m 10 h, ltb-true m 11 k) in
          subst (λ (i : ℕ). reach (numeral i) s ≡ at (state s.done s.terms (Numerator n i))) is ten
      go false h false k =
          let is : 11 ≡ m = omega (arith, ltb-false m 11 k) in
          subst (λ (i : ℕ). reach (numeral i) s ≡ at (state s.done s.terms (Numerator n i))) is eleven

module _ (done : List (List Term)) (ts : List Term) (n : Bool) (m : ℕ) where
  abbrev Over : ℕ → Type 0
  Over d = m < d → reach (numeral d) (state done ts (Behind n m)) ≡ at (state done (signed n (fraction m d) ∷ ts) Told)

  over-read : (d : ℕ) → Mem d denominators → Over d
  unfolding reach onwards numeral step_by after_slash over_digit one_digit after_one with_fraction symbol_of symbol_in digit_or
  over-read d (here e) = subst Over (sym e) (λ less. rw (lt-ltb m 2 less))
  over-read d (there (here e)) = subst Over (sym e) (λ less. rw (lt-ltb m 3 less))
  over-read d (there (there (here e))) = subst Over (sym e) (λ less. rw (lt-ltb m 4 less))
  over-read d (there (there (there (here e)))) = subst Over (sym e) (λ less. rw (lt-ltb m 6 less))
  over-read d (there (there (there (there (here e))))) = subst Over (sym e) (λ less. rw (lt-ltb m 12 less))
  over-read d (there (there (there (there (there x20))))) = elim x20 [ ]

slash-read : (done : List (List Term)) (ts : List Term) (n : Bool) (m : ℕ) → step (state done ts (Numerator n m)) 47 ≡ at (state done ts (Behind n m))
unfolding step_by after_numerator symbol_of symbol_in
slash-read done ts n m = refl

-- A letter or a fraction.
body-read : (s : Reading) (n : Bool) → Opens s n → (b : Body) → Proper b → used b s.terms ≡ false
    → reach (body_bytes b) s ≡ at (state s.done (signed n b ∷ s.terms) Told)
body-read s n o (letter l) proper fresh = letter-read s n o l fresh
body-read s n o (fraction m d) (least, less, member) fresh =
    let most = at-most-twelve d member in
    reach-append (numeral m) (47 ∷ numeral d) s (state s.done s.terms (Numerator n m))
    (numeral-read s n o m least (omega arith) (used-fraction 1 2 m d s.terms ∙ fresh))
    ∙ reach_step 47 (numeral d) (state s.done s.terms (Numerator n m)) (state s.done s.terms (Behind n m)) (slash-read s.done s.terms n m)
    ∙ over-read s.done s.terms n m d member less

-- ---- terms

-- What stands at the end of terms.
abbrev after : List Term → Mode
after [] = Start
after (t ∷ ts) = Told

after-space : (d : List (List Term)) (ts : List Term) → step (state d ts (after ts)) 32 ≡ at (state d ts (after ts))
unfolding step_by at_start begun after_term symbol_of symbol_in
after-space d [] = refl
after-space d (t ∷ ts) = refl

owed-space : (d : List (List Term)) (ts : List Term) (n : Bool) → step (state d ts (Owed n)) 32 ≡ at (state d ts (Owed n))
unfolding step_by begun symbol_of symbol_in
owed-space d ts n = refl

-- Where something is not used, the part is not full.
not_full : (b : Body) (ts : List Term) → used b ts ≡ false → full ts ≡ false
unfolding full
not_full (letter X) ts e = rw e
not_full (letter Y) ts e = go (used (letter X) ts)
  where
    go : (a : Bool) → a && (used (letter Y) ts && (used (letter Z) ts && used (fraction 1 2) ts)) ≡ false
    go true = rw e
    go false = refl
not_full (letter Z) ts e = go (used (letter X) ts) (used (letter Y) ts)
  where
    go : (a b : Bool) → a && (b && (used (letter Z) ts && used (fraction 1 2) ts)) ≡ false
    go true true = rw e
    go true false = refl
    go false b = refl
not_full (fraction m d) ts e = go (used (letter X) ts) (used (letter Y) ts) (used (letter Z) ts)
  where
    go : (a b c : Bool) → a && (b && (c && used (fraction 1 2) ts)) ≡ false
    go true true true = used-fraction 1 2 m d ts ∙ e
    go true true false = refl
    go true false c = refl
    go false b c = refl

sign_read : (d : List (List Term)) (ts : List Term) (n : Bool) → full ts ≡ false → step (state d ts (after ts)) (sign_byte n) ≡ at (state d ts (Owed n))
unfolding step_by at_start after_term
sign_read d [] n e = ap (step_by (state d [] Start) Start) (symbol-sign n)
sign_read d (t ∷ ts) n e =
    ap (step_by (state d (t ∷ ts) Told) Told) (symbol-sign n) ∙ ap (λ (w : Bool). cond w stopped (ending (state d (t ∷ ts) Told) (Owed n))) e

unused : (b : Body) → used b [] ≡ false
unfolding used
unused b = refl

terms-read : (d : List (List Term)) {q : List ℕ} {ts : List Term} → Terms q ts → reach q (state d [] Start) ≡ at (state d ts (after ts))
terms-read d (blank h) = spaces (state d [] Start) (after-space d []) h
terms-read d (unsigned {s} {v} h b proper k) =
    reach-append s (body_bytes b ++ v) (state d [] Start) (state d [] Start) (spaces (state d [] Start) (after-space d []) h)
    ∙ reach-append (body_bytes b) v (state d [] Start) (state d (signed false b ∷ []) Told)
    (body-read (state d [] Start) false (start-opens d []) b proper (unused b))
    ∙ spaces (state d (signed false b ∷ []) Told) (after-space d (signed false b ∷ [])) k
terms-read d (then {p} {u} {v} {ts} h n g b proper fresh k) =
    reach-append p (sign_byte n ∷ (u ++ (body_bytes b ++ v))) (state d [] Start) (state d ts (after ts)) (terms-read d h)
    ∙ reach_step (sign_byte n) (u ++ (body_bytes b ++ v)) (state d ts (after ts)) (state d ts (Owed n)) (sign_read d ts n (not_full b ts fresh))
    ∙ reach-append u (body_bytes b ++ v) (state d ts (Owed n)) (state d ts (Owed n)) (spaces (state d ts (Owed n)) (owed-space d ts n) g)
    ∙ reach-append (body_bytes b) v (state d ts (Owed n)) (state d (signed n b ∷ ts) Told) (body-read (state d ts (Owed n)) n (owed-opens d ts n) b proper
    fresh)
    ∙ spaces (state d (signed n b ∷ ts) Told) (after-space d (signed n b ∷ ts)) k

part-read : (d : List (List Term)) (q : List ℕ) (ts : List Term) → Part q ts → reach q (state d [] Start) ≡ at (state d ts Told)
part-read d q [] p = absurd (p.some refl)
part-read d q (t ∷ ts) p = terms-read d p.spelt

comma-read : (d : List (List Term)) (ts : List Term) (rest : List ℕ) → length d < 2 → reach (44 ∷ rest) (state d ts Told) ≡ reach rest (state (ts ∷ d) [] Start)
unfolding step_by after_term symbol_of symbol_in
comma-read d ts rest h = reach_step 44 rest (state d ts Told) (state (ts ∷ d) [] Start) (rw (lt-ltb (length d) 2 h))

-- ---- lines

-- What is reached at the end of a line.
abbrev pub read : Line → Reading
read l = state (l.y ∷ l.x ∷ []) l.z Told

pub spelt-read : (text : List ℕ) (l : Line) → Spells text l → reach text begin ≡ at (read l)
spelt-read text l h =
    ap (λ (t : List ℕ). reach t begin) h.split
    ∙ reach-append h.first (44 ∷ (h.second ++ (44 ∷ h.third))) begin (state [] l.x Told) (part-read [] h.first l.x h.of-x)
    ∙ comma-read [] l.x (h.second ++ (44 ∷ h.third)) (omega arith)
    ∙ reach-append h.second (44 ∷ h.third) (state (l.x ∷ []) [] Start) (state (l.x ∷ []) l.y Told) (part-read (l.x ∷ []) h.second l.y h.of-y)
    ∙ comma-read (l.x ∷ []) l.y h.third (omega arith)
    ∙ part-read (l.y ∷ l.x ∷ []) h.third l.z h.of-z

-- Two finished parts.
record Two (front : List ℕ) (x y : List Term) : Type 0 where
  first : List ℕ
  second : List ℕ
  split : front ≡ first ++ (44 ∷ (second ++ (44 ∷ [])))
  of-x : Part first x
  of-y : Part second y

two-done : {front : List ℕ} {x y : List Term} → Done front (y ∷ (x ∷ [])) → Two front x y
two-done (more {p = second} (more {p = first} nothing px) py) =
    record { first = first; second = second; split = append_assoc first (44 ∷ []) (second ++ (44 ∷ [])); of-x = px; of-y = py }

pub begun-spelt : (text : List ℕ) (l : Line) → Begun text (read l) → Spells text l
begun-spelt text l h =
    let two = two-done h.finished in
    record {
      first = two.first;
      second = two.second;
      third = h.part;
      split = h.split ∙ ap (λ (t : List ℕ). t ++ h.part) two.split ∙ simp append_assoc;
      of-x = two.of-x;
      of-y = two.of-y;
      of-z = h.ends;
    }

-- A text's terms are read exactly if it spells them.
pub reads-exact : (text : List ℕ) (l : Line) → (reach text begin ≡ at (read l)) ↔ Spells text l
reads-exact text l = ((λ e. begun-spelt text l (reached-begun text (read l) e)), spelt-read text l)

-- A text spells one line at most: its parts and their terms are unique.
pub spelt-once : (text : List ℕ) (l k : Line) → Spells text l → Spells text k → l ≡ k
spelt-once text l k h g =
    let e : at (read l) ≡ at (read k) = sym (spelt-read text l h) ∙ spelt-read text k g in
    let same : read l ≡ read k = cc in
    let done : l.y ∷ (l.x ∷ []) ≡ k.y ∷ (k.x ∷ []) = ap (λ (s : Reading). s.done) same in
    let x : l.x ≡ k.x = cc in
    let y : l.y ≡ k.y = cc in
    let z : l.z ≡ k.z = ap (λ (s : Reading). s.terms) same in
    λ i. record { x = x i; y = y i; z = z i }
