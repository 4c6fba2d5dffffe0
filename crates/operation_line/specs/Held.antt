-- The numbers that the code holds are those of the terms it has read: the rows' code and the twelfths. Each step on the numbers is the step of the reading.
use Rattle.std.specs.Prelude.{◌≡◌, Bool, ◌&&◌, ◌||◌, List, [], ◌∷◌, ltb}
use Rattle.std.proofs.Math.Path.{refl, ap}
use Rattle.std.proofs.Common.{sym, ◌∙◌, subst, true≢false, eqb-true, ne_eqb}
use Rattle.std.proofs.Math.Bool.{true, false, cond, not}
use mathlib.Core.List.Memᴰ.{head as here}
use mathlib.Core.List.Memᴰ.{tail as there}
use Prim.Native.Nat.{ℕ, suc, ◌+◌, ◌*◌, ◌-◌, ◌/◌, ◌%◌, ◌<◌, ◌≤◌}
use native.Mathlib.Omega.{arith}
use Rattle.std.proofs.Math.Dec.{eqb}
use Rattle.std.proofs.Math.ListN.{length}
use Rattle.std.proofs.lemmas.Bool.{not-false}
use Rattle.operation_line.specs.declared.Letter.{Letter}
use Rattle.operation_line.specs.declared.Letter.TheVariants.{X, Y, Z}
use Rattle.operation_line.specs.declared.reader.Symbol.{Symbol}
use Rattle.operation_line.specs.declared.reader.Symbol.TheVariants.{Space, Sign, Named, Digit, Slash, Comma, Foreign}
use Rattle.operation_line.specs.declared.reader.Mode.{Mode}
use Rattle.operation_line.specs.declared.reader.Mode.TheVariants.{Start, Owed, Told, Numerator, Behind, Twelfth}
use Rattle.operation_line.specs.declared.reader.State.{State}
use Rattle.std.specs.Prelude.{Option, Some, None}
use Rattle.operation_line.specs.Spelling.{Body, letter, fraction, Term, signed, same_letter, Proper, clash, used, none, Terms, blank, unsigned, then, Part}
use Rattle.operation_line.specs.Denoted.{sign_digit, digit_then, digit_in, fraction_twelfths, twelfths_then, twelfths_in}
use Rattle.operation_line.specs.Reading.{symbol_of, Reading, Reached, at, stopped, ending, told, with_letter, with_fraction, with_numerator, begun, at_start, full, next_part, after_term, after_numerator, one_digit, over_digit, after_slash, after_one, step_by, step}
use Rattle.operation_line.specs.Numbers.{weight_of, column_of, ending_numbers, told_numbers, letter_numbers, fraction_numbers, numerator_numbers, begun_numbers, start_numbers, full_numbers, next_numbers, term_numbers, second_numbers, after_numbers, unit_of, over_numbers, slash_numbers, twelve_numbers, one_numbers, numbers_by, step_numbers, Within}
use Rattle.operation_line.specs.Beginnings.{Done, nothing, more, Front, InFraction, Ends, Begun}
use Rattle.operation_line.specs.Offending.{unused-some}

-- ---- the numbers of terms

abbrev pub row_code : List Term → ℕ
row_code ts = digit_in X ts * 9 + digit_in Y ts * 3 + digit_in Z ts

unfoldable pub rows_code : List (List Term) → ℕ
rows_code [] = 0
rows_code (ts ∷ ps) = rows_code ps * 27 + row_code ts

unfoldable pub ranks : List (List Term) → ℕ
ranks [] = 0
ranks (ts ∷ ps) = ranks ps * 12 + twelfths_in ts

-- The last part is the one that is read.
abbrev pub numbers_of : Reading → State
numbers_of s =
    record {
      part = length s.done;
      mode = s.mode;
      code = rows_code s.done * 27 + row_code s.terms;
      rank = ranks s.done * 12 + twelfths_in s.terms;
    }

abbrev pub numbers_next : Reached → Option State
numbers_next (at s) = Some (numbers_of s)
numbers_next stopped = None

-- ---- digits

same-itself : (l : Letter) → same_letter l l ≡ true
same-itself X = refl
same-itself Y = refl
same-itself Z = refl

sign_small : (n : Bool) → sign_digit n ≤ 2
sign_small true = omega arith
sign_small false = omega arith

pub digit-small : (l : Letter) (ts : List Term) → digit_in l ts ≤ 2
unfolding digit_in digit_then
digit-small l [] = omega arith
digit-small l (t ∷ ts) = go t.body (digit-small l ts)
  where
    go : (b : Body) → digit_in l ts ≤ 2 → digit_then l t.negative b (digit_in l ts) ≤ 2
    go (letter k) below = by (same_letter l k)
      where
        by : (e : Bool) → cond e (sign_digit t.negative) (digit_in l ts) ≤ 2
        by true = sign_small t.negative
        by false = below
    go (fraction p q) below = below

sign-told : (n : Bool) → eqb (sign_digit n) 1 ≡ false
sign-told true = refl
sign-told false = refl

-- A letter is used where its digit is not that of 0.
pub used-letter : (l : Letter) (ts : List Term) → used (letter l) ts ≡ not (eqb (digit_in l ts) 1)
unfolding used digit_in digit_then
used-letter l [] = refl
used-letter l (t ∷ ts) = go t.body (used-letter l ts)
  where
    go : (b : Body) → used (letter l) ts ≡ not (eqb (digit_in l ts) 1)
        → (clash (letter l) b || used (letter l) ts) ≡ not (eqb (digit_then l t.negative b (digit_in l ts)) 1)
    go (letter k) below = by (same_letter l k)
      where
        by : (e : Bool) → (e || used (letter l) ts) ≡ not (eqb (cond e (sign_digit t.negative) (digit_in l ts)) 1)
        by true = sym (ap not (sign-told t.negative))
        by false = below
    go (fraction p q) below = below

-- ---- twelfths

-- The twelfths of a fraction of an edge: 1 to 11.
pub range : (p q : ℕ) → Proper (fraction p q) → (1 ≤ 12 * p / q) × (12 * p / q ≤ 11)
range p q (least, less, here e) = rw e (omega arith, omega arith)
range p q (least, less, there (here e)) = rw e (omega arith, omega arith)
range p q (least, less, there (there (here e))) = rw e (omega arith, omega arith)
range p q (least, less, there (there (there (here e)))) = rw e (omega arith, omega arith)
range p q (least, less, there (there (there (there (here e))))) = rw e (omega arith, omega arith)
range p q (least, less, there (there (there (there (there x21))))) = elim x21 [ ]

signed_range : (n : Bool) (p q : ℕ) → Proper (fraction p q) → (1 ≤ fraction_twelfths n p q) × (fraction_twelfths n p q ≤ 11)
signed_range true p q h = let r = range p q h in (omega arith, omega arith)
signed_range false p q h = range p q h

-- Each letter or fraction of some terms is as the rules ask.
abbrev pub Propers : List Term → Type 0
Propers [] = Unit {0}
Propers (t ∷ ts) = Proper t.body × Propers ts

pub terms-proper : {q : List ℕ} {ts : List Term} → Terms q ts → Propers ts
terms-proper (blank h) = tt
terms-proper (unsigned h b proper k) = (proper, tt)
terms-proper (then h n g b proper fresh k) = (proper, terms-proper h)

pub twelfths-small : (ts : List Term) → Propers ts → twelfths_in ts < 12
unfolding twelfths_in twelfths_then
twelfths-small [] h = omega arith
twelfths-small (t ∷ ts) (proper, h) = go t.body proper (twelfths-small ts h)
  where
    go : (b : Body) → Proper b → twelfths_in ts < 12 → twelfths_then t.negative b (twelfths_in ts) < 12
    go (letter k) proper below = below
    go (fraction p q) proper below = omega (arith, (signed_range t.negative p q proper).1)

-- A fraction is used where there are twelfths.
pub used-twelfths : (m d : ℕ) (ts : List Term) → Propers ts → used (fraction m d) ts ≡ not (eqb (twelfths_in ts) 0)
unfolding used twelfths_in twelfths_then
used-twelfths m d [] h = refl
used-twelfths m d (t ∷ ts) (proper, h) = go t.body proper (used-twelfths m d ts h)
  where
    go : (b : Body) → Proper b → used (fraction m d) ts ≡ not (eqb (twelfths_in ts) 0)
        → (clash (fraction m d) b || used (fraction m d) ts) ≡ not (eqb (twelfths_then t.negative b (twelfths_in ts)) 0)
    go (letter k) proper below = below
    go (fraction p q) proper below = sym (ap not (ne_eqb (fraction_twelfths t.negative p q) 0 (omega (arith, (signed_range t.negative p q proper).0))))

-- ---- bounds

row_small : (ts : List Term) → row_code ts < 27
row_small ts = omega (arith, digit-small X ts, digit-small Y ts, digit-small Z ts)

rows-small : (ps : List (List Term)) → length ps ≤ 2 → rows_code ps < 729
unfolding rows_code
rows-small [] h = omega arith
rows-small (y ∷ []) h = omega (arith, row_small y)
rows-small (y ∷ (x ∷ [])) h = omega (arith, row_small y, row_small x)
rows-small (z ∷ (y ∷ (x ∷ ps))) h = absurd (omega arith)

pub part_small : {q : List ℕ} {ts : List Term} → Part q ts → twelfths_in ts < 12
part_small {q} {ts} p = twelfths-small ts (terms-proper p.spelt)

ranks-small : {front : List ℕ} (ps : List (List Term)) → Done front ps → length ps ≤ 2 → ranks ps < 144
unfolding ranks
ranks-small [] h few = omega arith
ranks-small (y ∷ []) (more nothing p) few = omega (arith, part_small p)
ranks-small (y ∷ (x ∷ [])) (more (more nothing p) q) few = omega (arith, part_small p, part_small q)
ranks-small (z ∷ (y ∷ (x ∷ ps))) h few = absurd (omega arith)

-- What has been read of a part has terms as the rules ask.
front-proper : {q : List ℕ} {ts : List Term} {n : Bool} → Front q ts n → (b : Body) → Proper b → used b ts ≡ false → Propers ts
front-proper f b proper fresh = (terms-proper (f.more-terms [] none b proper fresh)).1

fraction-proper : {q : List ℕ} {ts : List Term} {n : Bool} {m : ℕ} {digits : List ℕ} → InFraction q ts n m digits → Propers ts
fraction-proper f = front-proper f.opens (fraction 1 2) (omega arith, omega arith, here refl) f.fresh

ends-proper : (q : List ℕ) (ts : List Term) (m : Mode) → Ends q ts m → Propers ts
ends-proper q ts Start (h, e) = subst Propers (sym e) tt
ends-proper q ts (Owed n) (f, e) = let u = unused-some ts e in front-proper f u.body u.proper u.fresh
ends-proper q ts Told p = terms-proper p.spelt
ends-proper q ts (Numerator n m) f = fraction-proper f
ends-proper q ts (Behind n m) f = fraction-proper f
ends-proper q ts (Twelfth n m) f = fraction-proper f

-- What is held stays within three rows and three twelfths.
pub begun-within : (text : List ℕ) (s : Reading) → Begun text s → Within (numbers_of s)
begun-within text s h =
    let proper = ends-proper h.part s.terms s.mode h.ends in (
      omega (arith, rows-small s.done h.few, row_small s.terms),
      omega (arith, ranks-small s.done h.finished h.few, twelfths-small s.terms proper),
    )

-- ---- one step

-- A fraction's twelfths, as the code multiplies them.
unit-twelfths : (m d : ℕ) → one_digit d ≡ true → (12 * m / d ≡ m * unit_of d) × (eqb (unit_of d) 0 ≡ false)
unfolding one_digit unit_of
unit-twelfths m d = go (eqb d 2) (eqb d 3) (eqb d 4) (eqb d 6) refl refl refl refl
  where
    go : (a b c e : Bool) → eqb d 2 ≡ a → eqb d 3 ≡ b → eqb d 4 ≡ c → eqb d 6 ≡ e → (a || (b || (c || e))) ≡ true
        → (12 * m / d ≡ m * cond a 6 (cond b 4 (cond c 3 (cond e 2 0)))) × (eqb (cond a 6 (cond b 4 (cond c 3 (cond e 2 0)))) 0 ≡ false)
    go true b c e is j k l h = (rw (eqb-true d 2 is) (omega arith), refl)
    go false true c e i is k l h = (rw (eqb-true d 3 is) (omega arith), refl)
    go false false true e i j is l h = (rw (eqb-true d 4 is) (omega arith), refl)
    go false false false true i j k is h = (rw (eqb-true d 6 is) (omega arith), refl)
    go false false false false i j k l h = absurd (true≢false (sym h))

no-unit : (d : ℕ) → one_digit d ≡ false → unit_of d ≡ 0
unfolding one_digit unit_of
no-unit d = go (eqb d 2) (eqb d 3) (eqb d 4) (eqb d 6)
  where
    go : (a b c e : Bool) → (a || (b || (c || e))) ≡ false → ◌≡◌ {A = ℕ} (cond a 6 (cond b 4 (cond c 3 (cond e 2 0)))) 0
    go true b c e h = absurd (true≢false h)
    go false true c e h = absurd (true≢false h)
    go false false true e h = absurd (true≢false h)
    go false false false true h = absurd (true≢false h)
    go false false false false h = refl

module _ (s : Reading) (proper : Propers s.terms) where
  abbrev held : State
  held = numbers_of s

  column-digit : (l : Letter) → column_of held.code l ≡ digit_in l s.terms
  unfolding column_of
  column-digit X = omega (arith, digit-small X s.terms, digit-small Y s.terms, digit-small Z s.terms)
  column-digit Y = omega (arith, digit-small X s.terms, digit-small Y s.terms, digit-small Z s.terms)
  column-digit Z = omega (arith, digit-small X s.terms, digit-small Y s.terms, digit-small Z s.terms)

  last-twelfths : held.rank % 12 ≡ twelfths_in s.terms
  last-twelfths = omega (arith, twelfths-small s.terms proper)

  letter-code : (n : Bool) (l : Letter) → digit_in l s.terms ≡ 1
      → cond n (held.code - weight_of l) (held.code + weight_of l) ≡ rows_code s.done * 27 + row_code (signed n (letter l) ∷ s.terms)
  unfolding digit_in digit_then
  letter-code true X e = omega arith
  letter-code true Y e = omega arith
  letter-code true Z e = omega arith
  letter-code false X e = omega arith
  letter-code false Y e = omega arith
  letter-code false Z e = omega arith

  letter-held : (n : Bool) (l : Letter) → letter_numbers held n l ≡ numbers_next (with_letter s n l)
  unfolding letter_numbers with_letter twelfths_in twelfths_then
  letter-held n l = rw (column-digit l, used-letter l s.terms) (go (eqb (digit_in l s.terms) 1) refl)
    where
      go : (t : Bool) → eqb (digit_in l s.terms) 1 ≡ t
          → cond t (told_numbers held (cond n (held.code - weight_of l) (held.code + weight_of l)) held.rank) None
          ≡ numbers_next (cond (not t) stopped (told s n (letter l)))
      go true e = ap (λ (c : ℕ). told_numbers held c held.rank) (letter-code n l (eqb-true (digit_in l s.terms) 1 e))
      go false e = refl

  numerator-held : (n : Bool) (m : ℕ) → numerator_numbers held n m ≡ numbers_next (with_numerator s n m)
  unfolding numerator_numbers with_numerator
  numerator-held n m = rw (last-twelfths, used-twelfths m 12 s.terms proper) (go (eqb m 0) (eqb (twelfths_in s.terms) 0))
    where
      go : (t w : Bool) → cond t None (cond w (ending_numbers held (Numerator n m)) None)
          ≡ numbers_next (cond t stopped (cond (not w) stopped (ending s (Numerator n m))))
      go true w = refl
      go false true = refl
      go false false = refl

  begun-held : (n : Bool) (y : Symbol) → begun_numbers held n y ≡ numbers_next (begun s n y)
  unfolding begun
  begun-held n Space = refl
  begun-held n (Sign k) = refl
  begun-held n (Named l) = letter-held n l
  begun-held n (Digit m) = numerator-held n m
  begun-held n Slash = refl
  begun-held n Comma = refl
  begun-held n Foreign = refl

  start-held : (y : Symbol) → start_numbers held y ≡ numbers_next (at_start s y)
  unfolding at_start begun
  start-held Space = refl
  start-held (Sign n) = refl
  start-held (Named l) = begun-held false (Named l)
  start-held (Digit m) = begun-held false (Digit m)
  start-held Slash = refl
  start-held Comma = refl
  start-held Foreign = refl

  full-held : full_numbers held.code held.rank ≡ full s.terms
  unfolding full_numbers full
  full-held =
      rw (
        column-digit X,
        column-digit Y,
        column-digit Z,
        last-twelfths,
        used-letter X s.terms,
        used-letter Y s.terms,
        used-letter Z s.terms,
        used-twelfths 1 2 s.terms proper,
      )
      (go (eqb (digit_in X s.terms) 1) (eqb (digit_in Y s.terms) 1) (eqb (digit_in Z s.terms) 1) (eqb (twelfths_in s.terms) 0))
    where
      go : (a b c d : Bool) → cond a false (cond b false (cond c false (not d))) ≡ (not a && (not b && (not c && not d)))
      go true b c d = refl
      go false true c d = refl
      go false false true d = refl
      go false false false d = refl

  next-held : next_numbers held ≡ numbers_next (cond (ltb (length s.done) 2) (next_part s) stopped)
  unfolding next_numbers rows_code ranks digit_in twelfths_in
  next-held = go (ltb (length s.done) 2)
    where
      parts : length s.done + 1 ≡ suc (length s.done)
      parts = omega arith

      twelfths : held.rank * 12 ≡ held.rank * 12 + 0
      twelfths = omega arith

      go : (t : Bool) → cond t (Some (record { part = length s.done + 1; mode = Start; code = held.code * 27 + 13; rank = held.rank * 12 })) None
          ≡ numbers_next (cond t (next_part s) stopped)
      go true = λ i. Some (record { part = parts i; mode = Start; code = held.code * 27 + 13; rank = twelfths i })
      go false = refl

  term-held : (y : Symbol) → term_numbers held y ≡ numbers_next (after_term s y)
  unfolding after_term
  term-held Space = refl
  term-held (Sign n) = rw full-held (go (full s.terms))
    where
      go : (t : Bool) → cond t None (ending_numbers held (Owed n)) ≡ numbers_next (cond t stopped (ending s (Owed n)))
      go true = refl
      go false = refl
  term-held (Named l) = refl
  term-held (Digit m) = refl
  term-held Slash = refl
  term-held Comma = next-held
  term-held Foreign = refl

  numerator-on : (n : Bool) (m : ℕ) (y : Symbol) → after_numbers held n m y ≡ numbers_next (after_numerator s n m y)
  unfolding after_numerator second_numbers
  numerator-on n m Space = refl
  numerator-on n m (Sign k) = refl
  numerator-on n m (Named l) = refl
  numerator-on n m (Digit d) = go (eqb m 1) (ltb d 2)
    where
      go : (t w : Bool) → cond t (cond w (ending_numbers held (Numerator n (10 + d))) None) None
          ≡ numbers_next (cond (t && w) (ending s (Numerator n (10 + d))) stopped)
      go true true = refl
      go true false = refl
      go false w = refl
  numerator-on n m Slash = refl
  numerator-on n m Comma = refl
  numerator-on n m Foreign = refl

  module _ (n : Bool) (m : ℕ) (fresh : used (fraction 1 2) s.terms ≡ false) where
    no-twelfths : twelfths_in s.terms ≡ 0
    no-twelfths = eqb-true (twelfths_in s.terms) 0 (not-false (eqb (twelfths_in s.terms) 0) (sym (used-twelfths 1 2 s.terms proper) ∙ fresh))

    fraction-held : (d t : ℕ) → 12 * m / d ≡ t → fraction_numbers held n t ≡ numbers_next (told s n (fraction m d))
    unfolding fraction_numbers twelfths_in twelfths_then digit_in digit_then
    fraction-held d t e = ap (told_numbers held held.code) (go n)
      where
        go : (n : Bool) → held.rank + cond n (12 - t) t ≡ ranks s.done * 12 + fraction_twelfths n m d
        go true = omega (arith, no-twelfths)
        go false = omega (arith, no-twelfths)

    over-held : (d : ℕ) → over_numbers held n m d ≡ numbers_next (over_digit s n m d)
    unfolding over_numbers over_digit with_fraction
    over-held d = go (eqb d 1) (one_digit d) refl
      where
        less : (w : Bool) → 12 * m / d ≡ m * unit_of d
            → cond w (fraction_numbers held n (m * unit_of d)) None ≡ numbers_next (cond w (told s n (fraction m d)) stopped)
        less true e = fraction-held d (m * unit_of d) e
        less false e = refl

        go : (t w : Bool) → one_digit d ≡ w
            → cond t (ending_numbers held (Twelfth n m)) (cond (eqb (unit_of d) 0) None (cond (ltb m d) (fraction_numbers held n (m * unit_of d)) None))
            ≡ numbers_next (cond t (ending s (Twelfth n m)) (cond w (cond (ltb m d) (told s n (fraction m d)) stopped) stopped))
        go true w e = refl
        go false true e =
            let u = unit-twelfths m d e in
            rw u.1 (less (ltb m d) u.0)
        go false false e = rw (no-unit d e)

    slash-held : (y : Symbol) → slash_numbers held n m y ≡ numbers_next (after_slash s n m y)
    unfolding after_slash
    slash-held Space = refl
    slash-held (Sign k) = refl
    slash-held (Named l) = refl
    slash-held (Digit d) = over-held d
    slash-held Slash = refl
    slash-held Comma = refl
    slash-held Foreign = refl

    twelve-held : (d : ℕ) → twelve_numbers held n m d ≡ numbers_next (cond (eqb d 2) (with_fraction s n m 12) stopped)
    unfolding twelve_numbers with_fraction
    twelve-held d = go (eqb d 2) (ltb m 12)
      where
        go : (t w : Bool) → cond t (cond w (fraction_numbers held n m) None) None ≡ numbers_next (cond t (cond w (told s n (fraction m 12)) stopped) stopped)
        go true true = fraction-held 12 m (omega arith)
        go true false = refl
        go false w = refl

    one-held : (y : Symbol) → one_numbers held n m y ≡ numbers_next (after_one s n m y)
    unfolding after_one
    one-held Space = refl
    one-held (Sign k) = refl
    one-held (Named l) = refl
    one-held (Digit d) = twelve-held d
    one-held Slash = refl
    one-held Comma = refl
    one-held Foreign = refl

  held_by : (q : List ℕ) (m : Mode) (y : Symbol) → Ends q s.terms m → numbers_by held m y ≡ numbers_next (step_by s m y)
  unfolding step_by
  held_by q Start y h = start-held y
  held_by q (Owed n) y h = begun-held n y
  held_by q Told y h = term-held y
  held_by q (Numerator n m) y h = numerator-on n m y
  held_by q (Behind n m) y h = slash-held n m h.fresh y
  held_by q (Twelfth n m) y h = one-held n m h.fresh y

-- A step on the numbers is the reading's.
pub step-held : (text : List ℕ) (s : Reading) (b : ℕ) → Begun text s → step_numbers (numbers_of s) b ≡ numbers_next (step s b)
step-held text s b h = held_by s (ends-proper h.part s.terms s.mode h.ends) h.part s.mode (symbol_of b) h.ends
