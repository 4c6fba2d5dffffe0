-- Whatever the reader has read begins a spelt line. For each state it is said which beginning: the finished parts, then spaces, terms, a sign with its
-- term owed, or a fraction begun. Each byte that is read makes one such beginning of another.
use Rattle.std.specs.Prelude.{◌≡◌, Bool, cond, ◌&&◌, ◌||◌, ℕ, zero, suc, ◌+◌, ◌-◌, ◌<◌, ◌≤◌, length}
use Rattle.std.proofs.Math.Path.{refl, sym, ap, subst}
use Rattle.std.proofs.Common.{◌∙◌, arith}
use Rattle.std.proofs.Math.Bool.{true, false}
use Rattle.std.proofs.lemmas.Bool.{false≢true}
use mathlib.Core.List.Memᴰ.{head as here}
use mathlib.Core.List.Memᴰ.{tail as there}
use mathlib.Core.List.{List, [], ◌∷◌, ◌++◌, append_assoc, append-nil, Memᴰ as Mem}
use Rattle.std.proofs.Math.Dec.{eqb, ltb}
use borrow.Author.Tests.{eqb-true, eqb-false, ltb-true, ltb-false, lt-ltb}
use Rattle.operation_line.specs.declared.Letter.{Letter}
use Rattle.operation_line.specs.declared.reader.Symbol.{Symbol}
use Rattle.operation_line.specs.declared.reader.Symbol.TheVariants.{Space, Sign, Named, Digit, Slash, Comma, Foreign}
use Rattle.operation_line.specs.declared.reader.Mode.{Mode}
use Rattle.operation_line.specs.declared.reader.Mode.TheVariants.{Start, Owed, Told, Numerator, Behind, Twelfth}
use Rattle.operation_line.specs.Spelling.{Body, letter, fraction, Term, signed, letter_byte, sign_byte, numeral, body_bytes, denominators, Proper, clash, used, Blank, none, space, Terms, blank, unsigned, then, Part}
use Rattle.operation_line.specs.Reading.{Entry, symbol_in, marks, digit_or, symbol_of, Reading, Reached, at, stopped, ending, told, with_letter, with_fraction, with_numerator, begun, at_start, full, next_part, after_term, after_numerator, one_digit, over_digit, after_slash, after_one, step_by, step, onwards, reach, begin}

-- ---- bytes and symbols

-- The byte of a symbol.
abbrev pub ByteOf : Symbol → ℕ → Type 0
ByteOf Space b = b ≡ 32
ByteOf (Sign n) b = b ≡ sign_byte n
ByteOf (Named l) b = b ≡ letter_byte l
ByteOf (Digit d) b = (b ≡ 48 + d) × (d ≤ 9)
ByteOf Slash b = b ≡ 47
ByteOf Comma b = b ≡ 44
ByteOf Foreign b = Unit {0}

-- At each entry of a table.
abbrev Entries : (Symbol → ℕ → Type 0) → List Entry → Type 0
Entries P [] = Unit {0}
Entries P (e ∷ es) = P e.says e.byte × Entries P es

entries-hold : (P : Symbol → ℕ → Type 0) (other : Symbol) (es : List Entry) (b : ℕ) → Entries P es → P other b → P (symbol_in other es b) b
unfolding symbol_in
entries-hold P other [] b h o = o
entries-hold P other (e ∷ es) b (h, rest) o = go (eqb b e.byte) refl (entries-hold P other es b rest o)
  where
    go : (t : Bool) → eqb b e.byte ≡ t → P (symbol_in other es b) b → P (cond t e.says (symbol_in other es b)) b
    go true is below = subst (P e.says) (sym (eqb-true b e.byte is)) h
    go false is below = below

digit-byte : (b : ℕ) → ByteOf (digit_or b) b
unfolding digit_or
digit-byte b = go (ltb b 48) refl (ltb 57 b) refl
  where
    go : (s : Bool) → ltb b 48 ≡ s → (t : Bool) → ltb 57 b ≡ t → ByteOf (cond s Foreign (cond t Foreign (Digit (b - 48)))) b
    go true h t k = tt
    go false h true k = tt
    go false h false k = (omega (arith, ltb-false b 48 h, ltb-false 57 b k), omega (arith, ltb-false b 48 h, ltb-false 57 b k))

pub symbol-byte : (b : ℕ) → ByteOf (symbol_of b) b
unfolding symbol_of
symbol-byte b = entries-hold ByteOf (digit_or b) marks b (refl, (refl, (refl, (refl, (refl, (refl, (refl, (refl, tt)))))))) (digit-byte b)

-- ---- spaces

blank-append : {s u : List ℕ} → Blank s → Blank u → Blank (s ++ u)
blank-append none h = h
blank-append (space g) h = space (blank-append g h)

blank-more : {s : List ℕ} → Blank s → Blank (s ++ (32 ∷ []))
blank-more h = blank-append h (space none)

terms-space : {p : List ℕ} {ts : List Term} → Terms p ts → Terms (p ++ (32 ∷ [])) ts
terms-space (blank h) = blank (blank-more h)
terms-space (unsigned h b proper k) = simp append_assoc (unsigned h b proper (blank-more k))
terms-space (then h n g b proper fresh k) = simp append_assoc (then h n g b proper fresh (blank-more k))

-- ---- fractions and letters that are used

-- Any fraction is used if one is.
pub used-fraction : (m d n e : ℕ) (ts : List Term) → used (fraction m d) ts ≡ used (fraction n e) ts
unfolding used
used-fraction m d n e [] = refl
used-fraction m d n e (t ∷ ts) = go t.body (used-fraction m d n e ts)
  where
    go : (b : Body) → used (fraction m d) ts ≡ used (fraction n e) ts
        → (clash (fraction m d) b || used (fraction m d) ts) ≡ (clash (fraction n e) b || used (fraction n e) ts)
    go (letter l) below = below
    go (fraction p q) below = refl

-- ---- beginnings

-- The finished parts, each with its comma.
pub data Done : List ℕ → List (List Term) → Type 0 where
  nothing : Done [] []
  more : {d p : List ℕ} {ps : List (List Term)} {ts : List Term} → Done d ps → Part p ts → Done (d ++ (p ++ (44 ∷ []))) (ts ∷ ps)

-- With spaces and any letter or fraction that is not used, these are the terms with one more.
pub record Front (text : List ℕ) (ts : List Term) (n : Bool) : Type 0 where
  pub more-terms : (u : List ℕ) → Blank u → (b : Body) → Proper b → used b ts ≡ false → Terms (text ++ (u ++ body_bytes b)) (signed n b ∷ ts)

-- A fraction's beginning, up to some bytes of it.
pub record InFraction (text : List ℕ) (ts : List Term) (n : Bool) (m : ℕ) (digits : List ℕ) : Type 0 where
  pub front : List ℕ
  pub split : text ≡ front ++ digits
  pub opens : Front front ts n
  pub fresh : used (fraction 1 2) ts ≡ false
  pub least : 1 ≤ m
  pub most : m ≤ 11

-- What has been read of a part.
abbrev pub Ends : List ℕ → List Term → Mode → Type 0
Ends q ts Start = Blank q × (ts ≡ [])
Ends q ts (Owed n) = Front q ts n × (full ts ≡ false)
Ends q ts Told = Part q ts
Ends q ts (Numerator n m) = InFraction q ts n m (numeral m)
Ends q ts (Behind n m) = InFraction q ts n m (numeral m ++ (47 ∷ []))
Ends q ts (Twelfth n m) = InFraction q ts n m (numeral m ++ (47 ∷ 49 ∷ []))

pub record Begun (text : List ℕ) (s : Reading) : Type 0 where
  pub front : List ℕ
  pub part : List ℕ
  pub split : text ≡ front ++ part
  pub finished : Done front s.done
  pub few : length s.done ≤ 2
  pub ends : Ends part s.terms s.mode

-- What is reached is a beginning.
abbrev pub Good : List ℕ → Reached → Type 0
Good text (at s) = Begun text s
Good text stopped = Unit {0}

-- ---- fronts

-- Before the first term a sign may be missing.
pub start-front : {q : List ℕ} → Blank q → Front q [] false
start-front h =
    record { more-terms = λ u g b proper fresh. simp (append_assoc, append-nil) at (unsigned (blank-append h g) b proper none) }

-- Behind terms a sign.
sign-front : {q : List ℕ} {ts : List Term} → Terms q ts → (n : Bool) → Front (q ++ (sign_byte n ∷ [])) ts n
sign-front h n =
    record { more-terms = λ u g b proper fresh. simp append_assoc (simp append-nil at (then h n g b proper fresh none)) }

space-front : {q : List ℕ} {ts : List Term} {n : Bool} → Front q ts n → Front (q ++ (32 ∷ [])) ts n
space-front h = record { more-terms = λ u g b proper fresh. simp append_assoc (h.more-terms (32 ∷ u) (space g) b proper fresh) }

-- A term closes.
pub closed : {q : List ℕ} {ts : List Term} {n : Bool} → Front q ts n → (b : Body) → Proper b → used b ts ≡ false → Part (q ++ body_bytes b) (signed n b ∷ ts)
closed h b proper fresh = record { spelt = h.more-terms [] none b proper fresh; some = λ e. let z : ◌≡◌ {A = ℕ} 0 1 = cc in absurd (omega arith) }

-- ---- digits

pub numeral-one : (m : ℕ) → m ≤ 9 → numeral m ≡ (48 + m) ∷ []
unfolding numeral
numeral-one m h = rw (lt-ltb m 10 (omega arith))

numeral-two : (d : ℕ) → d < 2 → numeral (10 + d) ≡ numeral 1 ++ ((48 + d) ∷ [])
unfolding numeral
numeral-two zero h = refl
numeral-two (suc zero) h = refl
numeral-two (suc (suc d)) h = absurd (omega arith)

one-digit : (d : ℕ) → one_digit d ≡ true → Mem d denominators
unfolding one_digit
one-digit d = go (eqb d 2) (eqb d 3) (eqb d 4) (eqb d 6) refl refl refl refl
  where
    go : (a b c e : Bool) → eqb d 2 ≡ a → eqb d 3 ≡ b → eqb d 4 ≡ c → eqb d 6 ≡ e → (a || (b || (c || e))) ≡ true → Mem d denominators
    go true b c e is j k l h = here (eqb-true d 2 is)
    go false true c e i is k l h = there (here (eqb-true d 3 is))
    go false false true e i j is l h = there (there (here (eqb-true d 4 is)))
    go false false false true i j k is h = there (there (there (here (eqb-true d 6 is))))
    go false false false false i j k l h = absurd (false≢true h)

-- ---- one byte more
module _ (text : List ℕ) (s : Reading) (b : ℕ) (h : Begun text s) where
  -- The byte belongs to the part.
  on : (ts : List Term) (m : Mode) → Ends (h.part ++ (b ∷ [])) ts m → Begun (text ++ (b ∷ [])) (record { done = s.done; terms = ts; mode = m })
  on ts m e =
      record {
        front = h.front;
        part = h.part ++ (b ∷ []);
        split = ap (λ (l : List ℕ). l ++ (b ∷ [])) h.split ∙ append_assoc h.front h.part (b ∷ []);
        finished = h.finished;
        few = h.few;
        ends = e;
      }

  -- The terms stay, and so does what stands at the end.
  stay : (m : Mode) → s.mode ≡ m → (c : ℕ) → b ≡ c → Ends (h.part ++ (c ∷ [])) s.terms m → Begun (text ++ (b ∷ [])) s
  stay m is c byte e =
      on s.terms s.mode (subst (Ends (h.part ++ (b ∷ [])) s.terms) (sym is) (subst (λ (d : ℕ). Ends (h.part ++ (d ∷ [])) s.terms m) (sym byte) e))

  letter-good : (n : Bool) (l : Letter) → b ≡ letter_byte l → Front h.part s.terms n → Good (text ++ (b ∷ [])) (with_letter s n l)
  unfolding with_letter
  letter-good n l is f = go (used (letter l) s.terms) refl
    where
      go : (t : Bool) → used (letter l) s.terms ≡ t → Good (text ++ (b ∷ [])) (cond t stopped (told s n (letter l)))
      go true e = tt
      go false e =
          on (signed n (letter l) ∷ s.terms) Told
          (subst (λ (c : ℕ). Part (h.part ++ (c ∷ [])) (signed n (letter l) ∷ s.terms)) (sym is) (closed f (letter l) tt e))

  numerator-good : (n : Bool) (m : ℕ) → b ≡ 48 + m → m ≤ 9 → Front h.part s.terms n → Good (text ++ (b ∷ [])) (with_numerator s n m)
  unfolding with_numerator
  numerator-good n m is small f = go (eqb m 0) refl (used (fraction m 12) s.terms) refl
    where
      go : (t : Bool) → eqb m 0 ≡ t → (w : Bool) → used (fraction m 12) s.terms ≡ w
          → Good (text ++ (b ∷ [])) (cond t stopped (cond w stopped (ending s (Numerator n m))))
      go true d w e = tt
      go false d true e = tt
      go false d false e =
          on s.terms (Numerator n m)
          (record {
            front = h.part;
            split = ap (λ (c : ℕ). h.part ++ (c ∷ [])) is ∙ ap (λ (l : List ℕ). h.part ++ l) (sym (numeral-one m small));
            opens = f;
            fresh = used-fraction 1 2 m 12 s.terms ∙ e;
            least = omega (arith, eqb-false m 0 d);
            most = omega arith;
          })

  begun-good : (n : Bool) (y : Symbol) → ByteOf y b → Front h.part s.terms n → (b ≡ 32 → Begun (text ++ (b ∷ [])) s)
      → Good (text ++ (b ∷ [])) (begun s n y)
  unfolding begun
  begun-good n Space is f k = k is
  begun-good n (Sign m) is f k = tt
  begun-good n (Named l) is f k = letter-good n l is f
  begun-good n (Digit m) is f k = numerator-good n m is.0 is.1 f
  begun-good n Slash is f k = tt
  begun-good n Comma is f k = tt
  begun-good n Foreign is f k = tt

  start-good : (y : Symbol) → ByteOf y b → Blank h.part → s.terms ≡ [] → s.mode ≡ Start → Good (text ++ (b ∷ [])) (at_start s y)
  unfolding at_start full used
  start-good y is g e m = go y is
    where
      front : Front h.part s.terms false
      front = subst (λ (ts : List Term). Front h.part ts false) (sym e) (start-front g)

      spaced : b ≡ 32 → Begun (text ++ (b ∷ [])) s
      spaced is = stay Start m 32 is (blank-more g, e)

      go : (y : Symbol) → ByteOf y b → Good (text ++ (b ∷ [])) (at_start s y)
      go Space is = begun-good false Space is front spaced
      go (Sign n) is =
          on s.terms (Owed n) (
            subst (λ (c : ℕ). Front (h.part ++ (c ∷ [])) s.terms n) (sym is) (sign-front (subst (Terms h.part) (sym e) (blank g)) n),
            ap full e,
          )
      go (Named l) is = begun-good false (Named l) is front spaced
      go (Digit d) is = begun-good false (Digit d) is front spaced
      go Slash is = tt
      go Comma is = tt
      go Foreign is = tt

  owed-good : (n : Bool) (y : Symbol) → ByteOf y b → Front h.part s.terms n → full s.terms ≡ false → s.mode ≡ Owed n
      → Good (text ++ (b ∷ [])) (begun s n y)
  owed-good n y is f e m = begun-good n y is f (λ byte. stay (Owed n) m 32 byte (space-front f, e))

  term-good : (y : Symbol) → ByteOf y b → Part h.part s.terms → s.mode ≡ Told → Good (text ++ (b ∷ [])) (after_term s y)
  unfolding after_term
  term-good Space is p m = stay Told m 32 is (record { spelt = terms-space p.spelt; some = p.some })
  term-good (Sign n) is p m = go (full s.terms) refl
    where
      go : (t : Bool) → full s.terms ≡ t → Good (text ++ (b ∷ [])) (cond t stopped (ending s (Owed n)))
      go true e = tt
      go false e = on s.terms (Owed n) (subst (λ (c : ℕ). Front (h.part ++ (c ∷ [])) s.terms n) (sym is) (sign-front p.spelt n), e)
  term-good (Named l) is p m = tt
  term-good (Digit d) is p m = tt
  term-good Slash is p m = tt
  term-good Comma is p m = go (ltb (length s.done) 2) refl
    where
      go : (t : Bool) → ltb (length s.done) 2 ≡ t → Good (text ++ (b ∷ [])) (cond t (next_part s) stopped)
      go true e =
          record {
            front = h.front ++ (h.part ++ (44 ∷ []));
            part = [];
            split = rw (h.split, is) (simp (append_assoc, append-nil));
            finished = more h.finished p;
            few = omega (arith, ltb-true (length s.done) 2 e);
            ends = (none, refl);
          }
      go false e = tt
  term-good Foreign is p m = tt

  module _ (n : Bool) (m : ℕ) where
    -- The bytes of a fraction with one more.
    within : (digits next : List ℕ) (m' : ℕ) → 1 ≤ m' → m' ≤ 11 → digits ++ (b ∷ []) ≡ next → InFraction h.part s.terms n m digits
        → InFraction (h.part ++ (b ∷ [])) s.terms n m' next
    within digits next m' least most e f =
        record {
          front = f.front;
          split = ap (λ (l : List ℕ). l ++ (b ∷ [])) f.split ∙ append_assoc f.front digits (b ∷ []) ∙ ap (λ (l : List ℕ). f.front ++ l) e;
          opens = f.opens;
          fresh = f.fresh;
          least = least;
          most = most;
        }

    numerator-more : (y : Symbol) → ByteOf y b → InFraction h.part s.terms n m (numeral m) → Good (text ++ (b ∷ [])) (after_numerator s n m y)
    unfolding after_numerator
    numerator-more Space is f = tt
    numerator-more (Sign k) is f = tt
    numerator-more (Named l) is f = tt
    numerator-more (Digit d) is f = go (eqb m 1) refl (ltb d 2) refl
      where
        go : (t : Bool) → eqb m 1 ≡ t → (w : Bool) → ltb d 2 ≡ w → Good (text ++ (b ∷ [])) (cond (t && w) (ending s (Numerator n (10 + d))) stopped)
        go true one true small =
            on s.terms (Numerator n (10 + d))
            (within (numeral m) (numeral (10 + d)) (10 + d) (omega arith) (omega (arith, ltb-true d 2 small))
            (ap (λ (k : ℕ). numeral k ++ (b ∷ [])) (eqb-true m 1 one) ∙ ap (λ (c : ℕ). numeral 1 ++ (c ∷ [])) is.0
            ∙ sym (numeral-two d (ltb-true d 2 small)))
            f)
        go true one false small = tt
        go false one w small = tt
    numerator-more Slash is f =
        on s.terms (Behind n m) (within (numeral m) (numeral m ++ (47 ∷ [])) m f.least f.most (ap (λ (c : ℕ). numeral m ++ (c ∷ [])) is) f)
    numerator-more Comma is f = tt
    numerator-more Foreign is f = tt

    -- A denominator's last byte.
    completes : (tail : List ℕ) (d : ℕ) → Mem d denominators → tail ++ (b ∷ []) ≡ 47 ∷ numeral d → InFraction h.part s.terms n m (numeral m ++ tail)
        → Good (text ++ (b ∷ [])) (with_fraction s n m d)
    unfolding with_fraction
    completes tail d member e f = go (ltb m d) refl
      where
        spelt : h.part ++ (b ∷ []) ≡ f.front ++ (numeral m ++ (47 ∷ numeral d))
        spelt =
            ap (λ (l : List ℕ). l ++ (b ∷ [])) f.split ∙ append_assoc f.front (numeral m ++ tail) (b ∷ [])
            ∙ ap (λ (l : List ℕ). f.front ++ l) (append_assoc (numeral m) tail (b ∷ []) ∙ ap (λ (l : List ℕ). numeral m ++ l) e)

        go : (t : Bool) → ltb m d ≡ t → Good (text ++ (b ∷ [])) (cond t (told s n (fraction m d)) stopped)
        go true less =
            on (signed n (fraction m d) ∷ s.terms) Told
            (subst (λ (l : List ℕ). Part l (signed n (fraction m d) ∷ s.terms)) (sym spelt)
            (closed f.opens (fraction m d) (f.least, ltb-true m d less, member) (used-fraction m d 1 2 s.terms ∙ f.fresh)))
        go false less = tt

    slash-more : (y : Symbol) → ByteOf y b → InFraction h.part s.terms n m (numeral m ++ (47 ∷ [])) → Good (text ++ (b ∷ [])) (after_slash s n m y)
    unfolding after_slash over_digit
    slash-more Space is f = tt
    slash-more (Sign k) is f = tt
    slash-more (Named l) is f = tt
    slash-more (Digit d) is f = go (eqb d 1) refl (one_digit d) refl
      where
        go : (t : Bool) → eqb d 1 ≡ t → (w : Bool) → one_digit d ≡ w
            → Good (text ++ (b ∷ [])) (cond t (ending s (Twelfth n m)) (cond w (with_fraction s n m d) stopped))
        go true one w e =
            on s.terms (Twelfth n m)
            (within (numeral m ++ (47 ∷ [])) (numeral m ++ (47 ∷ 49 ∷ [])) m f.least f.most
            (append_assoc (numeral m) (47 ∷ []) (b ∷ []) ∙ ap (λ (c : ℕ). numeral m ++ (47 ∷ c ∷ [])) (is.0 ∙ ap (λ (k : ℕ). 48 + k) (eqb-true d 1 one)))
            f)
        go false one true e =
            completes (47 ∷ []) d (one-digit d e) (ap (λ (c : ℕ). 47 ∷ c ∷ []) is.0 ∙ ap (λ (l : List ℕ). 47 ∷ l) (sym (numeral-one d is.1))) f
        go false one false e = tt
    slash-more Slash is f = tt
    slash-more Comma is f = tt
    slash-more Foreign is f = tt

    one_more : (y : Symbol) → ByteOf y b → InFraction h.part s.terms n m (numeral m ++ (47 ∷ 49 ∷ [])) → Good (text ++ (b ∷ [])) (after_one s n m y)
    unfolding after_one numeral
    one_more Space is f = tt
    one_more (Sign k) is f = tt
    one_more (Named l) is f = tt
    one_more (Digit d) is f = go (eqb d 2) refl
      where
        go : (t : Bool) → eqb d 2 ≡ t → Good (text ++ (b ∷ [])) (cond t (with_fraction s n m 12) stopped)
        go true two =
            let last = is.0 ∙ ap (λ (k : ℕ). 48 + k) (eqb-true d 2 two) in
            completes (47 ∷ 49 ∷ []) 12 (there (there (there (there (here refl))))) (ap (λ (c : ℕ). 47 ∷ 49 ∷ c ∷ []) last) f
        go false two = tt
    one_more Slash is f = tt
    one_more Comma is f = tt
    one_more Foreign is f = tt

  good-by : (m : Mode) → s.mode ≡ m → Ends h.part s.terms m → Good (text ++ (b ∷ [])) (step_by s m (symbol_of b))
  unfolding step_by
  good-by Start e f = start-good (symbol_of b) (symbol-byte b) f.0 f.1 e
  good-by (Owed n) e f = owed-good n (symbol_of b) (symbol-byte b) f.0 f.1 e
  good-by Told e f = term-good (symbol_of b) (symbol-byte b) f e
  good-by (Numerator n m) e f = numerator-more n m (symbol_of b) (symbol-byte b) f
  good-by (Behind n m) e f = slash-more n m (symbol_of b) (symbol-byte b) f
  good-by (Twelfth n m) e f = one_more n m (symbol_of b) (symbol-byte b) f

  pub good-step : Good (text ++ (b ∷ [])) (step s b)
  good-step = good-by s.mode refl h.ends

-- ---- all bytes

pub good-reach : (text more : List ℕ) (s : Reading) → Begun text s → Good (text ++ more) (reach more s)
unfolding reach onwards
good-reach text [] s h = subst (λ (l : List ℕ). Begun l s) (sym (append-nil text)) h
good-reach text (b ∷ bs) s h = go (step s b) (good-step text s b h) (λ s'. good-reach (text ++ (b ∷ [])) bs s')
  where
    go : (r : Reached) → Good (text ++ (b ∷ [])) r → ((s' : Reading) → Begun (text ++ (b ∷ [])) s' → Good ((text ++ (b ∷ [])) ++ bs) (reach bs s'))
        → Good (text ++ (b ∷ bs)) (onwards r (reach bs))
    go (at s') g next = subst (λ (l : List ℕ). Good l (reach bs s')) (append_assoc text (b ∷ []) bs) (next s' g)
    go stopped g next = tt

begin-good : Begun [] begin
begin-good = record { front = []; part = []; split = refl; finished = nothing; few = omega arith; ends = (none, refl) }

-- What is read begins a line, as its state says.
pub reached-begun : (text : List ℕ) (s : Reading) → reach text begin ≡ at s → Begun text s
reached-begun text s e = subst (Good text) e (good-reach [] text begin begin-good)
