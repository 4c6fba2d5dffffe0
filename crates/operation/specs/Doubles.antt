-- A translation as three doubles, each the single division k / 12, and the way back, which takes the twelve bit patterns alone.
-- At the end: the patterns are those of the quotients, and the two ways undo each other.
use Rattle.std.specs.Prelude.{◌≡◌, refl, ◌↔◌, Bool, true, false, cond, List, [], ◌∷◌, map, ℕ, zero, suc, ◌+◌, ◌<◌, T, eqb, ltb, Float, pos, length, get_or, Option, Some, None, Err, Ok, Result}
use Rattle.std.proofs.Common.{sym, ◌∙◌, ap, arith, eqb-true, lt-ltb, ltb-true}
use Rattle.std.specs.Int.Count.{count_trailing_zeros}
use Rattle.std.specs.Float.{binary64}
use Rattle.std.specs.Float.Ieee.{to_bits, of_bits, of_fields, of_int, div, round, size, units, odd, span, climb, fits}
use Rattle.std.specs.Float.Ieee.Bits.{of_bits-to_bits}
use Rattle.std.specs.Float.Ieee.Fits.{div-fits}
use Rattle.operation.specs.Answer.{Answer, given, refused}
use Rattle.operation.specs.Below.{all_below, below}
use Rattle.operation.specs.declared.Translation.{Translation}
use Rattle.operation.specs.declared.doubles.Doubles.{Doubles}
use Rattle.operation.specs.declared.doubles.OffGrid.{OffGrid}

-- k / 12 in binary64, rounded once.
unfoldable pub quotient : ℕ → Float
quotient k = div binary64 (of_int binary64 (pos k)) (of_int binary64 (pos 12))

-- Each coordinate divided by 12, whatever it is.
unfoldable pub doubles_of : Translation → Doubles
doubles_of t = record { x = quotient t.x; y = quotient t.y; z = quotient t.z }

-- The bits of 0/12, 1/12, .., 11/12.
unfoldable pub patterns : List ℕ
patterns =
    0 ∷
    4590669220166325589 ∷
    4595172819793696085 ∷
    4598175219545276416 ∷
    4599676419421066581 ∷
    4601177619296856747 ∷
    4602678819172646912 ∷
    4603429419110541995 ∷
    4604180019048437077 ∷
    4604930618986332160 ∷
    4605681218924227243 ∷
    4606431818862122325 ∷
    []

-- The place of b in a list, or the list's length.
unfoldable pub place_in : List ℕ → ℕ → ℕ
place_in [] b = 0
place_in (p ∷ ps) b = cond (eqb b p) 0 (suc (place_in ps b))

-- The number of twelfths that a component is, or 12 where it is off the grid.
unfoldable pub twelfths_of : Float → ℕ
twelfths_of v = place_in patterns (to_bits binary64 v)

-- Whether a component is one of the twelve.
abbrev pub is_on_grid : Float → Bool
is_on_grid v = ltb (twelfths_of v) 12

-- The number of a component that is one of the twelve.
unfoldable pub grid_number : Float → Option ℕ
grid_number v = cond (is_on_grid v) (Some (twelfths_of v)) None

-- What it says of the component.
pub number-on-grid : (v : Float) (k : ℕ) → grid_number v ≡ Some k → (is_on_grid v ≡ true) × (k ≡ twelfths_of v)
unfolding grid_number
number-on-grid v k e = go (is_on_grid v) e
  where
    go : (b : Bool) → cond b (Some (twelfths_of v)) None ≡ Some k → (b ≡ true) × (k ≡ twelfths_of v)
    go true h = (refl, cc)
    go false h = cc

pub number-off-grid : (v : Float) → grid_number v ≡ None → is_on_grid v ≡ false
unfolding grid_number
number-off-grid v e = go (is_on_grid v) e
  where
    go : (b : Bool) → cond b (Some (twelfths_of v)) None ≡ None → b ≡ false
    go true h = cc
    go false h = refl

-- Refusal 16 of R8: the place is the component's index, and the component comes along.
abbrev pub off_grid : ℕ → Float → Answer Translation Float
off_grid index v = refused 16 index v

-- What is right for any three doubles: the first component off the grid is the one that is told.
unfoldable pub on_grid : Doubles → Answer Translation Float
on_grid d =
    cond (is_on_grid d.x)
    (cond (is_on_grid d.y)
    (cond (is_on_grid d.z) (given (record { x = twelfths_of d.x; y = twelfths_of d.y; z = twelfths_of d.z })) (off_grid 2 d.z))
    (off_grid 1 d.y))
    (off_grid 0 d.x)

-- What each answer of the code says in the numbers of R8.
unfoldable pub grid_answer : Result Translation OffGrid → Answer Translation Float
grid_answer (Ok t) = given t
grid_answer (Err off) = off_grid off.index off.component

-- Two answers of the code that say the same are the same.
pub one-grid-answer : (g h : Result Translation OffGrid) → grid_answer g ≡ grid_answer h → g ≡ h
unfolding grid_answer
one-grid-answer (Ok t) (Ok u) e = cc
one-grid-answer (Ok t) (Err p) e = cc
one-grid-answer (Err o) (Ok u) e = cc
one-grid-answer (Err o) (Err p) e =
    let a : o.index ≡ p.index = cc in let b : o.component ≡ p.component = cc in ap Err (λ i. record { index = a i; component = b i })

-- ---- the patterns
-- f i, f (i + 1), .., n values.
unfoldable pub values_from : (ℕ → ℕ) → ℕ → ℕ → List ℕ
values_from f i zero = []
values_from f i (suc n) = f i ∷ values_from f (suc i) n

-- The patterns are the bits of the twelve quotients.
pub patterns-right : patterns ≡ values_from (λ k. to_bits binary64 (quotient k)) 0 12
unfolding patterns quotient values_from to_bits div of_int round size units odd span climb count_trailing_zeros
patterns-right = refl

-- The value at place k is that of i + k.
values-at : (f : ℕ → ℕ) (n i k : ℕ) → k < n → get_or (values_from f i n) k 0 ≡ f (i + k)
unfolding values_from
values-at f zero i k h = absurd (omega arith)
values-at f (suc n) i zero h = ap f (omega arith)
values-at f (suc n) i (suc k) h = values-at f n (suc i) k (omega arith) ∙ ap f (omega arith)

-- The pattern at place k is that of k / 12.
pattern-at : (k : ℕ) → k < 12 → get_or patterns k 0 ≡ to_bits binary64 (quotient k)
pattern-at k h =
    ap (λ (l : List ℕ). get_or l k 0) patterns-right ∙ values-at (λ k. to_bits binary64 (quotient k)) 12 0 k h
    ∙ ap (λ (n : ℕ). to_bits binary64 (quotient n)) (omega arith)

-- ---- there and back
-- The fact of `number-of-quotient`, at all twelve.
number-test : all_below 12 (λ k. eqb (twelfths_of (quotient k)) k) ≡ true
unfolding all_below twelfths_of place_in patterns quotient to_bits div of_int round size units odd span climb count_trailing_zeros
number-test = refl

-- The number of k / 12 is k.
pub number-of-quotient : (k : ℕ) → k < 12 → twelfths_of (quotient k) ≡ k
number-of-quotient k h = eqb-true _ _ (below 12 (λ k. eqb (twelfths_of (quotient k)) k) number-test k h)

-- Every translation in 0..11 comes back.
pub there_and_back : (t : Translation) → t.x < 12 → t.y < 12 → t.z < 12 → on_grid (doubles_of t) ≡ given t
unfolding on_grid doubles_of
there_and_back t hx hy hz =
    simp (number-of-quotient t.x hx, number-of-quotient t.y hy, number-of-quotient t.z hz, lt-ltb _ _ hx, lt-ltb _ _ hy, lt-ltb _ _ hz)

-- One step of `place_found`: the head is hit, or the place is one further in the rest.
found-step : (hit : Bool) (p b : ℕ) (ps : List ℕ) → eqb b p ≡ hit → (place_in ps b < length ps → get_or ps (place_in ps b) 0 ≡ b)
    → cond hit 0 (suc (place_in ps b)) < suc (length ps) → get_or (p ∷ ps) (cond hit 0 (suc (place_in ps b))) 0 ≡ b
found-step true p b ps h rest l = sym (eqb-true b p h)
found-step false p b ps h rest l = rest (omega arith)

-- What has a place in a list stands there.
place_found : (l : List ℕ) (b : ℕ) → place_in l b < length l → get_or l (place_in l b) 0 ≡ b
unfolding place_in
place_found [] b h = absurd (omega arith)
place_found (p ∷ ps) b h = found-step (eqb b p) p b ps refl (place_found ps b) h

-- Two values of binary64 with the same bits are one.
same_bits : (v w : Float) → T (fits binary64 v) → T (fits binary64 w) → to_bits binary64 v ≡ to_bits binary64 w → v ≡ w
same_bits v w hv hw e = sym (of_bits-to_bits binary64 v hv) ∙ ap (of_bits binary64) e ∙ of_bits-to_bits binary64 w hw

-- A quotient is a value of binary64.
quotient_fits : (k : ℕ) → T (fits binary64 (quotient k))
unfolding quotient
quotient_fits k = div-fits binary64 (of_int binary64 (pos k)) (of_int binary64 (pos 12))

-- A component on the grid is the quotient of its number.
pub quotient-of-number : (v : Float) → T (fits binary64 v) → twelfths_of v < 12 → quotient (twelfths_of v) ≡ v
unfolding twelfths_of patterns
quotient-of-number v hv h =
    same_bits _ v (quotient_fits (twelfths_of v)) hv (sym (pattern-at (twelfths_of v) h) ∙ place_found patterns (to_bits binary64 v) h)

-- A translation is the answer only where all three components are on the grid.
all-on-grid : (a b c : Bool) (s t : Translation) (u v w : Float) → cond a (cond b (cond c (given s) (off_grid 2 w)) (off_grid 1 v)) (off_grid 0 u) ≡ given t → (a ≡ true) × (b ≡ true) × (c ≡ true) × (s ≡ t)
all-on-grid true true true s t u v w e = (refl, refl, refl, cc)
all-on-grid true true false s t u v w e = let z : ◌≡◌ {A = ℕ} 0 1 = cc in absurd (omega arith)
all-on-grid true false c s t u v w e = let z : ◌≡◌ {A = ℕ} 0 1 = cc in absurd (omega arith)
all-on-grid false b c s t u v w e = let z : ◌≡◌ {A = ℕ} 0 1 = cc in absurd (omega arith)

-- Three doubles of binary64.
abbrev pub AreDoubles : Doubles → Type 0
AreDoubles d = T (fits binary64 d.x) × T (fits binary64 d.y) × T (fits binary64 d.z)

-- Whatever the way back accepts is the doubles of its answer, which is in 0..11.
pub back-and-there : (d : Doubles) (t : Translation) → AreDoubles d → on_grid d ≡ given t → (doubles_of t ≡ d) × (t.x < 12) × (t.y < 12) × (t.z < 12)
unfolding on_grid doubles_of
back-and-there d t f e =
    let on = all-on-grid (is_on_grid d.x) (is_on_grid d.y) (is_on_grid d.z) _ t d.x d.y d.z e in
    let hx = ltb-true (twelfths_of d.x) 12 on.0 in
    let hy = ltb-true (twelfths_of d.y) 12 on.1 in
    let hz = ltb-true (twelfths_of d.z) 12 on.2 in
    rw (← on.3) (rw (quotient-of-number d.x f.0 hx, quotient-of-number d.y f.1 hy, quotient-of-number d.z f.2 hz) (refl, hx, hy, hz))

-- One of the twelve bit patterns: those of 0/12, 1/12, .., 11/12.
abbrev pub OnGrid : Float → Type 0
OnGrid v = (k : ℕ) × (k < 12) × (to_bits binary64 v ≡ to_bits binary64 (quotient k))

-- The test of a component says whether it has one of them.
pub on-grid : (v : Float) → (is_on_grid v ≡ true) ↔ OnGrid v
unfolding twelfths_of patterns
on-grid v = (
  (λ e.
      let h = ltb-true (twelfths_of v) 12 e in
      (twelfths_of v, h, sym (place_found patterns (to_bits binary64 v) h) ∙ pattern-at (twelfths_of v) h)),
  λ (k, h, e). let same : twelfths_of v ≡ k = ap (place_in patterns) e ∙ number-of-quotient k h in lt-ltb (twelfths_of v) 12 (omega arith),
)

-- ---- what is off the grid
-- The bits of −0, of 1, of the smallest subnormal, of the infinities and of a NaN.
unfoldable pub strangers : List ℕ
strangers =
    9223372036854775808 ∷
    4607182418800017408 ∷
    1 ∷
    9218868437227405312 ∷
    18442240474082181120 ∷
    9221120237041090560 ∷
    []

-- None of these is on the grid.
pub strangers-off : map (λ b. is_on_grid (of_bits binary64 b)) strangers ≡ false ∷ false ∷ false ∷ false ∷ false ∷ false ∷ []
unfolding strangers twelfths_of place_in patterns to_bits of_bits of_fields size odd span climb count_trailing_zeros
strangers-off = refl
