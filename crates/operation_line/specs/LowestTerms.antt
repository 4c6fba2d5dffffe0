-- Twelfths as fractions in lowest terms: one test over all numerators and denominators says which fractions are, and that the table of the writer has
-- exactly these.
use Rattle.std.specs.Prelude.{◌≡◌, refl, Bool, true, false, cond, not, ◌&&◌, ℕ, zero, suc, ◌+◌, ◌-◌, ◌*◌, ◌/◌, ◌%◌, ◌<◌, ◌≤◌, eqb, ltb, leb, get_or}
use Rattle.std.proofs.Common.{sym, ◌∙◌, ap, ap₂, true≢false, arith, mod-eq_of_lt, ltb-true, ltb-false, lt-ltb, leb-true, le-leb, eqb-true, eq-eqb}
use Rattle.std.proofs.Math.Bool.{and-eq-true_iff}
use mathlib.Core.List.Memᴰ.{head as here}
use mathlib.Core.List.Memᴰ.{tail as there}
use mathlib.Core.List.{List, [], ◌∷◌, Memᴰ as Mem}
use Rattle.operation.specs.Below.{all_below, below}
use Rattle.operation_line.specs.Spelling.{fraction, signed, denominators, Proper}
use Rattle.operation_line.specs.Writing.{numerators, divisors, fraction_term}

-- No number from 2 on divides both.
pub record Lowest (p q : ℕ) : Type 0 where
  pub proper : Proper (fraction p q)
  pub coprime : (d : ℕ) → 2 ≤ d → p % d ≡ 0 → ¬ (q % d ≡ 0)

-- ---- the test
is_in : ℕ → List ℕ → Bool
is_in n [] = false
is_in n (m ∷ l) = cond (eqb n m) true (is_in n l)

-- Whether d + 2 does not divide both.
parted : ℕ → ℕ → ℕ → Bool
parted p q d = not (eqb (p % (d + 2)) 0 && eqb (q % (d + 2)) 0)

is_lowest : ℕ → ℕ → Bool
is_lowest p q = leb 1 p && (ltb p q && (is_in q denominators && all_below 11 (parted p q)))

either : (t b : Bool) → b ≡ true → cond t true b ≡ true
either true b h = refl
either false b h = h

is-in : (n : ℕ) (l : List ℕ) → Mem n l → is_in n l ≡ true
unfolding is_in
is-in n (m ∷ l) (here e) = rw (eq-eqb n m e) refl
is-in n (m ∷ l) (there h) = either (eqb n m) (is_in n l) (is-in n l h)
is-in n [] x' = elim x' [ ]

first-or-later : (n m : ℕ) (l : List ℕ) (t b : Bool) → eqb n m ≡ t → (b ≡ true → Mem n l) → cond t true b ≡ true → Mem n (m ∷ l)
first-or-later n m l true b h later k = here (eqb-true n m h)
first-or-later n m l false b h later k = there (later k)

in_is : (n : ℕ) (l : List ℕ) → is_in n l ≡ true → Mem n l
unfolding is_in
in_is n [] e = absurd (true≢false (sym e))
in_is n (m ∷ l) e = first-or-later n m l (eqb n m) (is_in n l) refl (in_is n l) e

-- A test that passes at each number below n passes at all.
all-below : (n : ℕ) (f : ℕ → Bool) → ((k : ℕ) → k < n → f k ≡ true) → all_below n f ≡ true
unfolding all_below
all-below zero f h = refl
all-below (suc n) f h = rw (h n (omega arith), all-below n f (λ k l. h k (omega arith))) refl

not-both : (a b : Bool) → (a ≡ true → ¬ (b ≡ true)) → not (a && b) ≡ true
not-both true true h = absurd (h refl refl)
not-both true false h = refl
not-both false b h = refl

both-not : (a b : Bool) → not (a && b) ≡ true → a ≡ true → ¬ (b ≡ true)
both-not true true h p q = true≢false (sym h)
both-not true false h p q = true≢false (sym q)
both-not false b h p q = true≢false (sym p)

lowest-tested : (p q : ℕ) → Lowest p q → is_lowest p q ≡ true
unfolding is_lowest parted
lowest-tested p q l =
    let (some, less, in_List) = l.proper in
    let each : all_below 11 (parted p q) ≡ true =
    all-below 11 (parted p q) (λ d h. not-both _ _ (λ a b. l.coprime (d + 2) (omega arith) (eqb-true _ 0 a) (eqb-true _ 0 b))) in
    rw (le-leb 1 p some, lt-ltb p q less, is-in q denominators in_List, each) refl

pub at-most-twelve : (q : ℕ) → Mem q denominators → q ≤ 12
at-most-twelve q (here e) = omega arith
at-most-twelve q (there (here e)) = omega arith
at-most-twelve q (there (there (here e))) = omega arith
at-most-twelve q (there (there (there (here e)))) = omega arith
at-most-twelve q (there (there (there (there (here e))))) = omega arith
at-most-twelve q (there (there (there (there (there x20))))) = elim x20 [ ]

tested-lowest : (p q : ℕ) → is_lowest p q ≡ true → Lowest p q
unfolding is_lowest parted
tested-lowest p q h =
    let (a, r) = (and-eq-true_iff (leb 1 p) _).0 h in
    let (b, s) = (and-eq-true_iff (ltb p q) _).0 r in
    let (c, d) = (and-eq-true_iff (is_in q denominators) _).0 s in
    let some = leb-true 1 p a in
    let less = ltb-true p q b in
    let in_List = in_is q denominators c in
    record {
      proper = (some, less, in_List);
      coprime = λ n two e f. by_size n two some less (at-most-twelve q in_List) d e f (ltb n 13) refl;
    }
  where
    large : (n : ℕ) → p < n → 1 ≤ p → p % n ≡ 0 → ⊥
    large n l some e = let same : p ≡ 0 = sym (mod-eq_of_lt l) ∙ e in absurd (omega arith)

    narrow : (n : ℕ) → 2 ≤ n → n < 13 → all_below 11 (parted p q) ≡ true → p % n ≡ 0 → q % n ≡ 0 → ⊥
    narrow n two l t e f =
        let back : n - 2 + 2 ≡ n = omega arith in
        both-not _ _ (below 11 (parted p q) t (n - 2) (omega arith)) (eq-eqb _ 0 (ap (λ m. p % m) back ∙ e)) (eq-eqb _ 0 (ap (λ m. q % m) back ∙ f))

    by_size : (n : ℕ) → 2 ≤ n → 1 ≤ p → p < q → q ≤ 12 → all_below 11 (parted p q) ≡ true → p % n ≡ 0 → q % n ≡ 0 → (t : Bool) → ltb n 13 ≡ t → ⊥
    by_size n two some less small d e f true h = narrow n two (ltb-true n 13 h) d e f
    by_size n two some less small d e f false h = let big = ltb-false n 13 h in large n (omega arith) some e

-- ---- the twelve
-- A fraction in lowest terms is the one that the table has for its twelfths.
in_table : ℕ → ℕ → Bool
in_table p q = cond (is_lowest p q) (eqb (get_or numerators (12 * p / q) 0) p && (eqb (get_or divisors (12 * p / q) 0) q && leb 1 (12 * p / q))) true

all-in-table : all_below 12 (λ p. all_below 13 (λ q. in_table p q)) ≡ true
unfolding all_below in_table is_lowest is_in parted
all-in-table = refl

term-by : (k p q : ℕ) → 1 ≤ k → get_or numerators k 0 ≡ p → get_or divisors k 0 ≡ q → fraction_term k ≡ signed false (fraction p q) ∷ []
term-by zero p q h a b = absurd (omega arith)
term-by (suc k) p q h a b = ap₂ (λ (m n : ℕ). signed false (fraction m n) ∷ []) a b

pub lowest-term : (p q : ℕ) → Lowest p q → fraction_term (12 * p / q) ≡ signed false (fraction p q) ∷ []
unfolding in_table
lowest-term p q l =
    let (some, less, in_List) = l.proper in
    let small = at-most-twelve q in_List in
    let tested : in_table p q ≡ true =
    below 13 (λ q. in_table p q) (below 12 (λ p. all_below 13 (λ q. in_table p q)) all-in-table p (omega arith)) q (omega arith) in
    let found = rw (lowest-tested p q l) at tested in
    let (a, r) = (and-eq-true_iff (eqb (get_or numerators (12 * p / q) 0) p) _).0 found in
    let (b, s) = (and-eq-true_iff (eqb (get_or divisors (12 * p / q) 0) q) _).0 r in
    term-by (12 * p / q) p q (leb-true 1 _ s) (eqb-true _ p a) (eqb-true _ q b)

-- The table's fractions are in lowest terms.
table-lowest : all_below 11 (λ k. is_lowest (get_or numerators (k + 1) 0) (get_or divisors (k + 1) 0)) ≡ true
unfolding all_below is_lowest is_in parted
table-lowest = refl

pub twelfths-lowest : (k : ℕ) → suc k < 12 → Lowest (get_or numerators (suc k) 0) (get_or divisors (suc k) 0)
twelfths-lowest k h =
    let next : k + 1 ≡ suc k = omega arith in
    tested-lowest _ _ (rw next at (below 11 (λ k. is_lowest (get_or numerators (k + 1) 0) (get_or divisors (k + 1) 0)) table-lowest k (omega arith)))
