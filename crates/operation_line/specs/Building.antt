-- How the code builds a line's text, term by term behind what stands already, and how long the pieces are.
use Rattle.std.specs.Prelude.{◌≡◌, refl, Bool, true, false, cond, List, [], ◌∷◌, ◌++◌, ℕ, zero, suc, ◌+◌, ◌/◌, ◌%◌, ◌<◌, ◌≤◌, eqb, ltb, length, get_or, take, drop, set}
use Rattle.std.proofs.Common.{sym, ◌∙◌, ap, append_assoc, append-nil, arith, ltb-true, lt-ltb, le-ltb, eq-eqb, ne_eqb, add-one, length-append, drop-cons, take-suc, length-take-le}
use Rattle.std.proofs.lemmas.List.{set_at}
use Rattle.operation.specs.Below.{all_below, below}
use Rattle.placed_text.specs.Placing.{Put, put_then, put-named}
use Rattle.operation_line.specs.declared.Letter.{Letter}
use Rattle.operation_line.specs.declared.Letter.TheVariants.{X, Y, Z}
use Rattle.operation_line.specs.Spelling.{Body, letter, fraction, Term, letter_byte, numeral, body_bytes}
use Rattle.operation_line.specs.Writing.{letter_term, numerators, divisors, twelfths, fraction_term, letters_of, row_terms, sign_bytes, is_empty, plain_bytes}

-- ---- the bytes of one term, by the entry's digit and by the twelfths
abbrev pub letter_bytes : Bool → ℕ → ℕ → List ℕ
letter_bytes first l zero = 45 ∷ l ∷ []
letter_bytes first l (suc zero) = []
letter_bytes first l (suc (suc d)) = sign_bytes first false ++ (l ∷ [])

abbrev pub fraction_bytes : Bool → ℕ → List ℕ
fraction_bytes first zero = []
fraction_bytes first (suc k) = sign_bytes first false ++ body_bytes (twelfths (suc k))

-- Behind the terms that stand.
pub letter-more : (ts : List Term) (l : Letter) (d : ℕ) → plain_bytes ts ++ letter_bytes (is_empty ts) (letter_byte l) d ≡ plain_bytes (letter_term l d ++ ts)
unfolding plain_bytes
letter-more ts l zero = refl
letter-more ts l (suc zero) = append-nil (plain_bytes ts)
letter-more ts l (suc (suc d)) = refl

pub fraction-more : (ts : List Term) (k : ℕ) → plain_bytes ts ++ fraction_bytes (is_empty ts) k ≡ plain_bytes (fraction_term k ++ ts)
unfolding plain_bytes
fraction-more ts zero = append-nil (plain_bytes ts)
fraction-more ts (suc k) = refl

-- With nothing before it.
pub first-letter : (l : Letter) (d : ℕ) → letter_bytes true (letter_byte l) d ≡ plain_bytes (letter_term l d)
unfolding plain_bytes
first-letter l zero = refl
first-letter l (suc zero) = refl
first-letter l (suc (suc d)) = refl

-- An entry other than 0 has a sign and its letter.
pub letter-signed : (first : Bool) (l d : ℕ) → ¬ (d ≡ 1) → sign_bytes first (eqb d 0) ++ (l ∷ []) ≡ letter_bytes first l d
letter-signed first l zero h = refl
letter-signed first l (suc zero) h = absurd (h refl)
letter-signed first l (suc (suc d)) h = rw (ne_eqb (suc (suc d)) 0 (λ e. absurd (omega arith))) refl

-- A translation other than 0 has a plus and its fraction.
pub fraction-signed : (first : Bool) (k : ℕ) → ¬ (k ≡ 0) → sign_bytes first false ++ body_bytes (twelfths k) ≡ fraction_bytes first k
fraction-signed first zero h = absurd (h refl)
fraction-signed first (suc k) h = refl

-- ---- lengths
pub sign-short : (first negative : Bool) → length (sign_bytes first negative) ≤ 1
sign-short true true = omega arith
sign-short false true = omega arith
sign-short true false = omega arith
sign-short false false = omega arith

pub letter-short : (first : Bool) (l d : ℕ) → length (letter_bytes first l d) ≤ 2
letter-short first l zero = omega arith
letter-short first l (suc zero) = omega arith
letter-short first l (suc (suc d)) = simp length-append (omega (arith, sign-short first false))

-- One digit or two.
pub one-digit : (n : ℕ) → n < 10 → ((48 + n) ∷ []) ≡ numeral n
unfolding numeral
one-digit n h = rw (lt-ltb n 10 h) refl

pub two_digits : (n : ℕ) → 10 ≤ n → ((48 + n / 10) ∷ (48 + n % 10) ∷ []) ≡ numeral n
unfolding numeral
two_digits n h = rw (le-ltb n 10 h) refl

pub numeral-short : (n : ℕ) → length (numeral n) ≤ 2
unfolding numeral
numeral-short n = by-test (ltb n 10)
  where
    by-test : (t : Bool) → length (cond t ((48 + n) ∷ []) ((48 + n / 10) ∷ (48 + n % 10) ∷ [])) ≤ 2
    by-test true = omega arith
    by-test false = omega arith

-- The numbers of the twelve fractions have at most two digits.
small_at : (l : List ℕ) → all_below 12 (λ i. ltb (get_or l i 0) 100) ≡ true → (k : ℕ) → k < 12 → get_or l k 0 < 100
small_at l tested k h = ltb-true _ 100 (below 12 (λ i. ltb (get_or l i 0) 100) tested k h)

pub numerator-small : (k : ℕ) → k < 12 → get_or numerators k 0 < 100
unfolding all_below
numerator-small k h = small_at numerators refl k h

pub divisor-small : (k : ℕ) → k < 12 → get_or divisors k 0 < 100
unfolding all_below
divisor-small k h = small_at divisors refl k h

pub fraction-short : (first : Bool) (k : ℕ) → length (fraction_bytes first k) ≤ 6
fraction-short first zero = omega arith
fraction-short first (suc k) =
    simp length-append (omega (arith, sign-short first false, numeral-short (get_or numerators (suc k) 0), numeral-short (get_or divisors (suc k) 0)))

-- A part has at most twelve bytes,
letters-short : (ts : List Term) (l : Letter) (d : ℕ) → length (plain_bytes (letter_term l d ++ ts)) ≤ length (plain_bytes ts) + 2
letters-short ts l d =
    rw (← letter-more ts l d) (rw (length-append (plain_bytes ts) (letter_bytes (is_empty ts) (letter_byte l) d))
    (omega (arith, letter-short (is_empty ts) (letter_byte l) d)))

pub part-short : (a b c k : ℕ) → length (plain_bytes (row_terms a b c k)) ≤ 12
unfolding row_terms letters_of
part-short a b c k =
    let x = letter_term X a in
    let y = letter_term Y b ++ x in
    let z = letter_term Z c ++ y in
    rw (← fraction-more z k) (rw (length-append (plain_bytes z) (fraction_bytes (is_empty z) k))
    (omega (arith, first_short, letters-short x Y b, letters-short y Z c, fraction-short (is_empty z) k)))
  where
    first_short : length (plain_bytes (letter_term X a)) ≤ 2
    first_short = rw (← first-letter X a) (letter-short true 120 a)

body-some : (b : Body) → 1 ≤ length (body_bytes b)
body-some (letter l) = omega arith
body-some (fraction n d) = simp length-append (omega arith)

-- The place where the text of terms ends is where it began exactly if there are none.
pub first-place : (ts : List Term) (at end : ℕ) → end ≡ at + length (plain_bytes ts) → eqb end at ≡ is_empty ts
unfolding plain_bytes
first-place [] at end e = eq-eqb end at (omega arith)
first-place (t ∷ ts) at end e = ne_eqb end at (λ same. longer (rw length-append at e) same)
  where
    longer : end ≡ at + (length (plain_bytes ts) + length (sign_bytes (is_empty ts) t.negative ++ body_bytes t.body)) → ¬ (end ≡ at)
    longer e same = absurd (omega (arith, body-some t.body, length-append (sign_bytes (is_empty ts) t.negative) (body_bytes t.body)))

-- ---- a letter, and the fraction, written behind the terms that stand
pub put-letter-more : {a b c : List ℕ} {at mid end : ℕ} (ts : List Term) (l : Letter) (d : ℕ) → Put a at (plain_bytes ts) b mid
    → Put b mid (letter_bytes (eqb mid at) (letter_byte l) d) c end → Put a at (plain_bytes (letter_term l d ++ ts)) c end
put-letter-more {at = at} {mid = mid} ts l d p q =
    put-named (ap (λ f. plain_bytes ts ++ letter_bytes f (letter_byte l) d) (first-place ts at mid p.place) ∙ letter-more ts l d) (put_then p q)

pub put-fraction-more : {a b c : List ℕ} {at mid end : ℕ} (ts : List Term) (k : ℕ) → Put a at (plain_bytes ts) b mid
    → Put b mid (fraction_bytes (eqb mid at) k) c end → Put a at (plain_bytes (fraction_term k ++ ts)) c end
put-fraction-more {at = at} {mid = mid} ts k p q =
    put-named (ap (λ f. plain_bytes ts ++ fraction_bytes f k) (first-place ts at mid p.place) ∙ fraction-more ts k) (put_then p q)

-- ---- a line copied to the front
pub copy-next : (line out : List ℕ) (i : ℕ) → i < length line → i < length out
    → set (take i line ++ drop i out) i (get_or line i 0) ≡ take (i + 1) line ++ drop (i + 1) out
copy-next line out i h k =
    ap (λ (l : List ℕ). set (take i line ++ l) i (get_or line i 0)) (drop-cons out i 0 k)
    ∙ set_at (take i line) (get_or out i 0) (drop (suc i) out) (get_or line i 0) i (length-take-le i line (omega arith))
    ∙ sym (append_assoc (take i line) (get_or line i 0 ∷ []) (drop (suc i) out))
    ∙ ap (λ (l : List ℕ). l ++ drop (suc i) out) (sym (take-suc line i 0 h))
    ∙ ap (λ (n : ℕ). take n line ++ drop n out) (sym (add-one i))
