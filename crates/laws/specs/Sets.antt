-- Sets of numbers as numbers: i is a member of s when digit i of s is 1. A set of numbers below n is a number below 2 ^ n. The laws hold for
-- every width, so a word of 64 bits is one case.
use Rattle.std.specs.Prelude.{◌≡◌, refl, ◌↔◌, ◌≢◌, Bool, true, false, cond, not, ◌&&◌, ◌||◌, ℕ, zero, suc, ◌+◌, ◌*◌, ◌/◌, ◌%◌, ◌^◌, ◌≤◌, ◌<◌, length, get_or}
use Rattle.std.proofs.Common.{sym, ap₂, ◌∙◌, subst, inl, inr, true≢false, suc-le-suc, arith, mod-lt, div-one, pow-suc, mod-eq_of_lt, add-zero, one-mul, lt_of_lt_of_le, add-one, eq-eqb, ne_eqb, eqb-true, lit<, pow_pos, pow_mono, length-append}
use Rattle.std.proofs.Math.Path.{ap}
use Rattle.std.specs.Bool.{beq}
use Rattle.std.proofs.Math.Bool.{or-false, and-true, and-false}
use mathlib.Core.List.Memᴰ.{append_cases}
use mathlib.Core.List.Memᴰ.{append_left as mem-left}
use mathlib.Core.List.Memᴰ.{append_right as mem-right}
use mathlib.Core.List.Memᴰ.{eq_of_singleton as mem-one}
use mathlib.Core.List.Memᴰ.{head as here}
use mathlib.Core.List.Memᴰ.{not-nil}
use mathlib.Core.List.{List, [], ◌∷◌, ◌++◌, map, map-append, append-nil, append_assoc, Memᴰ as Mem}
use Rattle.std.proofs.Math.Nat.{div-div-eq-div-mul, pow-succ', zero-div, div-eq_of_lt}
use Rattle.std.proofs.Math.Decide.{ℕ_discrete, dec_lt}
use Rattle.std.proofs.Math.Dec.{eqb, eqb-zero-suc, eqb-suc-zero, eqb-suc-suc}
use Rattle.std.proofs.Math.Arith.{lt-one}
use Rattle.std.proofs.Math.Pow.{pow-lt}
use Rattle.std.specs.Int.Bits.{bit_and, bit_or, bit_xor, or_shifted_r}
use Rattle.std.proofs.lemmas.Nat.{and_shr, or_shr, xor_shr, and_mod, or_mod, xor_mod, or_lt, and_le_r, or_disjoint}
use Rattle.std.specs.Int.Count.{ones, ones_in, ones_step, count_trailing_zeros, under}
use Rattle.std.proofs.Math.Seq.{get_or-append_seam}
use Rattle.laws.specs.Sorted.{Sorted, sorted-nil, sorted-one, sorted-append, unique, key-strict}
use Rattle.laws.specs.Truth.{same_truth, and_both}

-- ---- members

-- whether i is a member of s
unfoldable pub member : ℕ → ℕ → Bool
member s i = eqb (s / 2 ^ i % 2) 1

-- the number 0 is a member when the lowest digit is 1
pub member-zero : (s : ℕ) → member s zero ≡ eqb (s % 2) 1
unfolding member
member-zero s = ap (λ (k : ℕ). eqb (k % 2) 1) (div-one s)

-- a larger number is a member when the one before it is a member of the half: the key to every induction
pub member-suc : (s i : ℕ) → member s (suc i) ≡ member (s / 2) i
unfolding member
member-suc s i = ap (λ (k : ℕ). eqb (k % 2) 1) (ap (λ (d : ℕ). s / d) (pow-succ' 2 i) ∙ sym (div-div-eq-div-mul s 2 (2 ^ i)))

-- a set of numbers below n has no others
pub member-above : (n s i : ℕ) → s < 2 ^ n → n ≤ i → member s i ≡ false
unfolding member
member-above n s i h k = ap (λ (q : ℕ). eqb (q % 2) 1) (div-eq_of_lt (lt_of_lt_of_le h (pow_mono k)))

-- a member of a set of numbers below n is below n
pub member_below : (n s i : ℕ) → s < 2 ^ n → member s i ≡ true → i < n
member_below n s i h e = elim (dec_lt i n) [ yes k ↦ k | no k ↦ absurd (true≢false (sym e ∙ member-above n s i h (omega arith))) ]

-- halving drops a digit
half-below : (n s : ℕ) → s < 2 ^ suc n → s / 2 < 2 ^ n
half-below n s h = let e = pow-suc 2 n in omega arith

-- digits that pass the same test are equal
same-digit : (x y : ℕ) → x < 2 → y < 2 → eqb x 1 ≡ eqb y 1 → x ≡ y
same-digit zero zero h k e = refl
same-digit (suc zero) (suc zero) h k e = refl
same-digit zero (suc zero) h k e = absurd (true≢false (sym e))
same-digit (suc zero) zero h k e = absurd (true≢false e)
same-digit (suc (suc x)) y h k e = absurd (omega arith)
same-digit zero (suc (suc y)) h k e = absurd (omega arith)
same-digit (suc zero) (suc (suc y)) h k e = absurd (omega arith)

-- a set is determined by its members
pub same-members : (n s t : ℕ) → s < 2 ^ n → t < 2 ^ n → ((i : ℕ) → i < n → member s i ≡ member t i) → s ≡ t
same-members zero s t h k f = lt-one h ∙ sym (lt-one k)
same-members (suc n) s t h k f =
    let low : s % 2 ≡ t % 2 = same-digit (s % 2) (t % 2) (omega arith) (omega arith) (sym (member-zero s) ∙ f zero (omega arith) ∙ member-zero t) in
    let rest = same-members n (s / 2) (t / 2) (half-below n s h) (half-below n t k) (λ i l. sym (member-suc s i) ∙ f (suc i) (suc-le-suc l) ∙ member-suc t i) in
    omega arith

-- every number is a set of numbers below itself
pub wide_enough : (s : ℕ) → s < 2 ^ s
wide_enough zero = lit< tt
wide_enough (suc s) = let h = wide_enough s in let e = pow-suc 2 s in omega arith

-- a set is determined by its members, whatever its width
pub same-sets : (s t : ℕ) → ((i : ℕ) → member s i ≡ member t i) → s ≡ t
same-sets s t f =
    let wide = wide_enough (s + t) in
    same-members (s + t) s t (omega arith) (omega arith) (λ i h. f i)

-- ---- no member, one member

-- the empty set has no member
pub member-empty : (i : ℕ) → member 0 i ≡ false
unfolding member
member-empty i = ap (λ (k : ℕ). eqb (k % 2) 1) (zero-div (2 ^ i))

-- a set without members is empty
pub no-members : (s : ℕ) → ((i : ℕ) → member s i ≡ false) → s ≡ 0
no-members s f = same-sets s 0 (λ i. f i ∙ sym (member-empty i))

-- a set without members from n on is a number below 2 ^ n
pub bounded : (n s : ℕ) → ((i : ℕ) → n ≤ i → member s i ≡ false) → s < 2 ^ n
bounded zero s f = let e = no-members s (λ i. f i (omega arith)) in omega arith
bounded (suc n) s f =
    let h = bounded n (s / 2) (λ i l. sym (member-suc s i) ∙ f (suc i) (suc-le-suc l)) in
    let e = pow-suc 2 n in
    omega arith

-- a power of two is the set of one number
pub member-singleton : (i j : ℕ) → member (2 ^ i) j ≡ eqb i j
member-singleton zero zero = member-zero 1
member-singleton zero (suc j) = member-suc 1 j ∙ member-empty j ∙ sym (eqb-zero-suc j)
member-singleton (suc i) zero =
    let even : 2 ^ suc i % 2 ≡ 0 = omega arith in
    member-zero (2 ^ suc i) ∙ ap (λ (k : ℕ). eqb k 1) even ∙ sym (eqb-suc-zero i)
member-singleton (suc i) (suc j) =
    let half : 2 ^ suc i / 2 ≡ 2 ^ i = omega arith in
    member-suc (2 ^ suc i) j ∙ ap (λ (k : ℕ). member k j) half ∙ member-singleton i j ∙ sym (eqb-suc-suc i j)

-- 1 shifted left by i in a word of n bits is the set of i
pub shifted_one : (n i : ℕ) → i < n → 1 * 2 ^ i % 2 ^ n ≡ 2 ^ i
shifted_one n i h = let l = pow-lt h in mod-eq_of_lt (omega arith) ∙ omega arith

-- ---- union, intersection, difference

-- an operation that goes digit by digit, read as a rule for members
module _
    (op : ℕ → ℕ → ℕ)
    (rule : Bool → Bool → Bool)
    (shifts : (a b k : ℕ) → op a b / 2 ^ k ≡ op (a / 2 ^ k) (b / 2 ^ k))
    (cuts : (a b k : ℕ) → op a b % 2 ^ k ≡ op (a % 2 ^ k) (b % 2 ^ k))
    (digits : (a b : Bool) → eqb (op (cond a 1 0) (cond b 1 0)) 1 ≡ rule a b)
  where
    -- the rule for single digits
    one-digit : (x y : ℕ) → x < 2 → y < 2 → eqb (op x y) 1 ≡ rule (eqb x 1) (eqb y 1)
    one-digit zero zero h k = digits false false
    one-digit zero (suc zero) h k = digits false true
    one-digit (suc zero) zero h k = digits true false
    one-digit (suc zero) (suc zero) h k = digits true true
    one-digit (suc (suc x)) y h k = absurd (omega arith)
    one-digit zero (suc (suc y)) h k = absurd (omega arith)
    one-digit (suc zero) (suc (suc y)) h k = absurd (omega arith)

    -- the rule for members
    digitwise : (s t i : ℕ) → member (op s t) i ≡ rule (member s i) (member t i)
    unfolding member
    digitwise s t i =
        ap (λ (k : ℕ). eqb (k % 2) 1) (shifts s t i) ∙ ap (λ (k : ℕ). eqb k 1) (cuts (s / 2 ^ i) (t / 2 ^ i) 1)
        ∙ one-digit (s / 2 ^ i % 2) (t / 2 ^ i % 2) (mod-lt _ (lit< tt)) (mod-lt _ (lit< tt))

-- the bitwise or of two digits is 1 when one of them is
or_digits : (a b : Bool) → eqb (bit_or (cond a 1 0) (cond b 1 0)) 1 ≡ (a || b)
or_digits true true = refl
or_digits true false = refl
or_digits false true = refl
or_digits false false = refl

-- union: a member of the bitwise or is a member of one of the two
pub member-or : (s t i : ℕ) → member (bit_or s t) i ≡ (member s i || member t i)
member-or = digitwise bit_or ◌||◌ or_shr or_mod or_digits

-- the bitwise and of two digits is 1 when both are
and-digits : (a b : Bool) → eqb (bit_and (cond a 1 0) (cond b 1 0)) 1 ≡ (a && b)
and-digits true true = refl
and-digits true false = refl
and-digits false true = refl
and-digits false false = refl

-- intersection: a member of the bitwise and is a member of both
pub member-and : (s t i : ℕ) → member (bit_and s t) i ≡ (member s i && member t i)
member-and = digitwise bit_and ◌&&◌ and_shr and_mod and-digits

-- the bitwise xor of two digits is 1 when they differ
xor-digits : (a b : Bool) → eqb (bit_xor (cond a 1 0) (cond b 1 0)) 1 ≡ not (beq a b)
xor-digits true true = refl
xor-digits true false = refl
xor-digits false true = refl
xor-digits false false = refl

-- difference: a member of the bitwise xor is a number in which the two differ
pub member-xor : (s t i : ℕ) → member (bit_xor s t) i ≡ not (beq (member s i) (member t i))
member-xor = digitwise bit_xor (λ a b. not (beq a b)) xor_shr xor_mod xor-digits

-- ---- a set from a test

-- the set of the numbers below n that pass the test
unfoldable pub set_of : ℕ → (ℕ → Bool) → ℕ
set_of zero p = 0
set_of (suc n) p = set_of n p + cond (p n) (2 ^ n) 0

-- a number n that passes is added to the set of those below it
pub set_of-in : (n : ℕ) (p : ℕ → Bool) → p n ≡ true → set_of (n + 1) p ≡ set_of n p + 2 ^ n
unfolding set_of
set_of-in n p e = ap (λ (k : ℕ). set_of k p) (add-one n) ∙ ap (λ (b : Bool). set_of n p + cond b (2 ^ n) 0) e

-- a number n that fails is left out
pub set_of-out : (n : ℕ) (p : ℕ → Bool) → p n ≡ false → set_of (n + 1) p ≡ set_of n p
unfolding set_of
set_of-out n p e = ap (λ (k : ℕ). set_of k p) (add-one n) ∙ ap (λ (b : Bool). set_of n p + cond b (2 ^ n) 0) e ∙ add-zero (set_of n p)

-- a highest digit more, or none, keeps the bound
one-more-below : (b : Bool) (s q : ℕ) → s < q → s + cond b q 0 < q * 2
one-more-below true s q h = omega arith
one-more-below false s q h = omega arith

-- the set is a number below 2 ^ n
pub set_of-below : (n : ℕ) (p : ℕ → Bool) → set_of n p < 2 ^ n
unfolding set_of
set_of-below zero p = lit< tt
set_of-below (suc n) p = rw pow-suc (one-more-below (p n) (set_of n p) (2 ^ n) (set_of-below n p))

-- the next number may still be added within a word of n bits
pub set_of-room : (i n : ℕ) (p : ℕ → Bool) → i < n → set_of i p + 2 ^ i < 2 ^ n
set_of-room i n p h =
    let l = set_of-below i p in
    let e = pow-suc 2 i in
    let m : 2 ^ suc i ≤ 2 ^ n = pow_mono h in
    omega arith

-- a number above all members is added as the highest digit
one-more-member : (b : Bool) (n s i : ℕ) → s < 2 ^ n → member (s + cond b (2 ^ n) 0) i ≡ (member s i || (b && eqb n i))
one-more-member true n s i h =
    let e : 1 * 2 ^ n + s ≡ s + 2 ^ n = omega arith in
    ap (λ (k : ℕ). member k i) (sym e ∙ sym (or_shifted_r 1 n s h) ∙ ap (bit_or s) (one-mul (2 ^ n)))
    ∙ member-or s (2 ^ n) i ∙ ap (λ (b : Bool). member s i || b) (member-singleton n i)
one-more-member false n s i h = ap (λ (k : ℕ). member k i) (add-zero s) ∙ sym (or-false (member s i))

-- the members are the numbers below n that pass
pub member-set_of : (n : ℕ) (p : ℕ → Bool) (i : ℕ) → i < n → member (set_of n p) i ≡ p i
unfolding set_of
member-set_of zero p i h = absurd (omega arith)
member-set_of (suc n) p i h = one-more-member (p n) n (set_of n p) i (set_of-below n p) ∙ elim (ℕ_discrete i n) [
  | yes e ↦ rw (e, member-above n (set_of n p) n (set_of-below n p) (omega arith), eq-eqb n n refl) (and-true (p n))
  | no e ↦ rw (ne_eqb n i (λ q. e (sym q)), and-false (p n), or-false (member (set_of n p) i)) (member-set_of n p i (omega arith))
]

-- tests that agree below n give the same set
pub set_of-same : (n : ℕ) (p q : ℕ → Bool) → ((i : ℕ) → i < n → p i ≡ q i) → set_of n p ≡ set_of n q
set_of-same n p q f =
    same-members n _ _ (set_of-below n p) (set_of-below n q) (λ i h. member-set_of n p i h ∙ f i h ∙ sym (member-set_of n q i h))

-- a set is the set of its members
pub set_of-member : (n s : ℕ) → s < 2 ^ n → set_of n (member s) ≡ s
set_of-member n s h = same-members n _ s (set_of-below n (member s)) h (λ i k. member-set_of n (member s) i k)

-- ---- a member more

-- the bitwise or with 2 ^ i adds the member i
pub with-member : (s i j : ℕ) → member (bit_or s (2 ^ i)) j ≡ (member s j || eqb i j)
with-member s i j = member-or s (2 ^ i) j ∙ ap (λ (b : Bool). member s j || b) (member-singleton i j)

-- a set has nothing in common with the set of a number that it does not hold
pub no-common : (s i : ℕ) → member s i ≡ false → bit_and s (2 ^ i) ≡ 0
no-common s i e = no-members _ apart
  where
    apart : (j : ℕ) → member (bit_and s (2 ^ i)) j ≡ false
    apart j = member-and s (2 ^ i) j ∙ ap (λ (b : Bool). member s j && b) (member-singleton i j) ∙ elim (ℕ_discrete i j) [
      | yes q ↦ rw (← q, e)
      | no q ↦ rw (ne_eqb i j q) (and-false (member s j))
    ]

-- the bitwise or adds a new member's digit
pub or_new : (s i : ℕ) → member s i ≡ false → bit_or s (2 ^ i) ≡ s + 2 ^ i
or_new s i e = or_disjoint s (2 ^ i) (no-common s i e)

-- the sum with 2 ^ i adds a new member i
pub member-add : (s i j : ℕ) → member s i ≡ false → member (s + 2 ^ i) j ≡ (member s j || eqb i j)
member-add s i j e = ap (λ (k : ℕ). member k j) (sym (or_new s i e)) ∙ with-member s i j

-- a new member below n keeps a set below 2 ^ n
pub add-below : (n s i : ℕ) → i < n → s < 2 ^ n → member s i ≡ false → s + 2 ^ i < 2 ^ n
add-below n s i h k e = rw (← or_new s i e) (or_lt n s (2 ^ i) k (pow-lt h))

-- ---- subsets

-- every member of s is one of t
abbrev pub Subset : ℕ → ℕ → Type 0
Subset s t = (i : ℕ) → member s i ≡ true → member t i ≡ true

-- two sets that hold each other's members are equal
pub subset-antisymmetric : (s t : ℕ) → Subset s t → Subset t s → s ≡ t
subset-antisymmetric s t f g = same-sets s t (λ i. same_truth (member s i) (member t i) (f i) (g i))

-- a conjunction with what follows anyway adds nothing
and-absorbs : (a b : Bool) → (a ≡ true → b ≡ true) → (a && b) ≡ a
and-absorbs true b f = f refl
and-absorbs false b f = refl

-- a subset is its own intersection with the larger set
pub subset-and : (s t : ℕ) → Subset s t → bit_and s t ≡ s
subset-and s t f = same-sets _ s (λ i. member-and s t i ∙ and-absorbs (member s i) (member t i) (f i))

-- a set that is its own intersection with another is a subset of it
pub and-subset : (s t : ℕ) → bit_and s t ≡ s → Subset s t
and-subset s t e i h = (and_both (member s i) (member t i) (sym (member-and s t i) ∙ ap (λ (k : ℕ). member k i) e ∙ h)).1

-- s is a subset of t exactly if the bitwise and of the two is s
pub subset-test : (s t : ℕ) → (eqb (bit_and s t) s ≡ true) ↔ Subset s t
subset-test s t = ((λ e. and-subset s t (eqb-true _ _ e)), λ f. eq-eqb _ _ (subset-and s t f))

-- a subset is no larger as a number
pub subset-le : (s t : ℕ) → Subset s t → s ≤ t
subset-le s t f = subst (λ (k : ℕ). k ≤ t) (subset-and s t f) (and_le_r s t)

-- where b is set only with a, the two differ when a alone is set
without : (a b : Bool) → (b ≡ true → a ≡ true) → not (beq a b) ≡ (a && not b)
without true true f = refl
without true false f = refl
without false true f = absurd (true≢false (sym (f refl)))
without false false f = refl

-- the bitwise xor takes a subset away
pub member-difference : (s t i : ℕ) → Subset t s → member (bit_xor s t) i ≡ (member s i && not (member t i))
member-difference s t i f = member-xor s t i ∙ without (member s i) (member t i) (f i)

-- ---- how many members

-- a digit is the count of its ones
count-digit : (x : ℕ) → x < 2 → x ≡ cond (eqb x 1) 1 0
count-digit zero h = refl
count-digit (suc zero) h = refl
count-digit (suc (suc x)) h = absurd (omega arith)

-- one number more counts one if it is a member
pub ones_in-suc : (n s : ℕ) → ones_in (suc n) s ≡ ones_in n s + cond (member s n) 1 0
unfolding ones_in
ones_in-suc zero s = let e = count-digit (s % 2) (omega arith) in rw (member-zero s) (omega arith)
ones_in-suc (suc n) s = let ih = ones_in-suc n (s / 2) in rw (member-suc s n) (omega arith)

-- the lowest number counts one if it is a member, and the others are counted in the half
pub ones_in-lowest : (n s : ℕ) → ones_in (suc n) s ≡ cond (member s 0) 1 0 + ones_in n (s / 2)
unfolding ones_in
ones_in-lowest n s = let e = count-digit (s % 2) (omega arith) in rw (member-zero s) (omega arith)

-- the digits of a set of numbers below n are counted by looking at n of them
pub ones_below : (n s : ℕ) → s < 2 ^ n → ones s ≡ ones_in n s
unfolding ones ones_in
ones_below zero s h = ap ones (lt-one h)
ones_below (suc n) s h = ones_step s ∙ ap (λ (k : ℕ). s % 2 + k) (ones_below n (s / 2) (half-below n s h))

-- a test that is passed only with another counts no more
count-le : (a b : Bool) → (a ≡ true → b ≡ true) → cond a 1 0 ≤ cond b 1 0
count-le true b f = rw (f refl) (omega arith)
count-le false b f = omega arith

-- a test that is passed only with another and counts as much agrees with it
count_same : (a b : Bool) → (a ≡ true → b ≡ true) → cond b 1 0 ≤ cond a 1 0 → a ≡ b
count_same true b f h = sym (f refl)
count_same false true f h = absurd (omega arith)
count_same false false f h = refl

-- a subset has no more members below n
pub ones_in-subset : (n s t : ℕ) → Subset s t → ones_in n s ≤ ones_in n t
unfolding ones_in
ones_in-subset zero s t f = omega arith
ones_in-subset (suc n) s t f =
    let ih = ones_in-subset n s t f in
    omega (arith, ones_in-suc n s, ones_in-suc n t, count-le (member s n) (member t n) (f n))

-- a subset with as many members below n has the same members there
pub ones_in-same : (n s t : ℕ) → Subset s t → ones_in n t ≤ ones_in n s → (i : ℕ) → i < n → member s i ≡ member t i
ones_in-same zero s t f h i k = absurd (omega arith)
ones_in-same (suc n) s t f h i k = elim (ℕ_discrete i n) [
  | yes e ↦ rw e (count_same (member s n) (member t n) (f n) (omega (arith, ones_in-suc n s, ones_in-suc n t, ones_in-subset n s t f)))
  | no e ↦ ones_in-same n s t f (omega (arith, ones_in-suc n s, ones_in-suc n t, count-le (member s n) (member t n) (f n))) i (omega arith)
]

-- a subset has no more members
pub ones-subset : (s t : ℕ) → Subset s t → ones s ≤ ones t
ones-subset s t f =
    let wide = wide_enough (s + t) in
    omega (arith, ones_below (s + t) s (omega arith), ones_below (s + t) t (omega arith), ones_in-subset (s + t) s t f)

-- a subset that is not the whole set has fewer members
pub ones-proper : (s t : ℕ) → Subset s t → s ≢ t → ones s < ones t
ones-proper s t f differ =
    let wide = wide_enough (s + t) in
    let e = ones_below (s + t) s (omega arith) in
    let g = ones_below (s + t) t (omega arith) in
    elim (dec_lt (ones s) (ones t)) [
      | yes h ↦ h
      | no h ↦ absurd (differ (same-members (s + t) s t (omega arith) (omega arith) (ones_in-same (s + t) s t f (omega arith))))
    ]

-- the ones of two digits are counted by their or and their and
count-or-and : (a b : Bool) → cond (a || b) 1 0 + cond (a && b) 1 0 ≡ cond a 1 0 + cond b 1 0
count-or-and true true = refl
count-or-and true false = refl
count-or-and false true = refl
count-or-and false false = refl

-- the members of two sets are those of their union and, once more, those of both
pub ones_in-or-and : (n s t : ℕ) → ones_in n (bit_or s t) + ones_in n (bit_and s t) ≡ ones_in n s + ones_in n t
unfolding ones_in
ones_in-or-and zero s t = refl
ones_in-or-and (suc n) s t =
    let ih = ones_in-or-and n s t in
    let both : cond (member (bit_or s t) n) 1 0 + cond (member (bit_and s t) n) 1 0 ≡ cond (member s n) 1 0 + cond (member t n) 1 0 =
    rw (member-or s t n, member-and s t n) (count-or-and (member s n) (member t n)) in
    omega (arith, ones_in-suc n (bit_or s t), ones_in-suc n (bit_and s t), ones_in-suc n s, ones_in-suc n t)

-- the empty set has no member to count
pub ones_in-empty : (n : ℕ) → ones_in n 0 ≡ 0
unfolding ones_in
ones_in-empty zero = refl
ones_in-empty (suc n) = let ih = ones_in-empty n in omega arith

-- a set of one number counts one
pub ones_in-singleton : (n i : ℕ) → i < n → ones_in n (2 ^ i) ≡ 1
unfolding ones_in
ones_in-singleton zero i h = absurd (omega arith)
ones_in-singleton (suc n) zero h = let e = ones_in-empty n in omega arith
ones_in-singleton (suc n) (suc i) h =
    let even : 2 ^ suc i % 2 ≡ 0 = omega arith in
    let half : 2 ^ suc i / 2 ≡ 2 ^ i = omega arith in
    rw (even, half) (let ih = ones_in-singleton n i (omega arith) in omega arith)

-- a new member counts one more
pub ones-add : (n s i : ℕ) → i < n → s < 2 ^ n → member s i ≡ false → ones (s + 2 ^ i) ≡ suc (ones s)
ones-add n s i h k e =
    let none : ones_in n (bit_and s (2 ^ i)) ≡ 0 = ap (ones_in n) (no-common s i e) ∙ ones_in-empty n in
    let whole : ones_in n (bit_or s (2 ^ i)) ≡ ones_in n (s + 2 ^ i) = ap (ones_in n) (or_new s i e) in
    omega (
      arith,
      ones_below n s k,
      ones_below n (s + 2 ^ i) (add-below n s i h k e),
      ones_in-or-and n s (2 ^ i),
      ones_in-singleton n i h,
    )

-- ---- the members as a list

-- the members of s below n, ascending
unfoldable pub members : ℕ → ℕ → List ℕ
members zero s = []
members (suc n) s = members n s ++ cond (member s n) (n ∷ []) []

-- a member n is appended to the list of those below it
pub members-in : (n s : ℕ) → member s n ≡ true → members (n + 1) s ≡ members n s ++ (n ∷ [])
unfolding members
members-in n s e = ap (λ (k : ℕ). members k s) (add-one n) ∙ ap (λ (b : Bool). members n s ++ cond b (n ∷ []) []) e

-- an n that is no member is passed over
pub members-out : (n s : ℕ) → member s n ≡ false → members (n + 1) s ≡ members n s
unfolding members
members-out n s e = ap (λ (k : ℕ). members k s) (add-one n) ∙ ap (λ (b : Bool). members n s ++ cond b (n ∷ []) []) e ∙ append-nil (members n s)

-- what stands in a list of one number or none is that number
cond-one-cases : (b : Bool) (n : ℕ) {i : ℕ} → Mem i (cond b (n ∷ []) []) → (b ≡ true) × (i ≡ n)
cond-one-cases true n m = (refl, mem-one m)
cond-one-cases false n m = absurd (not-nil m)

-- a list of one number holds it
cond-one-here : (b : Bool) (n : ℕ) → b ≡ true → Mem n (cond b (n ∷ []) [])
cond-one-here true n e = here refl
cond-one-here false n e = absurd (true≢false (sym e))

-- what stands in the list is a member below n
pub listed-member : (n s i : ℕ) → Mem i (members n s) → (i < n) × (member s i ≡ true)
unfolding members
listed-member zero s i m = absurd (not-nil m)
listed-member (suc n) s i m = elim (append_cases (members n s) {t = cond (member s n) (n ∷ []) []} m) [
  | inl k ↦ let (h, e) = listed-member n s i k in (omega arith, e)
  | inr k ↦ let (e, q) = cond-one-cases (member s n) n k in (omega arith, rw q e)
]

-- every member below n stands in the list
pub member-listed : (n s i : ℕ) → i < n → member s i ≡ true → Mem i (members n s)
unfolding members
member-listed zero s i h e = absurd (omega arith)
member-listed (suc n) s i h e = elim (ℕ_discrete i n) [
  | yes q ↦ mem-right (members n s) (rw q (cond-one-here (member s n) n (rw q at e)))
  | no q ↦ mem-left _ (member-listed n s i (omega arith) e)
]

-- a list of one number or none is sorted
cond-one-sorted : (b : Bool) (n : ℕ) → Sorted ◌<◌ (cond b (n ∷ []) [])
cond-one-sorted true n = sorted-one ◌<◌
cond-one-sorted false n = sorted-nil

-- the list of members ascends
pub members-sorted : (n s : ℕ) → Sorted ◌<◌ (members n s)
unfolding members
members-sorted zero s = sorted-nil
members-sorted (suc n) s = sorted-append ◌<◌ (members-sorted n s) (cond-one-sorted (member s n) n)
    (λ x y h k. let (e, q) = cond-one-cases (member s n) n k in omega (arith, (listed-member n s x h).0))

-- a list of one number or none is as long as it has numbers
cond-one-length : (b : Bool) (n : ℕ) → length (cond b (n ∷ []) []) ≡ cond b 1 0
cond-one-length true n = refl
cond-one-length false n = refl

-- the list is as long as there are members
pub members-length : (n s : ℕ) → length (members n s) ≡ ones_in n s
unfolding members ones_in
members-length zero s = refl
members-length (suc n) s =
    omega (
      arith,
      members-length n s,
      ones_in-suc n s,
      length-append (members n s) (cond (member s n) (n ∷ []) []),
      cond-one-length (member s n) n,
    )

-- the list is the only ascending one of these members
pub members-unique : (n s : ℕ) (l : List ℕ) → Sorted ◌<◌ l → ((i : ℕ) → Mem i l ↔ ((i < n) × (member s i ≡ true))) → l ≡ members n s
members-unique n s l ascends same =
    unique ◌<◌ (key-strict (λ (i : ℕ). i)) ascends (members-sorted n s)
    (λ i m. let (h, e) = (same i).0 m in member-listed n s i h e)
    (λ i m. (same i).1 (listed-member n s i m))

-- the count of a word's ones is the length of the list
pub ones-members : (n s : ℕ) → s < 2 ^ n → ones s ≡ length (members n s)
ones-members n s h = ones_below n s h ∙ sym (members-length n s)

-- the list by its lowest digit: 0 may stand in front, and the others are the members of the half, raised by one
pub members-lowest : (n s : ℕ) → members (suc n) s ≡ cond (member s 0) (0 ∷ []) [] ++ map suc (members n (s / 2))
unfolding members
members-lowest zero s = sym (append-nil (cond (member s 0) (0 ∷ []) []))
members-lowest (suc n) s =
    ap₂ (λ (l m : List ℕ). l ++ m) (members-lowest n s) (ap (λ (b : Bool). cond b (suc n ∷ []) []) (member-suc s n) ∙ sym (raised (member (s / 2) n)))
    ∙ append_assoc (cond (member s 0) (0 ∷ []) []) (map suc (members n (s / 2))) (map suc (cond (member (s / 2) n) (n ∷ []) []))
    ∙ ap (λ (l : List ℕ). cond (member s 0) (0 ∷ []) [] ++ l) (sym (map-append suc (members n (s / 2)) (cond (member (s / 2) n) (n ∷ []) [])))
  where
    raised : (b : Bool) → map suc (cond b (n ∷ []) []) ≡ cond b (suc n ∷ []) []
    raised true = refl
    raised false = refl

-- the members below a member stand before it
pub members-split : (n s i : ℕ) → i < n → member s i ≡ true → (rest : List ℕ) × (members n s ≡ members i s ++ i ∷ rest)
unfolding members
members-split zero s i h e = absurd (omega arith)
members-split (suc n) s i h e = elim (ℕ_discrete i n) [
  | yes q ↦ ([], rw (q, rw q at e))
  | no q ↦
      let (rest, p) = members-split n s i (omega arith) e in
      (rest ++ cond (member s n) (n ∷ []) [], ap (λ (l : List ℕ). l ++ cond (member s n) (n ∷ []) []) p ∙ append_assoc (members i s) (i ∷ rest) _)
]

-- a member's position in the list is the count of the members below it
pub members-position : (n s i d : ℕ) → i < n → member s i ≡ true → get_or (members n s) (ones_in i s) d ≡ i
members-position n s i d h e =
    let (rest, p) = members-split n s i h e in
    rw (p, ← members-length i s) (get_or-append_seam (members i s) i rest d)

-- the count of the members below a member is a position in the list
pub position-below : (n s i : ℕ) → i < n → member s i ≡ true → ones_in i s < length (members n s)
position-below n s i h e =
    let (rest, p) = members-split n s i h e in
    omega (arith, ap length p, length-append (members i s) (i ∷ rest), members-length i s)

-- ---- the lowest member

-- below the trailing zeros' count there is no member
pub trailing_below : (n s j : ℕ) → j < count_trailing_zeros n s → member s j ≡ false
unfolding count_trailing_zeros
trailing_below zero s j h = absurd (omega arith)
trailing_below (suc n) s j h = step (s % 2) refl j h (trailing_below n (s / 2))
  where
    step : (d : ℕ) → s % 2 ≡ d → (j : ℕ) → j < under d (count_trailing_zeros n (s / 2))
        → ((j : ℕ) → j < count_trailing_zeros n (s / 2) → member (s / 2) j ≡ false)
        → member s j ≡ false
    step zero e zero h ih = member-zero s ∙ ap (λ (k : ℕ). eqb k 1) e
    step zero e (suc j) h ih = member-suc s j ∙ ih j (omega arith)
    step (suc d) e j h ih = absurd (omega arith)

-- the trailing zeros' count is a member, if it is below the width
pub trailing-member : (n s : ℕ) → count_trailing_zeros n s < n → member s (count_trailing_zeros n s) ≡ true
unfolding count_trailing_zeros
trailing-member zero s h = absurd (omega arith)
trailing-member (suc n) s h = step (s % 2) refl h (trailing-member n (s / 2))
  where
    step : (d : ℕ) → s % 2 ≡ d → under d (count_trailing_zeros n (s / 2)) < suc n
        → (count_trailing_zeros n (s / 2) < n → member (s / 2) (count_trailing_zeros n (s / 2)) ≡ true) → member s (under d (count_trailing_zeros n (s / 2)))
        ≡ true
    step zero e h ih = member-suc s (count_trailing_zeros n (s / 2)) ∙ ih (omega arith)
    step (suc d) e h ih = let one : s % 2 ≡ 1 = omega arith in member-zero s ∙ ap (λ (k : ℕ). eqb k 1) one

-- the trailing zeros' count is the lowest member
pub trailing-lowest : (n s i : ℕ) → i < n → member s i ≡ true → ((j : ℕ) → j < i → member s j ≡ false) → count_trailing_zeros n s ≡ i
trailing-lowest n s i h e f = elim (dec_lt i (count_trailing_zeros n s)) [
  | yes k ↦ absurd (true≢false (sym e ∙ trailing_below n s i k))
  | no k ↦ elim (dec_lt (count_trailing_zeros n s) i) [
    | yes l ↦ absurd (true≢false (sym (trailing-member n s (omega arith)) ∙ f (count_trailing_zeros n s) l))
    | no l ↦ omega arith
  ]
]

-- a set that is not empty has a lowest member
pub trailing-some : (n s : ℕ) → s < 2 ^ n → s ≢ 0 → count_trailing_zeros n s < n
trailing-some n s h some = elim (dec_lt (count_trailing_zeros n s) n) [
  | yes k ↦ k
  | no k ↦ absurd (some (same-members n s 0 h (pow_pos n) (λ i l. trailing_below n s i (omega arith) ∙ sym (member-empty i))))
]
