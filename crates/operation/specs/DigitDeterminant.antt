-- Trace and determinant of a rotation from its digits, in unsigned numbers: the sums and differences of digits are right, none falls
-- below 0, and numbers of any value have the range and the type of their digits. Facts on a few digits are tests that antt computes at all of them.
use Rattle.std.specs.Prelude.{◌≡◌, refl, Bool, true, false, ◌&&◌, ℕ, zero, suc, ◌+◌, ◌-◌, ◌*◌, ◌/◌, ◌%◌, ◌≤◌, leb, ℤ, pos, negsuc, nat_abs, ◌+ℤ◌, ◌-ℤ◌, ◌*ℤ◌}
use Rattle.std.proofs.Common.{sym, ◌∙◌, ap, arith, leb-true}
use Rattle.std.proofs.lemmas.Bool.{lt-leb}
use Rattle.std.proofs.Math.Dec.{leb-suc-suc}
use Rattle.std.proofs.Math.IntN.{one, +ℤ_one, -ℤ_one}
use Rattle.laws.specs.Integer.{ring, outer, cross, ◌⊖◌}
use Rattle.laws.specs.Matrix.{Matrix, trace, determinant}
use Rattle.laws.specs.SameMatrix.{same_integer, integer-exact}
use Rattle.operation.specs.Below.{all_below, below}
use Rattle.operation.specs.Meaning.{entry_of, digit_of, digit_above, matrix_of, digits_of, Digits, inside, row_inside, all_inside}
use Rattle.operation.specs.Entries.{three-true, all-entries, digits-entries, digits-stand}
use Rattle.operation.specs.RotationType.{identified}
use Rattle.operation.specs.declared.Rotation.{Rotation}

-- Three numbers that are digits.
unfoldable pub are_digits : ℕ → ℕ → ℕ → Bool
are_digits a b c = leb a 2 && leb b 2 && leb c 2

-- A test at each digit.
abbrev every_digit : (ℕ → Bool) → Bool
every_digit = all_below 3

-- What a test finds at each digit holds of any.
every : (f : ℕ → Bool) → every_digit f ≡ true → (d : ℕ) → d ≤ 2 → f d ≡ true
every f h d k = below 3 f h d (omega arith)

-- ---- products
-- The digit of the product of two entries, and of three.
unfoldable pub digit_of_product : ℕ → ℕ → ℕ
digit_of_product a b = a * b + 2 - a - b

abbrev pub digit_of_triple : ℕ → ℕ → ℕ → ℕ
digit_of_triple a b c = digit_of_product a (digit_of_product b c)

-- The three facts of `product-range`, at all digits.
product-test : every_digit (λ a. every_digit (λ b. leb (a + b) (a * b + 2) && leb (a * b) 4 && leb (digit_of_product a b) 2)) ≡ true
unfolding all_below digit_of_product
product-test = refl

-- A product of digits is a digit, and the code's way to it neither wraps nor falls below 0.
pub product-range : (a b : ℕ) → a ≤ 2 → b ≤ 2 → (a + b ≤ a * b + 2) × (a * b ≤ 4) × (digit_of_product a b ≤ 2)
product-range a b h k =
    let t = three-true (leb (a + b) (a * b + 2)) (leb (a * b) 4) (leb (digit_of_product a b) 2) (every _ (every _ product-test a h) b k) in
    (leb-true _ _ t.0, leb-true _ _ t.1, leb-true _ _ t.2)

-- The fact of `entry-product`, at all digits.
entry-test : every_digit (λ a. every_digit (λ b. same_integer (entry_of (digit_of_product a b)) (entry_of a *ℤ entry_of b))) ≡ true
unfolding all_below digit_of_product entry_of one
entry-test = refl

-- The digits of products are right.
entry-product : (a b : ℕ) → a ≤ 2 → b ≤ 2 → entry_of (digit_of_product a b) ≡ entry_of a *ℤ entry_of b
entry-product a b h k = (integer-exact _ _).0 (every _ (every _ entry-test a h) b k)

-- So are those of threefold products.
entry-triple : (a b c : ℕ) → a ≤ 2 → b ≤ 2 → c ≤ 2 → entry_of (digit_of_triple a b c) ≡ entry_of a *ℤ (entry_of b *ℤ entry_of c)
entry-triple a b c ha hb hc =
    entry-product a (digit_of_product b c) ha (product-range b c hb hc).2 ∙ ap (λ e. entry_of a *ℤ e) (entry-product b c hb hc)

-- ---- the determinant
-- The six terms of the determinant, by their digits: the three that are added, and the three that are taken off.
unfoldable pub terms_added : Rotation → ℕ
terms_added r =
    digit_of_triple r.xx r.yy r.zz + digit_of_triple r.xy r.yz r.zx + digit_of_triple r.xz r.yx r.zy

unfoldable pub terms_taken : Rotation → ℕ
terms_taken r =
    digit_of_triple r.xx r.yz r.zy + digit_of_triple r.xy r.yx r.zz + digit_of_triple r.xz r.yy r.zx

-- How far apart two numbers are.
abbrev gap : ℕ → ℕ → ℕ
gap a b = (a - b) + (b - a)

-- The fact of `factor-narrows`, at all digits.
factor-test : every_digit (λ a. every_digit (λ b. every_digit (λ c. leb (digit_of_product a b) (digit_of_product a c + gap b c)))) ≡ true
unfolding all_below digit_of_product
factor-test = refl

-- A common factor in −1..1 does not widen the gap between two entries.
factor-narrows : (a b c : ℕ) → a ≤ 2 → b ≤ 2 → c ≤ 2 → digit_of_product a b ≤ digit_of_product a c + gap b c
factor-narrows a b c ha hb hc = leb-true _ _ (every _ (every _ (every _ factor-test a ha) b hb) c hc)

-- The fact of `cofactors`, at all pairs of rows.
cofactor-test : every_digit (λ a. every_digit (λ b.
    every_digit (λ c. every_digit (λ d. every_digit
    (λ e. every_digit (λ f. leb (gap (digit_of_product b f) (digit_of_product c e) + gap (digit_of_product c d) (digit_of_product a f) + gap
    (digit_of_product a e)
    (digit_of_product b d)) 4)))))) ≡ true
unfolding all_below digit_of_product
cofactor-test = refl

-- The cofactors of a row have absolute values that add up to 4 at most.
cofactors : (a b c d e f : ℕ) → a ≤ 2 → b ≤ 2 → c ≤ 2 → d ≤ 2 → e ≤ 2 → f ≤ 2
    → gap (digit_of_product b f) (digit_of_product c e) + gap (digit_of_product c d) (digit_of_product a f) + gap (digit_of_product a e) (digit_of_product b d)
    ≤ 4
cofactors a b c d e f ha hb hc hd he hf =
    leb-true _ _ (every _ (every _ (every _ (every _ (every _ (every _ cofactor-test a ha) b hb) c hc) d hd) e he) f hf)

-- Two terms with a common factor are no further apart than the products of the other two.
terms-apart : (a b c d e : ℕ) → a ≤ 2 → b ≤ 2 → c ≤ 2 → d ≤ 2 → e ≤ 2
    → (digit_of_triple a b c ≤ digit_of_triple a d e + gap (digit_of_product b c) (digit_of_product d e))
    × (digit_of_triple a d e ≤ digit_of_triple a b c + gap (digit_of_product b c) (digit_of_product d e))
terms-apart a b c d e ha hb hc hd he =
    let p = (product-range b c hb hc).2 in
    let q = (product-range d e hd he).2 in
    let back = factor-narrows a (digit_of_product d e) (digit_of_product b c) ha q p in
    (factor-narrows a (digit_of_product b c) (digit_of_product d e) ha p q, omega arith)

-- The determinant lies in −4..4.
pub terms-range : (r : Rotation) → Digits r → (terms_taken r ≤ terms_added r + 4) × (terms_added r ≤ terms_taken r + 4)
unfolding terms_added terms_taken
terms-range r h =
    let x = terms-apart r.xx r.yy r.zz r.yz r.zy h.xx h.yy h.zz h.yz h.zy in
    let y = terms-apart r.xy r.yz r.zx r.yx r.zz h.xy h.yz h.zx h.yx h.zz in
    let z = terms-apart r.xz r.yx r.zy r.yy r.zx h.xz h.yx h.zy h.yy h.zx in
    let sum = cofactors r.yx r.yy r.yz r.zx r.zy r.zz h.yx h.yy h.yz h.zx h.zy h.zz in
    (omega arith, omega arith)

-- The determinant written out: three terms added, three taken off.
determinant-terms : (A : Matrix) → determinant A
    ≡ A.xx *ℤ (A.yy *ℤ A.zz) +ℤ A.xy *ℤ (A.yz *ℤ A.zx) +ℤ A.xz *ℤ (A.yx *ℤ A.zy) ⊖
    (A.xx *ℤ (A.yz *ℤ A.zy) +ℤ A.xy *ℤ (A.yx *ℤ A.zz) +ℤ A.xz *ℤ (A.yy *ℤ A.zx))
unfolding determinant
determinant-terms A = simp outer (cross _ _ _ _ (simp ring))

-- Three ones taken off one by one, or together.
ones-three : (p q r : ℤ) → (p -ℤ one) +ℤ (q -ℤ one) +ℤ (r -ℤ one) ≡ p +ℤ q +ℤ r -ℤ (one +ℤ one +ℤ one)
ones-three p q r = simp ring

-- Three entries add up to the sum of their digits less 3.
sum-of-entries : (a b c : ℕ) → entry_of a +ℤ entry_of b +ℤ entry_of c ≡ pos (a + b + c) -ℤ pos 3
unfolding entry_of one
sum-of-entries a b c = ones-three (pos a) (pos b) (pos c)

-- What both sides of a difference lack may be left out.
cancel : (p q r : ℤ) → (p -ℤ r) ⊖ (q -ℤ r) ≡ p ⊖ q
cancel p q r = cross _ _ _ _ (simp ring)

-- A difference of naturals, plus a number that keeps it from falling below 0.
raised : (m n k : ℕ) → n ≤ m + k → pos m ⊖ pos n ≡ pos (m + k - n) -ℤ pos k
unfolding ◌⊖◌
raised m n k h = cross (pos m) (pos n) (pos (m + k - n)) (pos k) (ap pos (omega arith))

-- The determinant, plus 4, is a difference of sums of digits.
pub determinant-digits : (r : Rotation) → Digits r → determinant (matrix_of r) ≡ pos (terms_added r + 4 - terms_taken r) -ℤ pos 4
unfolding terms_added terms_taken matrix_of
determinant-digits r h =
    determinant-terms (matrix_of r) ∙ rw (
      ← entry-triple r.xx r.yy r.zz h.xx h.yy h.zz,
      ← entry-triple r.xy r.yz r.zx h.xy h.yz h.zx,
      ← entry-triple r.xz r.yx r.zy h.xz h.yx h.zy,
      ← entry-triple r.xx r.yz r.zy h.xx h.yz h.zy,
      ← entry-triple r.xy r.yx r.zz h.xy h.yx h.zz,
      ← entry-triple r.xz r.yy r.zx h.xz h.yy h.zx,
      sum-of-entries,
      sum-of-entries,
    )
    (cancel (pos (terms_added r)) (pos (terms_taken r)) (pos 3) ∙ raised (terms_added r) (terms_taken r) 4 (terms-range r h).0)

-- The trace, plus 3, is a sum of digits.
pub trace-digits : (r : Rotation) → trace (matrix_of r) ≡ pos (r.xx + r.yy + r.zz) -ℤ pos 3
unfolding trace matrix_of
trace-digits r = sum-of-entries r.xx r.yy r.zz

-- What the code folds into one number: the trace plus 3 as tens, the determinant plus 4 as ones.
abbrev pub trace_part : ℕ → ℤ
trace_part key = pos (key / 10) -ℤ pos 3

abbrev pub determinant_part : ℕ → ℤ
determinant_part key = pos (key % 10) -ℤ pos 4

-- Both can be taken out again.
pub fold-parts : (t d : ℕ) → d ≤ 8 → (pos t -ℤ pos 3 ≡ trace_part (t * 10 + d)) × (pos d -ℤ pos 4 ≡ determinant_part (t * 10 + d))
fold-parts t d h =
    let tens : t ≡ (t * 10 + d) / 10 = omega arith in
    let ones : d ≡ (t * 10 + d) % 10 = omega arith in
    (ap (λ (n : ℕ). pos n -ℤ pos 3) tens, ap (λ (n : ℕ). pos n -ℤ pos 4) ones)

-- ---- entries in −1..1
-- The entry of a digit is in −1..1, and of no other number.
small-entry : (d : ℕ) → inside (entry_of d) ≡ leb d 2
unfolding inside entry_of one
small-entry zero = refl
small-entry (suc n) = ap (λ e. leb (nat_abs e) 1) (-ℤ_one (pos (suc n))) ∙ sym (leb-suc-suc n 1)

-- All entries are in −1..1 exactly if the rows are digits.
pub small-matrix : (r : Rotation) → all_inside (matrix_of r)
    ≡ (are_digits r.xx r.xy r.xz && are_digits r.yx r.yy r.yz && are_digits r.zx r.zy r.zz)
unfolding all_inside row_inside matrix_of are_digits
small-matrix r = simp small-entry

-- A rotation whose matrix is in range has digits alone.
pub small-digits : (r : Rotation) → all_inside (matrix_of r) ≡ true → Digits r
small-digits r e = (digits-entries r).1 ((all-entries (matrix_of r)).0 e)

-- Numbers outside −1..1 have the digit 3.
pub digit-above : (n : ℕ) → digit_of (pos (suc (suc n))) ≡ 3
unfolding digit_of digit_above one
digit-above n = ap digit_above (+ℤ_one (pos (suc (suc n))))

pub digit-below : (n : ℕ) → digit_of (negsuc (suc n)) ≡ 3
unfolding digit_of digit_above one
digit-below n = ap digit_above (+ℤ_one (negsuc (suc n)))

-- An entry's digit is in range exactly if the entry is.
small-of-digit : (e : ℤ) → inside (entry_of (digit_of e)) ≡ inside e
unfolding inside entry_of digit_of digit_above one
small-of-digit (pos zero) = refl
small-of-digit (pos (suc zero)) = refl
small-of-digit (pos (suc (suc n))) = rw digit-above (sym (lt-leb (suc (suc n)) 1 (omega arith)))
small-of-digit (negsuc zero) = refl
small-of-digit (negsuc (suc n)) = rw digit-below (sym (lt-leb (suc (suc n)) 1 (omega arith)))

-- A matrix is in range exactly if that of its digits is.
small-of-digits : (A : Matrix) → all_inside (matrix_of (digits_of A)) ≡ all_inside A
unfolding all_inside row_inside matrix_of
small-of-digits A = simp small-of-digit

-- A matrix and its digits have one type.
pub identified-by-digits : (A : Matrix) → identified (matrix_of (digits_of A)) ≡ identified A
unfolding identified
identified-by-digits A = go (all_inside A) refl
  where
    go : (b : Bool) → all_inside A ≡ b → identified (matrix_of (digits_of A)) ≡ identified A
    go true h = ap identified (digits-stand A ((all-entries A).0 h))
    go false h = rw (small-of-digits A, h)
