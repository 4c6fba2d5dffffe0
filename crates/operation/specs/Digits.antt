-- Digits against integers: what unsigned arithmetic on digits says of the entries they stand for.
use Rattle.std.specs.Prelude.{◌≡◌, refl, ℕ, zero, suc, ◌+◌, ◌*◌, ◌-◌, ◌%◌, ◌<◌, ◌≤◌, ℤ, pos, neg_ℤ, ◌+ℤ◌, ◌-ℤ◌, ◌*ℤ◌}
use Rattle.std.proofs.Common.{sym, ◌∙◌, ap, ap₂, arith}
use Rattle.std.proofs.Math.IntN.{one}
use Rattle.laws.specs.Integer.{ring, ◌⊖◌, outer, cross, pos-minus, pos-minus-below}
use Rattle.laws.specs.Matrix.{dot}
use Rattle.laws.specs.Residue.{residue, residue-add, residue-mul, residue-pos, remainder-sum, remainder-product}
use Rattle.operation.specs.Meaning.{entry_of, digit_of, digit_above}

-- The same identity over the integers: Σ(a−1)(x−1) + 1 is Σax + 4 less Σ(a+x).
dot-less-ones : (a b c x y z : ℤ) → (a ⊖ one) *ℤ (x ⊖ one) +ℤ (b ⊖ one) *ℤ (y ⊖ one) +ℤ (c ⊖ one) *ℤ (z ⊖ one) +ℤ one
    ≡ (a *ℤ x +ℤ b *ℤ y +ℤ c *ℤ z +ℤ (one +ℤ one +ℤ one +ℤ one)) ⊖ (a +ℤ b +ℤ c +ℤ x +ℤ y +ℤ z)
dot-less-ones a b c x y z = simp outer (cross _ _ _ _ (simp ring))

-- Naturals and integers add and multiply alike.
cast-sums : (a b c x y z : ℕ) → pos a +ℤ pos b +ℤ pos c +ℤ pos x +ℤ pos y +ℤ pos z ≡ pos (a + b + c + x + y + z)
cast-sums a b c x y z = refl

cast-products : (a b c x y z : ℕ) → pos a *ℤ pos x +ℤ pos b *ℤ pos y +ℤ pos c *ℤ pos z +ℤ (one +ℤ one +ℤ one +ℤ one) ≡ pos (a * x + b * y + c * z + 4)
unfolding one
cast-products a b c x y z = refl

-- A row times a column, plus one, as a difference of two naturals.
dot-above : (a b c x y z : ℕ) → dot (entry_of a) (entry_of b) (entry_of c) (entry_of x) (entry_of y) (entry_of z) +ℤ one
    ≡ pos (a * x + b * y + c * z + 4) -ℤ pos (a + b + c + x + y + z)
unfolding entry_of ◌⊖◌
dot-above a b c x y z =
    dot-less-ones (pos a) (pos b) (pos c) (pos x) (pos y) (pos z) ∙ ap₂ (λ p q. p -ℤ q) (cast-products a b c x y z) (cast-sums a b c x y z)

-- The digit above a difference of naturals: the difference where it is 0, 1 or 2, otherwise 3.
above-below : (p q : ℕ) → p < q → digit_above (pos p -ℤ pos q) ≡ 3
unfolding digit_above
above-below p q h = ap digit_above (pos-minus-below p q h)

above-small : (n : ℕ) → n < 3 → digit_above (pos n) ≡ n
unfolding digit_above
above-small zero h = refl
above-small (suc zero) h = refl
above-small (suc (suc zero)) h = refl
above-small (suc (suc (suc n))) h = absurd (omega arith)

above-large : (n : ℕ) → 3 ≤ n → digit_above (pos n) ≡ 3
unfolding digit_above
above-large zero h = absurd (omega arith)
above-large (suc zero) h = absurd (omega arith)
above-large (suc (suc zero)) h = absurd (omega arith)
above-large (suc (suc (suc n))) h = refl

module _ (a b c x y z p q : ℕ) (products : p ≡ a * x + b * y + c * z + 4) (sums : q ≡ a + b + c + x + y + z) where
  -- What the code computes from products and sums is the digit of the row times the column.
  dot-difference : digit_of (dot (entry_of a) (entry_of b) (entry_of c) (entry_of x) (entry_of y) (entry_of z)) ≡ digit_above (pos p -ℤ pos q)
  unfolding digit_of
  dot-difference = rw (products, sums) (ap digit_above (dot-above a b c x y z))

  pub dot-outside-below : p < q → 3 ≡ digit_of (dot (entry_of a) (entry_of b) (entry_of c) (entry_of x) (entry_of y) (entry_of z))
  dot-outside-below h = sym (dot-difference ∙ above-below p q h)

  pub dot-inside : q ≤ p → p - q < 3 → p - q ≡ digit_of (dot (entry_of a) (entry_of b) (entry_of c) (entry_of x) (entry_of y) (entry_of z))
  dot-inside h k = sym (dot-difference ∙ ap digit_above (pos-minus p q h) ∙ above-small (p - q) k)

  pub dot-outside : q ≤ p → 3 ≤ p - q → 3 ≡ digit_of (dot (entry_of a) (entry_of b) (entry_of c) (entry_of x) (entry_of y) (entry_of z))
  dot-outside h k = sym (dot-difference ∙ ap digit_above (pos-minus p q h) ∙ above-large (p - q) k)

-- ---- translations
-- Modulo 12 the entry a − 1 is a + 11.
pub entry-residue : (a : ℕ) → residue (entry_of a) ≡ (a + 11) % 12
unfolding entry_of residue one
entry-residue a = residue-add (pos a) (neg_ℤ one) ∙ omega arith

entry-times-residue : (a u : ℕ) → residue (entry_of a *ℤ pos u) ≡ ((a + 11) * u) % 12
entry-times-residue a u =
    residue-mul (entry_of a) (pos u) ∙ rw (entry-residue a, residue-pos u) (remainder-product (a + 11) u)

-- One coordinate of Ru + t modulo 12.
pub moved-residue : (a b c x y z t : ℕ)
    → residue (dot (entry_of a) (entry_of b) (entry_of c) (pos x) (pos y) (pos z) +ℤ pos t) ≡ (a * x + b * y + c * z + t + 11 * (x + y + z)) % 12
moved-residue a b c x y z t = termwise ∙ ap (λ n. n % 12) elevens
  where
    termwise : residue (dot (entry_of a) (entry_of b) (entry_of c) (pos x) (pos y) (pos z) +ℤ pos t) ≡ ((a + 11) * x + (b + 11) * y + (c + 11) * z + t) % 12
    termwise = simp (residue-add, entry-times-residue, residue-pos, remainder-sum)

    elevens : (a + 11) * x + (b + 11) * y + (c + 11) * z + t ≡ a * x + b * y + c * z + t + 11 * (x + y + z)
    elevens = omega arith
