-- The ring laws of ℤ and a rule set, `ring`, that proves every identity in which no opposite terms cancel.
-- Where terms cancel, differences are written `p ⊖ q`, brought outside by `outer`, and two of them compared by `cross`.
use Rattle.std.specs.Prelude.{◌≡◌, refl, ℕ, zero, suc, ◌+◌, ◌*◌, ◌-◌, ◌<◌, ◌≤◌, ℤ, pos, negsuc, neg_ℤ, nat_abs, ◌+ℤ◌, ◌-ℤ◌, ◌*ℤ◌}
use Rattle.std.proofs.Common.{sym, ◌∙◌, ap, arith}
use Rattle.std.proofs.Math.IntN.{suc_ℤ, pred_ℤ, +ℤ_idl, +ℤ_idr, +ℤ_assoc, +ℤ_comm, suc_ℤ-+ℤ, pred_ℤ-+ℤ, zero-*ℤ, *ℤ-zero, *ℤ-one, suc_ℤ-*ℤ, pred_ℤ-*ℤ, *ℤ_comm, neg_ℤ-+ℤ, neg_ℤ-suc_ℤ, neg_ℤ-pred_ℤ, neg_ℤ-neg_ℤ, one, +ℤ_invr, +ℤ-neg_ℤ_cancel, pos-+ℤ-pos}

-- What holds of 0 and goes over to the next integer, up and down, holds of every integer.
pub integer-induction : (P : ℤ → Type 0) → P (pos 0) → ((m : ℤ) → P m → P (suc_ℤ m)) → ((m : ℤ) → P m → P (pred_ℤ m)) → (m : ℤ) → P m
integer-induction P z s p (pos zero) = z
integer-induction P z s p (pos (suc n)) = s (pos n) (integer-induction P z s p (pos n))
integer-induction P z s p (negsuc zero) = p (pos 0) z
integer-induction P z s p (negsuc (suc n)) = p (negsuc n) (integer-induction P z s p (negsuc n))

-- A summand may be taken to the front.
pub +ℤ-left : (a b c : ℤ) → a +ℤ (b +ℤ c) ≡ b +ℤ (a +ℤ c)
+ℤ-left a b c = sym (+ℤ_assoc a b c) ∙ ap (λ x. x +ℤ c) (+ℤ_comm a b) ∙ +ℤ_assoc b a c

pub ruleset sums = (+ℤ_assoc, +ℤ_comm, +ℤ-left)

-- A product distributes over a sum, from the right and from the left.
pub distribute-right : (m k n : ℤ) → (m +ℤ k) *ℤ n ≡ m *ℤ n +ℤ k *ℤ n
distribute-right m k n =
    integer-induction (λ x. (x +ℤ k) *ℤ n ≡ x *ℤ n +ℤ k *ℤ n)
    (simp (+ℤ_idl, zero-*ℤ))
    (λ x ih. simp (suc_ℤ-+ℤ, suc_ℤ-*ℤ, ih) (simp sums))
    (λ x ih. simp (pred_ℤ-+ℤ, pred_ℤ-*ℤ, ih) (simp sums))
    m

pub distribute-left : (n m k : ℤ) → n *ℤ (m +ℤ k) ≡ n *ℤ m +ℤ n *ℤ k
distribute-left n m k = rw (*ℤ_comm n (m +ℤ k), *ℤ_comm n m, *ℤ_comm n k) (distribute-right m k n)

-- A sign may be taken out of a product.
pub neg-*ℤ : (m k : ℤ) → neg_ℤ m *ℤ k ≡ neg_ℤ (m *ℤ k)
neg-*ℤ m k =
    integer-induction (λ x. neg_ℤ x *ℤ k ≡ neg_ℤ (x *ℤ k))
    (simp zero-*ℤ)
    (λ x ih. simp (neg_ℤ-suc_ℤ, pred_ℤ-*ℤ, suc_ℤ-*ℤ, neg_ℤ-+ℤ, ih))
    (λ x ih. simp (neg_ℤ-pred_ℤ, pred_ℤ-*ℤ, suc_ℤ-*ℤ, neg_ℤ-+ℤ, neg_ℤ-neg_ℤ, ih))
    m

pub *ℤ-neg : (m k : ℤ) → m *ℤ neg_ℤ k ≡ neg_ℤ (m *ℤ k)
*ℤ-neg m k = rw (*ℤ_comm m (neg_ℤ k), *ℤ_comm m k) (neg-*ℤ k m)

-- Products may be regrouped, and a factor taken to the front.
pub *ℤ-assoc : (a b c : ℤ) → (a *ℤ b) *ℤ c ≡ a *ℤ (b *ℤ c)
*ℤ-assoc a b c =
    integer-induction (λ x. (x *ℤ b) *ℤ c ≡ x *ℤ (b *ℤ c))
    (simp zero-*ℤ)
    (λ x ih. simp (suc_ℤ-*ℤ, distribute-right, ih))
    (λ x ih. simp (pred_ℤ-*ℤ, distribute-right, neg-*ℤ, ih))
    a

pub *ℤ-left : (a b c : ℤ) → a *ℤ (b *ℤ c) ≡ b *ℤ (a *ℤ c)
*ℤ-left a b c = sym (*ℤ-assoc a b c) ∙ ap (λ x. x *ℤ c) (*ℤ_comm a b) ∙ *ℤ-assoc b a c

-- 0 under a name of its own, as the library has `one`: `pos 0 *ℤ m` computes away, and then no rule fits it.
unfoldable pub nought : ℤ
nought = pos 0

pub one-*ℤ : (m : ℤ) → one *ℤ m ≡ m
one-*ℤ m = *ℤ_comm one m ∙ *ℤ-one m

pub nought-*ℤ : (m : ℤ) → nought *ℤ m ≡ nought
unfolding nought
nought-*ℤ m = zero-*ℤ m

pub *ℤ-nought : (m : ℤ) → m *ℤ nought ≡ nought
unfolding nought
*ℤ-nought m = *ℤ-zero m

pub nought-+ℤ : (m : ℤ) → nought +ℤ m ≡ m
unfolding nought
nought-+ℤ m = +ℤ_idl m

pub +ℤ-nought : (m : ℤ) → m +ℤ nought ≡ m
unfolding nought
+ℤ-nought m = +ℤ_idr m

pub neg-nought : neg_ℤ nought ≡ nought
unfolding nought
neg-nought = refl

pub ruleset ring = (
  distribute-right,
  distribute-left,
  neg-*ℤ,
  *ℤ-neg,
  neg_ℤ-+ℤ,
  neg_ℤ-neg_ℤ,
  *ℤ-assoc,
  *ℤ_comm,
  *ℤ-left,
  +ℤ_assoc,
  +ℤ_comm,
  +ℤ-left,
  nought-*ℤ,
  *ℤ-nought,
  nought-+ℤ,
  +ℤ-nought,
  neg-nought,
  one-*ℤ,
  *ℤ-one,
)

-- The difference of two integers, shut, so that a sum of such differences becomes one of them.
infixl 6 ◌⊖◌
unfoldable pub ◌⊖◌ : ℤ → ℤ → ℤ
p ⊖ q = p -ℤ q

pub ⊖-+ : (p q r : ℤ) → (p ⊖ q) +ℤ r ≡ (p +ℤ r) ⊖ q
unfolding ◌⊖◌
⊖-+ p q r = simp ring

pub +-⊖ : (p q r : ℤ) → r +ℤ (p ⊖ q) ≡ (r +ℤ p) ⊖ q
unfolding ◌⊖◌
+-⊖ p q r = simp ring

pub ⊖-* : (p q r : ℤ) → (p ⊖ q) *ℤ r ≡ (p *ℤ r) ⊖ (q *ℤ r)
unfolding ◌⊖◌
⊖-* p q r = simp ring

pub *-⊖ : (p q r : ℤ) → r *ℤ (p ⊖ q) ≡ (r *ℤ p) ⊖ (r *ℤ q)
unfolding ◌⊖◌
*-⊖ p q r = simp ring

pub ⊖-⊖ : (p q r : ℤ) → (p ⊖ q) ⊖ r ≡ p ⊖ (q +ℤ r)
unfolding ◌⊖◌
⊖-⊖ p q r = simp ring

pub ⊖-of-⊖ : (p q r : ℤ) → p ⊖ (q ⊖ r) ≡ (p +ℤ r) ⊖ q
unfolding ◌⊖◌
⊖-of-⊖ p q r = simp ring

pub neg-⊖ : (p q : ℤ) → neg_ℤ (p ⊖ q) ≡ q ⊖ p
unfolding ◌⊖◌
neg-⊖ p q = simp ring

pub ruleset outer = (⊖-+, +-⊖, ⊖-*, *-⊖, ⊖-⊖, ⊖-of-⊖, neg-⊖)

-- Two differences are equal where their cross sums are.
pub cross : (p q r s : ℤ) → p +ℤ s ≡ r +ℤ q → p ⊖ q ≡ r ⊖ s
unfolding ◌⊖◌
cross p q r s h =
    let swap : (r +ℤ q -ℤ s) -ℤ q ≡ (r +ℤ q -ℤ q) -ℤ s = simp ring in
    ap (λ x. x -ℤ q) (sym (+ℤ-neg_ℤ_cancel p s)) ∙ ap (λ x. (x -ℤ s) -ℤ q) h ∙ swap ∙ ap (λ x. x -ℤ s) (+ℤ-neg_ℤ_cancel r q)

-- A difference of equals is 0.
pub cross-nought : (p q : ℤ) → p ≡ q → p ⊖ q ≡ nought
unfolding ◌⊖◌ nought
cross-nought p q h = rw h (+ℤ_invr q)

-- ---- naturals among the integers
-- A difference of naturals that is not below 0.
pub pos-minus : (p q : ℕ) → q ≤ p → pos p -ℤ pos q ≡ pos (p - q)
pos-minus p q h =
    let split : p ≡ p - q + q = omega arith in
    ap (λ (n : ℕ). pos n -ℤ pos q) split ∙ ap (λ x. x -ℤ pos q) (sym (pos-+ℤ-pos (p - q) q)) ∙ +ℤ-neg_ℤ_cancel (pos (p - q)) (pos q)

-- One that is.
pub pos-minus-below : (p q : ℕ) → p < q → pos p -ℤ pos q ≡ negsuc (q - suc p)
pos-minus-below p q h =
    let turn : pos p -ℤ pos q ≡ neg_ℤ (pos q -ℤ pos p) = simp ring in
    let gap : q - p ≡ suc (q - suc p) = omega arith in
    turn ∙ ap neg_ℤ (pos-minus q p (omega arith) ∙ ap pos gap)

nat_abs-neg : (k : ℤ) → nat_abs (neg_ℤ k) ≡ nat_abs k
nat_abs-neg (pos zero) = refl
nat_abs-neg (pos (suc n)) = refl
nat_abs-neg (negsuc n) = refl

-- The absolute value of a product.
pub natAbs-*ℤ : (m k : ℤ) → nat_abs (m *ℤ k) ≡ nat_abs m * nat_abs k
natAbs-*ℤ (pos a) (pos b) = refl
natAbs-*ℤ (pos a) (negsuc b) = nat_abs-neg (pos (a * suc b))
natAbs-*ℤ (negsuc a) (pos b) = nat_abs-neg (pos (suc a * b))
natAbs-*ℤ (negsuc a) (negsuc b) = refl
