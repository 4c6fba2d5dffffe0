-- Integers and vectors modulo 12: the residue of an integer, and how it goes with sums, negatives and products.
use Rattle.std.specs.Prelude.{◌≡◌, refl, ℕ, zero, suc, ◌+◌, ◌*◌, ◌-◌, ◌%◌, ◌<◌, ℤ, pos, negsuc, neg_ℤ, ◌+ℤ◌, ◌*ℤ◌}
use Rattle.std.proofs.Common.{sym, ◌∙◌, ap, arith, div-add-mod', mul_comm}
use Rattle.std.proofs.Math.IntN.{suc_ℤ, pred_ℤ, +ℤ_idl, suc_ℤ-+ℤ, pred_ℤ-+ℤ, zero-*ℤ, suc_ℤ-*ℤ, pred_ℤ-*ℤ}
use Rattle.laws.specs.Integer.{integer-induction}
use Rattle.laws.specs.Matrix.{Matrix, Vector, act, plus, opposite, times, unit, act-times, act-unit}

-- The one number below 12 that differs from a by a multiple of 12.
unfoldable pub residue : ℤ → ℕ
residue (pos a) = a % 12
residue (negsuc a) = 11 - a % 12

pub residue-lt : (a : ℤ) → residue a < 12
unfolding residue
residue-lt (pos a) = omega arith
residue-lt (negsuc a) = omega arith

-- A residue is its own residue, and a number's residue is its remainder.
pub residue-pos : (a : ℕ) → residue (pos a) ≡ a % 12
unfolding residue
residue-pos a = refl

pub residue-again : (a : ℤ) → residue (pos (residue a)) ≡ residue a
unfolding residue
residue-again a = omega (arith, residue-lt a)

residue-suc : (a : ℤ) → residue (suc_ℤ a) ≡ (residue a + 1) % 12
unfolding residue
residue-suc (pos a) = omega arith
residue-suc (negsuc zero) = refl
residue-suc (negsuc (suc a)) = omega arith

residue-pred : (a : ℤ) → residue (pred_ℤ a) ≡ (residue a + 11) % 12
unfolding residue
residue-pred (pos zero) = refl
residue-pred (pos (suc a)) = omega arith
residue-pred (negsuc a) = omega arith

-- The residue of a sum, of a negative and of a product.
pub residue-add : (a b : ℤ) → residue (a +ℤ b) ≡ (residue a + residue b) % 12
unfolding residue
residue-add a b =
    integer-induction (λ x. residue (x +ℤ b) ≡ (residue x + residue b) % 12)
    (rw +ℤ_idl (omega (arith, residue-lt b)))
    (λ x h. rw (suc_ℤ-+ℤ x b, residue-suc (x +ℤ b), residue-suc x) (omega arith))
    (λ x h. rw (pred_ℤ-+ℤ x b, residue-pred (x +ℤ b), residue-pred x) (omega (arith, residue-lt b)))
    a

pub residue-neg : (a : ℤ) → residue (neg_ℤ a) ≡ (12 - residue a) % 12
unfolding residue
residue-neg (pos zero) = refl
residue-neg (pos (suc a)) = omega arith
residue-neg (negsuc a) = omega arith

-- The remainder of a sum goes by the remainders of its summands.
pub remainder-sum : (a b : ℕ) → (a % 12 + b % 12) % 12 ≡ (a + b) % 12
remainder-sum a b = omega arith

remainder-times : (a b : ℕ) → (a % 12 * b) % 12 ≡ (a * b) % 12
remainder-times a b = omega (arith, ap (λ (k : ℕ). k * b) (div-add-mod' a 12))

-- The remainder of a product goes by the remainders of its factors.
pub remainder-product : (a b : ℕ) → (a % 12 * (b % 12)) % 12 ≡ (a * b) % 12
remainder-product a b =
    remainder-times a (b % 12) ∙ ap (λ (k : ℕ). k % 12) (mul_comm a (b % 12)) ∙ remainder-times b a ∙ ap (λ (k : ℕ). k % 12) (mul_comm b a)

pub residue-mul : (a b : ℤ) → residue (a *ℤ b) ≡ (residue a * residue b) % 12
unfolding residue
residue-mul a b =
    integer-induction (λ x. residue (x *ℤ b) ≡ (residue x * residue b) % 12)
    (rw zero-*ℤ (omega arith))
    (λ x h. rw (suc_ℤ-*ℤ x b, residue-add (x *ℤ b) b, residue-suc x) (rw (h, remainder-times (residue x + 1) (residue b)) (omega arith)))
    (λ x h. rw (pred_ℤ-*ℤ x b, residue-add (x *ℤ b) (neg_ℤ b), residue-pred x, residue-neg b, h, remainder-times (residue x + 11) (residue b))
    (omega (arith, residue-lt b)))
    a

-- The residue of a difference of naturals: −1 is 11.
pub residue-difference : (a b : ℕ) → residue (pos a +ℤ neg_ℤ (pos b)) ≡ (a + 11 * b) % 12
unfolding residue
residue-difference a b = residue-add (pos a) (neg_ℤ (pos b)) ∙ rw (residue-neg (pos b)) (omega arith)

-- ---- triples of residues
pub record Triple : Type 0 where
  pub x : ℕ
  pub y : ℕ
  pub z : ℕ

pub triple≡ : {s t : Triple} → s.x ≡ t.x → s.y ≡ t.y → s.z ≡ t.z → s ≡ t
triple≡ p q r = λ i. record { x = p i; y = q i; z = r i }

-- Each coordinate is below 12.
abbrev pub Reduced : Triple → Type 0
Reduced t = (t.x < 12) × (t.y < 12) × (t.z < 12)

-- A vector's residues, and a triple as a vector.
abbrev pub reduced : Vector → Triple
reduced v = record { x = residue v.x; y = residue v.y; z = residue v.z }

abbrev pub lifted : Triple → Vector
lifted t = record { x = pos t.x; y = pos t.y; z = pos t.z }

pub reduced-lt : (v : Vector) → Reduced (reduced v)
reduced-lt v = (residue-lt v.x, residue-lt v.y, residue-lt v.z)

-- Sum and negative modulo 12.
infixl 60 ◌⊕◌
unfoldable pub ◌⊕◌ : Triple → Triple → Triple
s ⊕ t = record { x = (s.x + t.x) % 12; y = (s.y + t.y) % 12; z = (s.z + t.z) % 12 }

unfoldable pub minus : Triple → Triple
minus t = record { x = (12 - t.x % 12) % 12; y = (12 - t.y % 12) % 12; z = (12 - t.z % 12) % 12 }

-- A matrix applied to a triple, modulo 12.
unfoldable pub turned : Matrix → Triple → Triple
turned R t = reduced (act R (lifted t))

-- ---- residues of vectors
pub reduced-plus : (v w : Vector) → reduced (plus v w) ≡ reduced v ⊕ reduced w
unfolding plus ◌⊕◌
reduced-plus v w = simp residue-add

pub reduced-opposite : (v : Vector) → reduced (opposite v) ≡ minus (reduced v)
unfolding opposite minus
reduced-opposite v =
    triple≡ (single v.x) (single v.y) (single v.z)
  where
    single : (a : ℤ) → residue (neg_ℤ a) ≡ (12 - residue a % 12) % 12
    single a = residue-neg a ∙ omega (arith, residue-lt a)

-- A reduced triple is its own residue; any triple's residues are those of its vector.
pub reduced-lifted : (t : Triple) → Reduced t → reduced (lifted t) ≡ t
unfolding residue
reduced-lifted t h = triple≡ (omega arith) (omega arith) (omega arith)

pub reduced-again : (v : Vector) → reduced (lifted (reduced v)) ≡ reduced v
reduced-again v = reduced-lifted (reduced v) (reduced-lt v)

-- Rv modulo 12 goes by v modulo 12.
act-residues : (R : Matrix) (v w : Vector) → reduced v ≡ reduced w → reduced (act R v) ≡ reduced (act R w)
unfolding act
act-residues R v w p =
    let px : residue v.x ≡ residue w.x = ap (λ (t : Triple). t.x) p in
    let py : residue v.y ≡ residue w.y = ap (λ (t : Triple). t.y) p in
    let pz : residue v.z ≡ residue w.z = ap (λ (t : Triple). t.z) p in
    simp (residue-add, residue-mul, px, py, pz)

pub reduced-act : (R : Matrix) (v : Vector) → reduced (act R v) ≡ turned R (reduced v)
unfolding turned
reduced-act R v = act-residues R v (lifted (reduced v)) (sym (reduced-again v))

-- Triples are turned by a product as by its factors in turn, by the unit not at all, and sums go over to sums.
pub turned-times : (R S : Matrix) (t : Triple) → turned (times R S) t ≡ turned R (turned S t)
unfolding turned
turned-times R S t = ap reduced (act-times R S (lifted t)) ∙ reduced-act R (act S (lifted t))

pub turned-unit : (t : Triple) → Reduced t → turned unit t ≡ t
unfolding turned
turned-unit t h = ap reduced (act-unit (lifted t)) ∙ reduced-lifted t h

-- ---- triples as a group under ⊕

pub ⊕-reduced : (s t : Triple) → Reduced (s ⊕ t)
unfolding ◌⊕◌
⊕-reduced s t = omega arith
