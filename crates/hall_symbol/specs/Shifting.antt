-- The shift in unsigned numbers: what the code adds up is t + v − Rv modulo 12.
use Rattle.std.specs.Prelude.{◌≡◌, ℕ, ◌+◌, ◌*◌, ◌%◌, pos, neg_ℤ, ◌*ℤ◌}
use Rattle.std.proofs.Common.{sym, ◌∙◌, ap, arith}
use Rattle.std.proofs.Math.IntN.{neg_ℤ-+ℤ}
use Rattle.laws.specs.Integer.{neg-*ℤ}
use Rattle.laws.specs.Residue.{residue, residue-add, residue-neg, residue-mul, residue-pos, remainder-sum, remainder-product}
use Rattle.operation.specs.Meaning.{entry_of}
use Rattle.operation.specs.Digits.{entry-residue}
use Rattle.operation.specs.declared.Translation.{Translation}
use Rattle.hall_symbol.specs.Generators.{shifted_coordinate}

-- Modulo 12 the entry a − 1 is a + 11, and its negative 11·a + 1.
negative-residue : (a : ℕ) → residue (neg_ℤ (entry_of a)) ≡ (11 * a + 1) % 12
negative-residue a = residue-neg (entry_of a) ∙ rw (entry-residue a) (omega arith)

-- A term of −Rv modulo 12.
negative-term : (a u : ℕ) → residue (neg_ℤ (entry_of a *ℤ pos u)) ≡ ((11 * a + 1) * u) % 12
negative-term a u =
    ap residue (sym (neg-*ℤ (entry_of a) (pos u)))
    ∙ residue-mul (neg_ℤ (entry_of a)) (pos u)
    ∙ rw (negative-residue a, residue-pos u) (remainder-product (11 * a + 1) u)

-- One coordinate of t + v − Rv modulo 12.
pub shifted_sum : (a b c : ℕ) (v : Translation) (w t : ℕ)
    → shifted_coordinate a b c v w t ≡ (t + w + (11 * a + 1) * v.x + (11 * b + 1) * v.y + (11 * c + 1) * v.z) % 12
unfolding shifted_coordinate
shifted_sum a b c v w t = simp (neg_ℤ-+ℤ, residue-add, negative-term, residue-pos, remainder-sum) (omega arith)
