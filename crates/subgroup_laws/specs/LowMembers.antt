-- The members of a set below a bound, as the remainder of its number, and whether they are members of another set.
use Rattle.std.specs.Prelude.{◌≡◌, refl, Bool, true, false, cond, ℕ, zero, suc, ◌+◌, ◌-◌, ◌^◌, ◌%◌, ◌<◌, eqb}
use Rattle.std.proofs.Common.{sym, ap, ◌∙◌, inl, inr, true≢false, pow-suc, mod-lt, arith, pow_pos}
use Rattle.std.proofs.Math.Bool.{and-true}
use Rattle.std.specs.Int.Bits.{bit_and}
use Rattle.std.proofs.lemmas.Nat.{and_mask}
use Rattle.laws.specs.Sets.{member, member_below, member-and, member-set_of, set_of, subset-test}
use Rattle.laws.specs.Truth.{passes-or-fails, asked-passes}
use Rattle.subgroup_laws.specs.Bounded.{every, every-passes, every-fails}

-- all numbers below b, as a set
full-set : (b : ℕ) → set_of b (λ i. true) + 1 ≡ 2 ^ b
unfolding set_of
full-set zero = refl
full-set (suc b) = let h = full-set b in let e = pow-suc 2 b in omega arith

-- 2 ^ b - 1 is the set of all numbers below b
pub member-all : (b i : ℕ) → i < b → member (2 ^ b - 1) i ≡ true
member-all b i h = ap (λ (k : ℕ). member k i) (sym whole) ∙ member-set_of b (λ i. true) i h
  where
    whole : set_of b (λ i. true) ≡ 2 ^ b - 1
    whole = let f = full-set b in omega arith

-- the remainder by 2 ^ b is the set of the members below b
pub member-remainder : (b s i : ℕ) → i < b → member (s % 2 ^ b) i ≡ member s i
member-remainder b s i h =
    ap (λ (k : ℕ). member k i) (sym (and_mask s b)) ∙ member-and s (2 ^ b - 1) i ∙ rw (member-all b i h) (and-true (member s i))

-- the remainder has no others
pub remainder-below : (b s i : ℕ) → member (s % 2 ^ b) i ≡ true → i < b
remainder-below b s i m = member_below b (s % 2 ^ b) i (mod-lt s (pow_pos b)) m

-- where the members of c below the bound are members of h, each of them is
pub within-passes : (b c h : ℕ) → eqb (bit_and (c % 2 ^ b) h) (c % 2 ^ b) ≡ true → (i : ℕ) → i < b → member c i ≡ true → member h i ≡ true
within-passes b c h t i l m = (subset-test (c % 2 ^ b) h).0 t i (member-remainder b c i l ∙ m)

-- where they are not, one is not
pub within-fails : (b c h : ℕ) → eqb (bit_and (c % 2 ^ b) h) (c % 2 ^ b) ≡ false → (i : ℕ) × (i < b) × (member c i ≡ true) × (member h i ≡ false)
within-fails b c h t = elim (passes-or-fails (every (λ i. cond (member c i) (member h i) true) b)) [
  | inl all ↦ absurd (true≢false (sym ((subset-test (c % 2 ^ b) h).1 (λ i m.
      let l = remainder-below b c i m in asked-passes (sym (member-remainder b c i l) ∙ m) (every-passes _ b all i l))) ∙ t))
  | inr some ↦ let (i, l, f) = every-fails _ b some in let (m, new) = failing (member c i) f in (i, l, m, new)
]
  where
    failing : (a : Bool) {b : Bool} → cond a b true ≡ false → (a ≡ true) × (b ≡ false)
    failing true f = (refl, f)
    failing false f = absurd (true≢false f)
