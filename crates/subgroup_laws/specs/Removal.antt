-- A set without one of its members, or without those of another set, as loops over the members of a set take them out.
use Rattle.std.specs.Prelude.{◌≡◌, refl, ◌⊎◌, Bool, true, false, not, ◌&&◌, ◌||◌, ℕ, ◌+◌, ◌-◌, ◌^◌, ◌<◌, eqb}
use Rattle.std.proofs.Common.{sym, ap, ◌∙◌, inl, inr, true≢false, arith, pow_pos, eq-eqb, ne_eqb, eqb-true}
use Rattle.std.proofs.Math.Decide.{ℕ_discrete}
use Rattle.std.specs.Int.Bits.{bit_and, bit_or, bit_xor}
use Rattle.std.specs.Int.Count.{ones}
use Rattle.std.proofs.lemmas.Bool.{not-true}
use Rattle.laws.specs.Sets.{member, member-and, member-singleton, member-difference, subset-le, same-sets, or_new, member-add, ones-add, with-member, Subset}
use Rattle.laws.specs.Truth.{and_both, both-and, and-fails, or-either, or-holds-left, passes-or-fails}
use Rattle.subgroup_laws.specs.LowMembers.{member-all}

-- r is s without its member i
pub record Without (s i r : ℕ) : Type 0 where
  pub gone : member r i ≡ false
  pub whole : s ≡ r + 2 ^ i

-- the set of i is a subset of each set that holds i
singleton-subset : (s i : ℕ) → member s i ≡ true → Subset (2 ^ i) s
singleton-subset s i e j h = rw (sym (eqb-true i j (sym (member-singleton i j) ∙ h))) e

-- a disjunct that fails and a conjunct that holds say nothing
plain : (b : Bool) → ((b && true) || false) ≡ b
plain true = refl
plain false = refl

module _ (s i : ℕ) (e : member s i ≡ true) where
  -- what the bitwise xor with 2 ^ i leaves
  left : (j : ℕ) → member (bit_xor s (2 ^ i)) j ≡ (member s j && not (eqb i j))
  left j = member-difference s (2 ^ i) j (singleton-subset s i e) ∙ ap (λ (b : Bool). member s j && not b) (member-singleton i j)

  -- i is not left
  out : member (bit_xor s (2 ^ i)) i ≡ false
  out = left i ∙ rw (e, eq-eqb i i refl)

  -- put in again it makes the whole set
  back : (j : ℕ) → member (bit_or (bit_xor s (2 ^ i)) (2 ^ i)) j ≡ member s j
  back j = with-member (bit_xor s (2 ^ i)) i j ∙ elim (ℕ_discrete i j) [
    | yes q ↦ rw (← q, eq-eqb i i refl, e, out)
    | no q ↦ rw (left j, ne_eqb i j q) (plain (member s j))
  ]

  -- the bitwise xor with 2 ^ i takes a member out
  pub xor-without : Without s i (bit_xor s (2 ^ i))
  xor-without = record { gone = out; whole = sym (sym (or_new (bit_xor s (2 ^ i)) i out) ∙ same-sets _ s back) }

module _ (s i r : ℕ) (W : Without s i r) where
  -- what is left was there
  pub without-old : Subset r s
  without-old j h = rw W.whole (member-add r i j W.gone ∙ or-holds-left _ _ h)

  -- what was there is left or was taken out
  pub without-cases : (j : ℕ) → member s j ≡ true → (member r j ≡ true) ⊎ (i ≡ j)
  without-cases j h = elim (or-either (member r j) (eqb i j) (sym (member-add r i j W.gone) ∙ ap (λ (k : ℕ). member k j) (sym W.whole) ∙ h)) [
    | inl k ↦ inl k
    | inr k ↦ inr (eqb-true _ _ k)
  ]

  -- it is a smaller number
  pub without-less : r < s
  without-less = omega (arith, W.whole, pow_pos i)

  -- and has a member less
  pub without-ones : (n : ℕ) → i < n → r < 2 ^ n → ones s ≡ ones r + 1
  without-ones n h k = ap ones W.whole ∙ ones-add n r i h k W.gone ∙ omega arith

-- the members of s that are none of t
unfoldable pub outside_of : ℕ → ℕ → ℕ
outside_of s t = bit_xor s (bit_and s t)

-- what is left is in s and not in t
pub outside-member : (s t i : ℕ) → member (outside_of s t) i ≡ (member s i && not (member t i))
unfolding outside_of
outside-member s t i =
    member-difference s (bit_and s t) i (λ j h. (and_both (member s j) (member t j) (sym (member-and s t j) ∙ h)).0)
    ∙ ap (λ (b : Bool). member s i && not b) (member-and s t i) ∙ both (member s i) (member t i)
  where
    both : (a b : Bool) → (a && not (a && b)) ≡ (a && not b)
    both true b = refl
    both false b = refl

-- what was in s is left or in t
pub outside-cases : (s t i : ℕ) → member s i ≡ true → (member (outside_of s t) i ≡ true) ⊎ (member t i ≡ true)
outside-cases s t i h = elim (passes-or-fails (member t i)) [
  | inl k ↦ inr k
  | inr k ↦ inl (outside-member s t i ∙ both-and _ _ h (ap not k))
]

-- nothing else is left
pub outside-old : (s t : ℕ) → Subset (outside_of s t) s
outside-old s t i h = (and_both (member s i) (not (member t i)) (sym (outside-member s t i) ∙ h)).0

-- with a common member it is a smaller number
pub outside-less : (s t i : ℕ) → member s i ≡ true → member t i ≡ true → outside_of s t < s
outside-less s t i h k = elim (ℕ_discrete (outside_of s t) s) [
  | no q ↦ omega (arith, subset-le (outside_of s t) s (outside-old s t))
  | yes q ↦ absurd (true≢false (sym h ∙ ap (λ (x : ℕ). member x i) (sym q) ∙ outside-member s t i ∙ and-fails (member s i) _ (ap not k)))
]

-- the numbers below n that are none of s
unfoldable pub rest_of : ℕ → ℕ → ℕ
rest_of n s = outside_of (2 ^ n - 1) s

-- it is a set of numbers below n
pub rest_below : (n s : ℕ) → rest_of n s < 2 ^ n
unfolding rest_of
rest_below n s = omega (arith, pow_pos n, subset-le (outside_of (2 ^ n - 1) s) (2 ^ n - 1) (outside-old (2 ^ n - 1) s))

-- each of the numbers is in it or in s
pub rest-cases : (n s i : ℕ) → i < n → (member (rest_of n s) i ≡ true) ⊎ (member s i ≡ true)
unfolding rest_of
rest-cases n s i h = outside-cases (2 ^ n - 1) s i (member-all n i h)

-- none is in both
pub rest-apart : (n s i : ℕ) → member (rest_of n s) i ≡ true → member s i ≡ false
unfolding rest_of
rest-apart n s i h = not-true _ (and_both (member (2 ^ n - 1) i) (not (member s i)) (sym (outside-member (2 ^ n - 1) s i) ∙ h)).1
