-- What a loop over the numbers below a bound decides: whether all of them pass a test, whether one of them does, and which is the first.
use Rattle.std.specs.Prelude.{◌≡◌, refl, ◌⊎◌, Bool, true, false, cond, ◌&&◌, ◌||◌, ℕ, zero, suc, ◌<◌, ltb}
use Rattle.std.proofs.Common.{sym, ap, ◌∙◌, inl, inr, true≢false, arith, lt-ltb, le-ltb}
use Rattle.std.proofs.Math.Decide.{ℕ_discrete, dec_lt}
use Rattle.laws.specs.Truth.{and_both, both-and, or-either, or-holds-left, or-holds-right, passes-or-fails, not-passing}

-- ---- all

-- p holds of each number below n
unfoldable pub every : (ℕ → Bool) → ℕ → Bool
every p zero = true
every p (suc n) = every p n && p n

-- if all pass, each does
pub every-passes : (p : ℕ → Bool) (n : ℕ) → every p n ≡ true → (i : ℕ) → i < n → p i ≡ true
unfolding every
every-passes p zero e i h = absurd (omega arith)
every-passes p (suc n) e i h = elim (ℕ_discrete i n) [
  | yes q ↦ rw q (and_both (every p n) (p n) e).1
  | no q ↦ every-passes p n (and_both (every p n) (p n) e).0 i (omega arith)
]

-- if each passes, all do
pub passes-every : (p : ℕ → Bool) (n : ℕ) → ((i : ℕ) → i < n → p i ≡ true) → every p n ≡ true
unfolding every
passes-every p zero f = refl
passes-every p (suc n) f = both-and (every p n) (p n) (passes-every p n (λ i h. f i (omega arith))) (f n (omega arith))

-- if one fails, not all pass
pub fails-every : (p : ℕ → Bool) (n i : ℕ) → i < n → p i ≡ false → every p n ≡ false
fails-every p n i h e = not-passing (every p n) (λ all. true≢false (sym (every-passes p n all i h) ∙ e))

-- if not all pass, one fails
pub every-fails : (p : ℕ → Bool) (n : ℕ) → every p n ≡ false → (i : ℕ) × (i < n) × (p i ≡ false)
unfolding every
every-fails p zero e = absurd (true≢false e)
every-fails p (suc n) e = elim (passes-or-fails (p n)) [
  | inr f ↦ (n, omega arith, f)
  | inl t ↦ elim (passes-or-fails (every p n)) [
    | inl all ↦ absurd (true≢false (sym (both-and (every p n) (p n) all t) ∙ e))
    | inr some ↦ let (i, h, f) = every-fails p n some in (i, omega arith, f)
  ]
]

-- ---- one

-- p holds of some number below n
unfoldable pub some : (ℕ → Bool) → ℕ → Bool
some p zero = false
some p (suc n) = some p n || p n

-- if one passes, some do
pub passes-some : (p : ℕ → Bool) (n i : ℕ) → i < n → p i ≡ true → some p n ≡ true
unfolding some
passes-some p zero i h e = absurd (omega arith)
passes-some p (suc n) i h e = elim (ℕ_discrete i n) [
  | yes q ↦ or-holds-right (some p n) (p n) (ap p (sym q) ∙ e)
  | no q ↦ or-holds-left (some p n) (p n) (passes-some p n i (omega arith) e)
]

-- if some pass, one does
pub some-passes : (p : ℕ → Bool) (n : ℕ) → some p n ≡ true → (i : ℕ) × (i < n) × (p i ≡ true)
unfolding some
some-passes p zero e = absurd (true≢false (sym e))
some-passes p (suc n) e = elim (or-either (some p n) (p n) e) [
  | inl f ↦ let (i, h, g) = some-passes p n f in (i, omega arith, g)
  | inr f ↦ (n, omega arith, f)
]

-- ---- the first

-- the first number below n that passes, and n if none does
unfoldable pub first : (ℕ → Bool) → ℕ → ℕ
first p zero = zero
first p (suc n) = cond (ltb (first p n) n) (first p n) (cond (p n) n (suc n))

-- either it passes and all before it fail, or it is n and all below n fail
pub record FirstPassing (p : ℕ → Bool) (n i : ℕ) : Type 0 where
  pub below : i < n
  pub passes : p i ≡ true
  pub before : (k : ℕ) → k < i → p k ≡ false

-- one of the two holds
pub first-cases : (p : ℕ → Bool) (n : ℕ) → FirstPassing p n (first p n) ⊎ ((first p n ≡ n) × ((k : ℕ) → k < n → p k ≡ false))
unfolding first
first-cases p zero = inr (refl, λ k h. absurd (omega arith))
first-cases p (suc n) = elim (first-cases p n) [
  | inl f ↦ inl (rw (lt-ltb (first p n) n f.below) (record { below = let h = f.below in omega arith; passes = f.passes; before = f.before }))
  | inr f ↦ rw (le-ltb (first p n) n (let e = f.0 in omega arith)) (either (p n) refl f.1)
]
  where
    last : p n ≡ false → ((k : ℕ) → k < n → p k ≡ false) → (k : ℕ) → k < suc n → p k ≡ false
    last e none k h = elim (ℕ_discrete k n) [ yes q ↦ rw q e | no q ↦ none k (omega arith) ]

    either : (b : Bool) → p n ≡ b → ((k : ℕ) → k < n → p k ≡ false)
        → FirstPassing p (suc n) (cond b n (suc n)) ⊎ ((cond b n (suc n) ≡ suc n) × ((k : ℕ) → k < suc n → p k ≡ false))
    either true e none = inl (record { below = omega arith; passes = e; before = none })
    either false e none = inr (refl, last e none)

-- a number below n that passes is at least the first
pub first-least : (p : ℕ → Bool) (n i : ℕ) → i < n → p i ≡ true → FirstPassing p n (first p n)
first-least p n i h e = elim (first-cases p n) [
  | inl f ↦ f
  | inr f ↦ absurd (true≢false (sym e ∙ f.1 i h))
]

-- a number that passes after all before it failed is the first
pub first_found : (p : ℕ → Bool) (n i : ℕ) → FirstPassing p n i → first p n ≡ i
first_found p n i g =
    let f = first-least p n i g.below g.passes in
    elim (dec_lt (first p n) i) [
      | yes l ↦ absurd (true≢false (sym f.passes ∙ g.before (first p n) l))
      | no l ↦ elim (dec_lt i (first p n)) [
        | yes m ↦ absurd (true≢false (sym g.passes ∙ f.before i m))
        | no m ↦ omega arith
      ]
    ]

-- if all fail it is n
pub first-none : (p : ℕ → Bool) (n : ℕ) → ((k : ℕ) → k < n → p k ≡ false) → first p n ≡ n
first-none p n none = elim (first-cases p n) [
  | inl f ↦ absurd (true≢false (sym f.passes ∙ none (first p n) f.below))
  | inr f ↦ f.0
]

-- below n it passes, and all before it fail
pub first-passing : (p : ℕ → Bool) (n : ℕ) → first p n < n → FirstPassing p n (first p n)
first-passing p n h = elim (first-cases p n) [ inl f ↦ f | inr f ↦ absurd (let e = f.0 in omega arith) ]
