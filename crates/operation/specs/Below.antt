-- A test that antt computes at every number below a bound, and so a fact about each of them.
use Rattle.std.specs.Prelude.{◌≡◌, Bool, true, ◌&&◌, ℕ, zero, suc, ◌<◌, ◌≤◌}
use Rattle.std.proofs.Common.{⊎_elim, eq-or-lt_of_le, arith}
use Rattle.std.proofs.Math.Bool.{and-eq-true_iff}

-- Whether the test passes at 0, 1, .., n − 1.
unfoldable pub all_below : ℕ → (ℕ → Bool) → Bool
all_below zero f = true
all_below (suc n) f = f n && all_below n f

-- Below the next number is at most this one.
at_most : {k n : ℕ} → k < suc n → k ≤ n
at_most l = omega arith

-- A test that passes at all numbers below n passes at each.
pub below : (n : ℕ) (f : ℕ → Bool) → all_below n f ≡ true → (k : ℕ) → k < n → f k ≡ true
unfolding all_below
below zero f h k l = absurd (omega arith)
below (suc n) f h k l =
    let t = (and-eq-true_iff (f n) (all_below n f)).0 h in
    ⊎_elim (λ e. rw e t.0) (λ m. below n f t.1 k m) (eq-or-lt_of_le (at_most l))
