-- The two classes of bytes by their numbers in R1.1 and R1.2, so that the tests by which texts are read and spelled are no
-- other classes.
use Rattle.std.specs.Prelude.{◌≡◌, refl, ◌⊎◌, ◌↔◌, Bool, true, false, ◌&&◌, ◌||◌, ℕ, ◌≤◌, eqb, leb}
use Rattle.std.proofs.Common.{sym, inl, inr, true≢false, eqb-true, leb-true, eq-eqb, le-leb}
use Rattle.std.proofs.Math.Bool.{and-eq-true_iff}
use Rattle.hall_symbol.specs.Bytes.{whitespace, allowed}

-- From one number to another.
abbrev pub Between : ℕ → ℕ → ℕ → Type 0
Between low high b = (low ≤ b) × (b ≤ high)

-- Tokens are separated by bytes 9 to 13 and 32.
abbrev pub Whitespace : ℕ → Type 0
Whitespace b = Between 9 13 b ⊎ (b ≡ 32)

-- A byte may be 9 to 13 or 32 to 126.
abbrev pub Allowed : ℕ → Type 0
Allowed b = Between 9 13 b ⊎ Between 32 126 b

between-exactly : (low high b : ℕ) → (leb low b && leb b high ≡ true) ↔ Between low high b
between-exactly low high b =
    let both = and-eq-true_iff (leb low b) (leb b high) in
    ((λ e. (leb-true low b (both.0 e).0, leb-true b high (both.0 e).1)), λ h. both.1 (le-leb low b h.0, le-leb b high h.1))

either-exactly : (a b : Bool) → (a || b ≡ true) ↔ ((a ≡ true) ⊎ (b ≡ true))
either-exactly true b = ((λ e. inl refl), λ h. refl)
either-exactly false b = (inr, λ h. go h)
  where
    go : (false ≡ true) ⊎ (b ≡ true) → b ≡ true
    go (inl e) = absurd (true≢false (sym e))
    go (inr e) = e

pub whitespace-exactly : (b : ℕ) → (whitespace b ≡ true) ↔ Whitespace b
unfolding whitespace
whitespace-exactly b = (λ e. there (either.0 e), λ h. either.1 (back h))
  where
    either : (whitespace b ≡ true) ↔ ((leb 9 b && leb b 13 ≡ true) ⊎ (eqb b 32 ≡ true))
    either = either-exactly (leb 9 b && leb b 13) (eqb b 32)

    there : (leb 9 b && leb b 13 ≡ true) ⊎ (eqb b 32 ≡ true) → Whitespace b
    there (inl e) = inl ((between-exactly 9 13 b).0 e)
    there (inr e) = inr (eqb-true b 32 e)

    back : Whitespace b → (leb 9 b && leb b 13 ≡ true) ⊎ (eqb b 32 ≡ true)
    back (inl h) = inl ((between-exactly 9 13 b).1 h)
    back (inr e) = inr (eq-eqb b 32 e)

pub allowed-exactly : (b : ℕ) → (allowed b ≡ true) ↔ Allowed b
unfolding allowed
allowed-exactly b = (λ e. there (either.0 e), λ h. either.1 (back h))
  where
    either : (allowed b ≡ true) ↔ ((leb 9 b && leb b 13 ≡ true) ⊎ (leb 32 b && leb b 126 ≡ true))
    either = either-exactly (leb 9 b && leb b 13) (leb 32 b && leb b 126)

    there : (leb 9 b && leb b 13 ≡ true) ⊎ (leb 32 b && leb b 126 ≡ true) → Allowed b
    there (inl e) = inl ((between-exactly 9 13 b).0 e)
    there (inr e) = inr ((between-exactly 32 126 b).0 e)

    back : Allowed b → (leb 9 b && leb b 13 ≡ true) ⊎ (leb 32 b && leb b 126 ≡ true)
    back (inl h) = inl ((between-exactly 9 13 b).1 h)
    back (inr h) = inr ((between-exactly 32 126 b).1 h)
