-- Generators with flags, and the numbers by which they multiply: each says its generator modulo 12, and its flag.
use Rattle.std.specs.Prelude.{◌≡◌, refl, Bool, true, false, List, [], ◌∷◌, map, ℕ, zero, suc, ◌+◌, ◌<◌, length, get_or, take}
use Rattle.std.proofs.Common.{sym, ◌∙◌, ap, arith}
use Rattle.group_growth.specs.Flagged.{Flagged, flagged_by, held}
use Rattle.operation.specs.declared.Operation.{Operation}
use Rattle.packed_operation.specs.Number.{packed_of, narrowed}
use Rattle.space_group.specs.NumberGrowth.{reduced_operation, generator_number}

-- Generators with their flags, one by one.
abbrev pub with_flags : List Operation → List Bool → List (Flagged Operation)
with_flags [] fs = []
with_flags (g ∷ gs) [] = held g ∷ with_flags gs []
with_flags (g ∷ gs) (f ∷ fs) = flagged_by f g ∷ with_flags gs fs

-- A flag as a bit.
abbrev pub bit_of : Bool → ℕ
bit_of true = 1
bit_of false = 0

-- The number by which a generator with a flag multiplies.
unfoldable pub flagged_number : Flagged Operation → ℕ
flagged_number g = packed_of (narrowed (reduced_operation g.element)) (bit_of g.flag)

-- ---- as it is made
-- The highest bit is free,
generator-small : (g : Operation) → generator_number g < 9223372036854775808
unfolding generator_number
generator-small g = omega arith

pub flag-free : (n : ℕ) (g : Operation) → n ≡ generator_number g → n < 9223372036854775808
flag-free n g e = rw e (generator-small g)

-- and is 1 with the flag,
reversed-number : (g : Operation) → generator_number g + 9223372036854775808 ≡ flagged_number (flagged_by true g)
unfolding generator_number flagged_number
reversed-number g = omega arith

pub with-flag : (n : ℕ) (g : Operation) (b : Bool) → n ≡ generator_number g → b ≡ true → n + 9223372036854775808 ≡ flagged_number (flagged_by b g)
with-flag n g b e f = rw (e, f) (reversed-number g)

-- 0 without it.
pub without-flag : (n : ℕ) (g : Operation) (b : Bool) → n ≡ generator_number g → b ≡ false → n ≡ flagged_number (flagged_by b g)
unfolding generator_number flagged_number
without-flag n g b e f = rw (e, f) refl

-- ---- as many as there are generators
pub with-length : (gs : List Operation) (fs : List Bool) → length (with_flags gs fs) ≡ length gs
with-length [] fs = refl
with-length (g ∷ gs) [] = ap suc (with-length gs [])
with-length (g ∷ gs) (f ∷ fs) = ap suc (with-length gs fs)

pub with_at : (gs : List Operation) (fs : List Bool) (i : ℕ) (g : Operation) (b : Bool) (d : Flagged Operation) → i < length gs → i < length fs
    → get_or (with_flags gs fs) i d ≡ flagged_by (get_or fs i b) (get_or gs i g)
with_at [] fs i g b d h k = absurd (omega arith)
with_at (o ∷ gs) [] i g b d h k = absurd (omega arith)
with_at (o ∷ gs) (f ∷ fs) zero g b d h k = refl
with_at (o ∷ gs) (f ∷ fs) (suc i) g b d h k = with_at gs fs i g b d (omega arith) (omega arith)

take_none : (n : ℕ) → take {A = Bool} n [] ≡ []
take_none zero = refl
take_none (suc n) = refl

-- The first n with their flags.
pub with-take : (n : ℕ) (gs : List Operation) (fs : List Bool) → with_flags (take n gs) (take n fs) ≡ take n (with_flags gs fs)
with-take zero gs fs = refl
with-take (suc n) [] fs = refl
with-take (suc n) (g ∷ gs) [] = ap (λ l. held g ∷ l) (ap (with_flags (take n gs)) (sym (take_none n)) ∙ with-take n gs [])
with-take (suc n) (g ∷ gs) (f ∷ fs) = ap (λ l. flagged_by f g ∷ l) (with-take n gs fs)

-- The flags taken off again.
pub plain-with : (gs : List Operation) (fs : List Bool) → map (λ (g : Flagged Operation). g.element) (with_flags gs fs) ≡ gs
plain-with [] fs = refl
plain-with (g ∷ gs) [] = ap (λ (l : List Operation). g ∷ l) (plain-with gs [])
plain-with (g ∷ gs) (f ∷ fs) = ap (λ (l : List Operation). g ∷ l) (plain-with gs fs)
