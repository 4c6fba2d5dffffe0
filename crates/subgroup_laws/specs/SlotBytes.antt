-- The bytes of a slot (R7.1: a set is eight bytes, high byte first), said without the quotients by which they are made.
use Rattle.std.specs.Prelude.{◌≡◌, refl, List, [], ◌∷◌, ℕ, zero, suc, ◌+◌, ◌*◌, ◌-◌, ◌/◌, ◌%◌, ◌<◌, ◌^◌, get_or, length}
use Rattle.std.proofs.Common.{arith}
use Rattle.subgroup_laws.specs.Slots.{bytes_of, number_in_bytes}

-- there are eight,
pub eight-bytes : (m : ℕ) → length (bytes_of m) ≡ 8
eight-bytes m = refl

-- each a digit to the base 256,
pub digit-of-slot : (m i : ℕ) → i < 8 → get_or (bytes_of m) i 0 ≡ m / 256 ^ (7 - i) % 256
digit-of-slot m zero h = omega arith
digit-of-slot m (suc zero) h = omega arith
digit-of-slot m (suc (suc zero)) h = omega arith
digit-of-slot m (suc (suc (suc zero))) h = omega arith
digit-of-slot m (suc (suc (suc (suc zero)))) h = omega arith
digit-of-slot m (suc (suc (suc (suc (suc zero))))) h = omega arith
digit-of-slot m (suc (suc (suc (suc (suc (suc zero)))))) h = omega arith
digit-of-slot m (suc (suc (suc (suc (suc (suc (suc zero))))))) h = omega arith
digit-of-slot m (suc (suc (suc (suc (suc (suc (suc (suc i)))))))) h = absurd (omega arith)

-- and the first counts most, so that the set is their sum by place;
pub high-byte-first : (m : ℕ) → m < 2 ^ 64
    → get_or (bytes_of m) 0 0 * 256 ^ 7 + get_or (bytes_of m) 1 0 * 256 ^ 6 + get_or (bytes_of m) 2 0 * 256 ^ 5 + get_or (bytes_of m) 3 0 * 256 ^ 4
    + get_or (bytes_of m) 4 0 * 256 ^ 3 + get_or (bytes_of m) 5 0 * 256 ^ 2 + get_or (bytes_of m) 6 0 * 256 + get_or (bytes_of m) 7 0 ≡ m
high-byte-first m h = omega arith

-- as in this one.
pub counted-bytes : bytes_of 72623859790382856 ≡ 1 ∷ 2 ∷ 3 ∷ 4 ∷ 5 ∷ 6 ∷ 7 ∷ 8 ∷ []
counted-bytes = refl

-- Read back, the first byte counts most too.
pub counted_back : (l : List ℕ) → number_in_bytes (1 ∷ 2 ∷ 3 ∷ 4 ∷ 5 ∷ 6 ∷ 7 ∷ 8 ∷ l) ≡ 72623859790382856
unfolding number_in_bytes
counted_back l = refl
