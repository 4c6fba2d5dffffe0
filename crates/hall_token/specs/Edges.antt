-- What the digit and the letters of a run move by, said by cell edges and not by the table: halves, quarters, diagonals, and the rise of a screw.
-- These are true of no other lengths, so a table with another length for a letter, or another rise, contradicts them.
use Rattle.std.specs.Prelude.{◌≡◌, refl, true, List, [], ◌∷◌, ◌++◌, ℕ, zero, suc, ◌+◌, ◌*◌, ◌/◌, ◌%◌, ◌<◌, ◌≤◌}
use Rattle.std.proofs.Common.{◌∙◌, ap, arith}
use Rattle.operation.specs.declared.Translation.{Translation}
use Rattle.hall_axes.specs.declared.Fold.{Fold}
use Rattle.hall_axes.specs.declared.Fold.TheVariants.{One, Two, Three, Four, Six}
use Rattle.hall_token.specs.declared.RunByte.TheVariants.{Screw}
use Rattle.hall_axes.specs.Axes.{fold_number}
use Rattle.hall_token.specs.Bytes.{value_at, run_byte_of}
use Rattle.hall_token.specs.Runs.{no_screw}
use Rattle.hall_token.specs.Translations.{letter_vector, sum_x, sum_y, sum_z, rise, translation_of}
use Rattle.hall_token.specs.Sums.{triple, no_digit, no-rise, rise-lt}

abbrev plus : Translation → Translation → Translation
plus s t = triple (s.x + t.x) (s.y + t.y) (s.z + t.z)

-- What the byte of a letter moves by.
abbrev by : ℕ → Translation
by b = letter_vector (run_byte_of b)

-- a, b and c move by half an edge: twice is a whole one, of twelve twelfths.
pub half-edges : (plus (by 97) (by 97) ≡ triple 12 0 0) × (plus (by 98) (by 98) ≡ triple 0 12 0) × (plus (by 99) (by 99) ≡ triple 0 0 12)
unfolding run_byte_of value_at
half-edges = (refl, refl, refl)

-- u, v and w move by a quarter.
pub quarter-edges : (plus (by 117) (by 117) ≡ by 97) × (plus (by 118) (by 118) ≡ by 98) × (plus (by 119) (by 119) ≡ by 99)
unfolding run_byte_of value_at
quarter-edges = (refl, refl, refl)

-- n and d move by half of the cell's diagonal and by a quarter of it.
pub diagonals : (by 110 ≡ plus (plus (by 97) (by 98)) (by 99)) × (by 100 ≡ plus (plus (by 117) (by 118)) (by 119))
unfolding run_byte_of value_at
diagonals = (refl, refl)

-- ---- the screw

digit-byte : (s : ℕ) → 1 ≤ s → s ≤ 6 → run_byte_of (48 + s) ≡ Screw s
unfolding run_byte_of value_at
digit-byte zero h k = absurd (omega arith)
digit-byte (suc zero) h k = refl
digit-byte (suc (suc zero)) h k = refl
digit-byte (suc (suc (suc zero))) h k = refl
digit-byte (suc (suc (suc (suc zero)))) h k = refl
digit-byte (suc (suc (suc (suc (suc zero))))) h k = refl
digit-byte (suc (suc (suc (suc (suc (suc zero)))))) h k = refl
digit-byte (suc (suc (suc (suc (suc (suc (suc n))))))) h k = absurd (omega arith)

whole-edges : (f : Fold) (s : ℕ) → fold_number f * (12 * s / fold_number f) ≡ 12 * s
whole-edges One s = omega arith
whole-edges Two s = omega arith
whole-edges Three s = omega arith
whole-edges Four s = omega arith
whole-edges Six s = omega arith

-- The digit s rises by so much that the fold's number of such rises is s whole edges.
pub screw-length : (f : Fold) (s : ℕ) (run : List ℕ) → 1 ≤ s → s ≤ 6 → fold_number f * rise f ((48 + s) ∷ run) ≡ 12 * s
unfolding rise
screw-length f s run h k = rw (digit-byte s h k) (whole-edges f s)

-- ---- the sum

-- Without digit and letters nothing moves.
pub unmoved : (f : Fold) → translation_of f [] ≡ triple 0 0 0
unfolding translation_of rise sum_x sum_y sum_z
unmoved f = refl

-- A digit below the fold moves along z alone, by its rise.
pub digit-first : (f : Fold) (s : ℕ) → 1 ≤ s → s ≤ 6 → s < fold_number f → (z : ℕ) × (translation_of f ((48 + s) ∷ []) ≡ triple 0 0 z)
    × (fold_number f * z ≡ 12 * s)
unfolding translation_of rise sum_x sum_y sum_z
digit-first f s h k l =
    rw (digit-byte s h k)
    (12 * s / fold_number f, (λ i. triple 0 0 (below i)), whole-edges f s)
  where
    below : (12 * s / fold_number f + (0 + 0)) % 12 ≡ 12 * s / fold_number f
    below = let small = rise-lt f s l in omega arith

-- Each letter behind adds what it moves by, modulo 12.
pub letter-added : (f : Fold) (run : List ℕ) (b : ℕ) → no_screw (run_byte_of b) ≡ true
    → translation_of f (run ++ (b ∷ []))
    ≡ triple (((translation_of f run).x + (by b).x) % 12) (((translation_of f run).y + (by b).y) % 12) (((translation_of f run).z + (by b).z) % 12)
unfolding translation_of rise sum_x sum_y sum_z
letter-added f run b h =
    let x : sum_x (run ++ (b ∷ [])) % 12 ≡ (sum_x run % 12 + (by b).x) % 12 = let e = along-x run in omega arith in
    let y : sum_y (run ++ (b ∷ [])) % 12 ≡ (sum_y run % 12 + (by b).y) % 12 = let e = along-y run in omega arith in
    let z : (rise f (run ++ (b ∷ [])) + sum_z (run ++ (b ∷ []))) % 12 ≡ ((rise f run + sum_z run) % 12 + (by b).z) % 12 =
    let e = along-z run in
    let g = same-rise run in
    omega arith in
    λ i. triple (x i) (y i) (z i)
  where
    along-x : (run : List ℕ) → sum_x (run ++ (b ∷ [])) ≡ sum_x run + (by b).x
    along-x [] = omega arith
    along-x (c ∷ cs) = let e = along-x cs in omega arith

    along-y : (run : List ℕ) → sum_y (run ++ (b ∷ [])) ≡ sum_y run + (by b).y
    along-y [] = omega arith
    along-y (c ∷ cs) = let e = along-y cs in omega arith

    along-z : (run : List ℕ) → sum_z (run ++ (b ∷ [])) ≡ sum_z run + (by b).z
    along-z [] = omega arith
    along-z (c ∷ cs) = let e = along-z cs in omega arith

    same-rise : (run : List ℕ) → rise f (run ++ (b ∷ [])) ≡ rise f run
    same-rise [] = ap (λ (s : ℕ). 12 * s / fold_number f) (no_digit (run_byte_of b) h) ∙ no-rise f
    same-rise (c ∷ cs) = refl
