-- The centred lattice L of a letter (R3): its points plus whole cells, classes modulo L, and the rotations that map L onto L.
use Rattle.std.specs.Prelude.{◌≡◌, refl, Bool, ℕ, T, pos, ◌+ℤ◌, length}
use Rattle.std.proofs.Common.{ap}
use mathlib.Core.List.Memᴰ.{head as here}
use mathlib.Core.List.Memᴰ.{tail as there}
use mathlib.Core.List.{map, Memᴰ as Mem}
use Rattle.std.proofs.Math.IntN.{+ℤ_idr}
use Rattle.laws.specs.Matrix.{plus, opposite}
use Rattle.laws.specs.Residue.{residue, Triple, triple≡, reduced, ◌⊕◌, minus}
use Rattle.laws.specs.Distinct.{has}
use Rattle.laws.specs.Lattice.{Points, are_points, are-points, zero_triple, same_triple, smallest, filled, keeps_sums, below_twelve, without_repeats}
use Rattle.laws.specs.Truth.{all, all-member}
use Rattle.operation.specs.Meaning.{vector_of}
use Rattle.operation.specs.declared.Translation.{Translation}
use Rattle.centering.specs.Letters.{letters, points_of}
use Rattle.centering.specs.declared.Centering.{Centering}
use Rattle.centering.specs.declared.Centering.TheVariants.{P, A, B, C, I, R, F, H}
use Rattle.centering.specs.declared.LatticePoints.{LatticePoints}

-- Every letter is listed, so that one test over the list speaks of each.
pub listed : (c : Centering) → Mem c letters
listed P = here refl
listed A = there (here refl)
listed B = there (there (here refl))
listed C = there (there (there (here refl)))
listed I = there (there (there (there (here refl))))
listed R = there (there (there (there (there (here refl)))))
listed F = there (there (there (there (there (there (here refl))))))
listed H = there (there (there (there (there (there (there (here refl)))))))

letters-test : T (all (λ c. are_points (points_of c)) letters)
unfolding all are_points keeps_sums below_twelve without_repeats has same_triple ◌⊕◌ minus
letters-test = tt

-- The points of each letter are those of a lattice.
pub points : (c : Centering) → Points (points_of c)
points c = are-points (points_of c) (all-member (λ c. are_points (points_of c)) letters-test (listed c))

-- ---- what the code answers
abbrev pub triple_of : Translation → Triple
triple_of t = record { x = t.x; y = t.y; z = t.z }

abbrev pub translation_of : Triple → Translation
translation_of t = record { x = t.x; y = t.y; z = t.z }

-- The points as four translations, (0,0,0) repeated after the last.
unfoldable pub lattice_points_of : Centering → LatticePoints
lattice_points_of c = record { count = length (points_of c); points = map translation_of (filled 4 (points_of c)) }

-- s − t modulo 12.
unfoldable pub difference_of : Translation → Translation → Translation
difference_of s t = translation_of (reduced (plus (vector_of s) (opposite (vector_of t))))

-- Whether a translation is in L.
unfoldable pub contains_of : Centering → Translation → Bool
contains_of c t = has same_triple (reduced (vector_of t)) (points_of c)

-- Whether two translations are in one class modulo L.
unfoldable pub congruent_of : Centering → Translation → Translation → Bool
congruent_of c s t = has same_triple (reduced (plus (vector_of s) (opposite (vector_of t)))) (points_of c)

-- The smallest triple 0 to 11, compared x first, in the class of t modulo L (R5.3).
unfoldable pub smallest_of : Centering → Translation → Translation
smallest_of c t = translation_of (smallest (points_of c) (triple_of t))

-- The difference from (0,0,0) is the translation modulo 12.
pub difference-origin : (t : Translation) → triple_of (difference_of t (translation_of zero_triple)) ≡ reduced (vector_of t)
unfolding difference_of vector_of plus opposite
difference-origin t = triple≡ (still t.x) (still t.y) (still t.z)
  where
    still : (a : ℕ) → residue (pos a +ℤ pos 0) ≡ residue (pos a)
    still a = ap residue (+ℤ_idr (pos a))
