-- From generators to a group by R3, of motions of space: what generators generate, when a symbol is accepted, and what it is answered then.
use Rattle.std.specs.Prelude.{◌≡◌, Bool, cond, ℕ, zero, suc, ◌≤◌, ltb, length}
use Rattle.std.proofs.Math.Option.{Option, some, none}
use mathlib.Core.List.{List, [], ◌∷◌, map, Memᴰ as Mem}
use Rattle.laws.specs.Matrix.{Matrix, unit, plus, opposite}
use Rattle.laws.specs.Motion.{SpaceMotion, compose, identity}
use Rattle.laws.specs.Residue.{reduced}
use Rattle.laws.specs.Distinct.{has, Distinct}
use Rattle.laws.specs.Closure.{Reached, closure}
use Rattle.laws.specs.Lattice.{same_triple, InLattice}
use Rattle.laws.specs.LatticeMaps.{MapsOnto}
use Rattle.laws.specs.SameMatrix.{same_matrix, same_rotation}
use Rattle.group_growth.specs.Verdicts as verdicts
use Rattle.group_growth.specs.Verdicts.{Verdict, listed, overgrown, torn, image_verdict}
use Rattle.operation.specs.Meaning.{matrix_of, motion_of, all_inside}
use Rattle.operation.specs.Entries.{Entries}
use Rattle.operation.specs.Product.{operation_of}
use Rattle.operation.specs.declared.Operation.{Operation}
use Rattle.centering.specs.Letters.{points_of}
use Rattle.centering.specs.Keeps.{keeps_of}
use Rattle.centering.specs.declared.Centering.{Centering}
use Rattle.space_group.specs.declared.refusal.Refusal.{Refusal}
use Rattle.space_group.specs.declared.refusal.Refusal.TheVariants.{Lattice, Rotations, Translations}

-- ---- sets of motions
-- The generators as motions of space.
abbrev pub motions : List Operation → List SpaceMotion
motions gens = map motion_of gens

-- The least set with the identity and closed under a generator as right factor.
abbrev pub Generated : List Operation → SpaceMotion → Type 0
Generated gens = Reached compose identity (motions gens)

-- The rotation of a generated motion.
abbrev pub GeneratedRotation : List Operation → Matrix → Type 0
GeneratedRotation gens A = (f : SpaceMotion) × Generated gens f × (f.rotation ≡ A)

-- ---- when a symbol is accepted
-- Every generator maps L onto L.
abbrev pub AllKeep : Centering → List Operation → Type 0
AllKeep c gens = (g : Operation) → Mem g gens → MapsOnto (points_of c) (matrix_of g.rotation)

-- The generated rotations number at most 48.
abbrev pub FewRotations : List Operation → Type 0
FewRotations gens = (l : List Matrix) → Distinct same_matrix l → ((A : Matrix) → Mem A l → GeneratedRotation gens A) → length l ≤ 48

-- All their entries are in −1..1.
abbrev pub SmallRotations : List Operation → Type 0
SmallRotations gens = (A : Matrix) → GeneratedRotation gens A → Entries A

-- No generated motion with identity rotation has its translation outside L.
abbrev pub OneTranslation : Centering → List Operation → Type 0
OneTranslation c gens = (f : SpaceMotion) → Generated gens f → f.rotation ≡ unit → InLattice (points_of c) f.translation

-- ---- what is answered
-- The index of the first generator that does not map L onto L.
unfoldable pub first_off : Centering → List Operation → ℕ
first_off c [] = zero
first_off c (g ∷ gens) = let later = suc (first_off c gens) in cond (keeps_of c g.rotation) later zero

-- Breadth first from the identity, right factor running over the generators in order, each rotation once, at most 48.
unfoldable pub listing : List Operation → Option (List SpaceMotion)
listing gens = closure same_rotation compose identity (motions gens) 48

-- All entries of a motion's rotation are in −1..1.
unfoldable pub is_small : SpaceMotion → Bool
is_small f = all_inside f.rotation

-- Two motions have their translations in one class modulo L.
unfoldable pub same_vector_class : Centering → SpaceMotion → SpaceMotion → Bool
same_vector_class c f g = has same_triple (reduced (plus f.translation (opposite g.translation))) (points_of c)

-- A group, its operations in list order and the index of each product with a generator; or a refusal.
pub data Outcome : Type 0 where
  group : List Operation → List ℕ → Outcome
  refused : Refusal → Outcome

-- 13 says that the list passes 48 or an entry leaves −1..1, 14 that two translations came for one rotation.
abbrev pub of_verdict : Verdict Operation → Outcome
of_verdict (listed operations steps) = group operations steps
of_verdict overgrown = refused Rotations
of_verdict torn = refused Translations

-- Of the list: 13 goes before 14, which says that a step from the list does not come back to it.
unfoldable pub on_list : Centering → List Operation → List SpaceMotion → Outcome
on_list c gens l = of_verdict (image_verdict operation_of (verdicts.on_list same_rotation (same_vector_class c) is_small compose (motions gens) l))

abbrev pub on_listing : Centering → List Operation → Option (List SpaceMotion) → Outcome
on_listing c gens none = refused Rotations
on_listing c gens (some l) = on_list c gens l

-- 12 goes before both.
unfoldable pub outcome_of : Centering → List Operation → Outcome
outcome_of c gens =
    let answer = on_listing c gens (listing gens) in
    cond (ltb (first_off c gens) (length gens)) (refused (Lattice (first_off c gens))) answer
