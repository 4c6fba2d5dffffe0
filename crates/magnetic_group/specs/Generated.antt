-- From generators with flags to a group of flagged motions of space, by the rules of magnetic symbols: what generators generate, when they are accepted, and
-- what is answered then. Products combine flags by exclusive or; a rotation may come once with the flag and once without it.
use Rattle.std.specs.Prelude.{◌≡◌, false, cond, ℕ, ◌≤◌, ltb, length}
use mathlib.Core.List.{List, map, Memᴰ as Mem}
use Rattle.laws.specs.Matrix.{Matrix, unit}
use Rattle.laws.specs.Motion.{SpaceMotion, compose, identity}
use Rattle.laws.specs.Distinct.{Distinct}
use Rattle.laws.specs.Closure.{Reached}
use Rattle.laws.specs.Lattice.{InLattice}
use Rattle.laws.specs.SameMatrix.{same_matrix}
use Rattle.group_growth.specs.Verdicts.{Verdict, listed, overgrown, torn, image_verdict}
use Rattle.group_growth.specs.Growing.{Growing, verdict}
use Rattle.group_growth.specs.Flagged.{Flagged, held, image_flagged, same_flagged, times_flagged}
use Rattle.group_growth.specs.FlaggedGrowth.{with_flag}
use Rattle.operation.specs.Meaning.{motion_of}
use Rattle.operation.specs.Entries.{Entries}
use Rattle.operation.specs.Product.{operation_of}
use Rattle.operation.specs.declared.Operation.{Operation}
use Rattle.centering.specs.Letters.{points_of}
use Rattle.centering.specs.declared.Centering.{Centering}
use Rattle.space_group.specs.Generated.{first_off}
use Rattle.space_group.specs.OperationGrowth.{motion_growth}
use Rattle.space_group.specs.declared.refusal.Refusal.{Refusal}
use Rattle.space_group.specs.declared.refusal.Refusal.TheVariants.{Lattice, Rotations, Translations}
use Rattle.space_group.specs.FlaggedOutcomes.{plain_of}

-- ---- sets of flagged motions
abbrev pub FlaggedMotion : Type 0
FlaggedMotion = Flagged SpaceMotion

abbrev pub compose_flagged : FlaggedMotion → FlaggedMotion → FlaggedMotion
compose_flagged = times_flagged compose

-- The generators as flagged motions of space.
abbrev pub flagged_motions : List (Flagged Operation) → List FlaggedMotion
flagged_motions gens = map (image_flagged motion_of) gens

-- The least set with the identity, whose flag is 0, and closed under a generator as right factor.
abbrev pub Generated : List (Flagged Operation) → FlaggedMotion → Type 0
Generated gens = Reached compose_flagged (held identity) (flagged_motions gens)

-- The rotation and the flag of a flagged motion.
abbrev pub pair_of : FlaggedMotion → Flagged Matrix
pair_of = image_flagged (λ (f : SpaceMotion). f.rotation)

abbrev pub GeneratedPair : List (Flagged Operation) → Flagged Matrix → Type 0
GeneratedPair gens A = (f : FlaggedMotion) × Generated gens f × (pair_of f ≡ A)

-- ---- when generators are accepted
-- The generated pairs of a rotation and a flag number at most 96.
abbrev pub FewPairs : List (Flagged Operation) → Type 0
FewPairs gens = (l : List (Flagged Matrix)) → Distinct (same_flagged same_matrix) l → ((A : Flagged Matrix) → Mem A l → GeneratedPair gens A) → length l ≤ 96

-- All entries of generated rotations are in −1..1.
abbrev pub SmallPairs : List (Flagged Operation) → Type 0
SmallPairs gens = (A : Flagged Matrix) → GeneratedPair gens A → Entries A.element

-- No generated motion with identity rotation and without the flag has its translation outside L.
abbrev pub OneTranslation : Centering → List (Flagged Operation) → Type 0
OneTranslation c gens =
    (f : FlaggedMotion) → Generated gens f → f.element.rotation ≡ unit → f.flag ≡ false → InLattice (points_of c) f.element.translation

-- ---- what is answered
-- Flagged motions, told apart by rotation and flag, and alike where their translations are in one class modulo L.
abbrev pub flagged_growth : Centering → Growing
flagged_growth c = with_flag (motion_growth c)

-- Breadth first from the identity, right factor running over the generators in order, each pair once, at most 96.
abbrev pub verdict_of : Centering → List (Flagged Operation) → Verdict FlaggedMotion
verdict_of c gens = verdict (flagged_growth c) 96 (flagged_motions gens)

-- A group, its operations in list order and the index of each product with a generator; or a refusal.
pub data MagneticOutcome : Type 0 where
  group : List (Flagged Operation) → List ℕ → MagneticOutcome
  refused : Refusal → MagneticOutcome

-- 13 says that the list passes 96 or an entry leaves −1..1, 14 that two translations came for one rotation and flag.
abbrev pub of_verdict : Verdict (Flagged Operation) → MagneticOutcome
of_verdict (listed operations steps) = group operations steps
of_verdict overgrown = refused Rotations
of_verdict torn = refused Translations

-- The flagged operations of what is answered of the motions.
abbrev pub answered : Verdict FlaggedMotion → MagneticOutcome
answered v = of_verdict (image_verdict (image_flagged operation_of) v)

-- 12 goes before both, and does not look at flags.
unfoldable pub outcome_of : Centering → List (Flagged Operation) → MagneticOutcome
outcome_of c gens =
    cond (ltb (first_off c (plain_of gens)) (length (plain_of gens))) (refused (Lattice (first_off c (plain_of gens)))) (answered (verdict_of c gens))
