-- The set of flagged motions of accepted generators, all finite products of generators and of translations by L without the flag, is the listed operations
-- with L added.
use Rattle.std.specs.Prelude.{◌↔◌, ℕ}
use mathlib.Core.List.{List, Memᴰ as Mem}
use Rattle.group_growth.specs.WholeSet as growing
use Rattle.group_growth.specs.Flagged.{Flagged, image_flagged}
use Rattle.group_growth.specs.FlaggedGrowth.{FreeFlagged, free-with-flag}
use Rattle.operation.specs.Meaning.{motion_of}
use Rattle.operation.specs.declared.Operation.{Operation}
use Rattle.centering.specs.declared.Centering.{Centering}
use Rattle.space_group.specs.OperationGrowth.{motion_growth}
use Rattle.space_group_theorems.specs.SetOfMotions.{LatticeTranslation, translations-free}
use Rattle.magnetic_group.specs.Generated.{FlaggedMotion, flagged_motions, flagged_growth}
use Rattle.magnetic_group.specs.Acceptance.{MagneticAccepted, flagged-keep}
use Rattle.magnetic_group.specs.Members.{flagged_forms, Near, member-listed, listed-member}

-- The least set with the identity, without the flag, and closed under a generator, or a translation by a vector of L without the flag, as right factor.
abbrev pub InFlaggedSet : Centering → List (Flagged Operation) → FlaggedMotion → Type 0
InFlaggedSet c gens = growing.InWholeSet (flagged_growth c) (FreeFlagged (LatticeTranslation c)) (flagged_motions gens)

module _ (c : Centering) (gens operations : List (Flagged Operation)) (steps : List ℕ) (A : MagneticAccepted c gens operations steps) where
  pub set-exactly : (f : FlaggedMotion) → InFlaggedSet c gens f ↔ ((o : Flagged Operation) × Mem o operations × Near c f (image_flagged motion_of o))
  set-exactly f =
      let free = free-with-flag (motion_growth c) (LatticeTranslation c) (translations-free c) in
      let kept = flagged-keep c gens A.keep in
      let whole = growing.set-exactly (flagged_growth c) (FreeFlagged (LatticeTranslation c)) (flagged_motions gens) free kept in
      let exactly = whole 96 A.list steps A.whole (flagged_forms c) f in (
        (λ s. let (o, m, near) = exactly.0 s in (o, listed-member c gens operations steps A o m, near)),
        λ (o, m, near). exactly.1 (o, member-listed c gens operations steps A o m, near),
      )
