-- What is answered for generators, exactly: the list if R3.5 accepts them, and 12, 13 and 14 by number and place, each if its rule holds.
use Rattle.std.specs.Prelude.{◌≡◌, ◌⊎◌, ◌↔◌, List, ℕ}
use Rattle.operation.specs.Answer.{given, refused}
use Rattle.operation.specs.declared.Operation.{Operation}
use Rattle.centering.specs.declared.Centering.{Centering}
use Rattle.space_group.specs.Generated.{AllKeep, FewRotations, SmallRotations, OneTranslation}
use Rattle.space_group.specs.Told.{told, given-told, lattice-told, rotations-told, translations-told}
use Rattle.space_group_theorems.specs.Acceptance.{SmallGenerators, FirstOff, accepted-exactly, lattice-exactly}
use Rattle.space_group_theorems.specs.Witnesses.{ManyRotations, LargeRotation, TwoTranslations, rotations-refused, translations-refused}

module _ (c : Centering) (gens : List Operation) (small : SmallGenerators gens) where
  -- A list is given exactly if R3.5 accepts the generators.
  pub given-exactly : ((operations : List Operation) × (told c gens ≡ given operations))
      ↔ (AllKeep c gens × FewRotations gens × SmallRotations gens × OneTranslation c gens)
  given-exactly = (
    (λ (operations, e). let (steps, p) = (given-told c gens operations).0 e in (accepted-exactly c gens small).0 (operations, steps, p)),
    λ h. let (operations, steps, p) = (accepted-exactly c gens small).1 h in (operations, (given-told c gens operations).1 (steps, p)),
  )

  -- 12 at i: exactly if generator i is the first that does not map L onto L.
  pub twelve-exactly : (i : ℕ) → (told c gens ≡ refused 12 i tt) ↔ FirstOff c gens i
  twelve-exactly i = (
    (λ e. (lattice-exactly c gens small i).0 ((lattice-told c gens i).0 e)),
    λ h. (lattice-told c gens i).1 ((lattice-exactly c gens small i).1 h),
  )

  -- 13 at 0: exactly if every generator maps L onto L, and over 48 rotations are generated or one with an entry outside −1..1.
  pub thirteen-exactly : (told c gens ≡ refused 13 0 tt) ↔ (AllKeep c gens × (ManyRotations gens ⊎ LargeRotation gens))
  thirteen-exactly = (
    (λ e. (rotations-refused c gens small).0 ((rotations-told c gens).0 e)),
    λ h. (rotations-told c gens).1 ((rotations-refused c gens small).1 h),
  )

  -- 14 at 0: exactly if every generator does, at most 48 rotations with entries in −1..1 are generated, and two generated motions with one rotation have
  -- their translations apart modulo L.
  pub fourteen-exactly : (told c gens ≡ refused 14 0 tt) ↔ (AllKeep c gens × FewRotations gens × SmallRotations gens × TwoTranslations c gens)
  fourteen-exactly = (
    (λ e. (translations-refused c gens small).0 ((translations-told c gens).0 e)),
    λ h. (translations-told c gens).1 ((translations-refused c gens small).1 h),
  )
