-- What 13 and 14 show, in the words of R8: over 48 generated rotations or one with an entry outside −1..1, and two translations modulo L for one
-- rotation: what a growth up to a limit shows, said of motions.
use Rattle.std.specs.Prelude.{◌≡◌, refl, ◌⊎◌, ◌↔◌, ℕ, ◌<◌, length}
use Rattle.std.proofs.Common.{sym, ◌∙◌, ap, inl, inr, arith}
use mathlib.Core.List.{List, map, Memᴰ as Mem}
use Rattle.std.proofs.Math.Decide.{dec_lt}
use Rattle.std.proofs.lemmas.List.{length-map}
use Rattle.laws.specs.Matrix.{Matrix}
use Rattle.laws.specs.Motion.{SpaceMotion}
use Rattle.laws.specs.Distinct.{Distinct}
use Rattle.laws.specs.Lattice.{Congruent}
use Rattle.laws.specs.SameMatrix.{same_matrix, same-rotation, rotation-same}
use Rattle.group_growth.specs.Growing.{Many, Unfit, TwoToKey}
use Rattle.group_growth.specs.Acceptance.{overgrown-shown, overgrown-refused, torn-shown, torn-refused}
use Rattle.operation.specs.Entries.{Entries}
use Rattle.operation.specs.declared.Operation.{Operation}
use Rattle.centering.specs.Letters.{points_of}
use Rattle.centering.specs.declared.Centering.{Centering}
use Rattle.space_group.specs.Generated.{motions, Generated, GeneratedRotation, AllKeep, FewRotations, SmallRotations, first_off, refused, outcome_of}
use Rattle.space_group.specs.OperationGrowth.{small-test, motion_growth, rotation-congruence}
use Rattle.space_group.specs.Slots.{verdict_of, outcome-off, outcome-verdict, rotations-overgrown, translations-torn}
use Rattle.space_group.specs.declared.refusal.Refusal.TheVariants.{Rotations, Translations}
use Rattle.space_group_theorems.specs.Acceptance.{SmallGenerators, chosen, distinct-rotations, rotations-distinct, rotations-generated, motions-keep, few-keys, fine-rotations, rotations-exactly, rotations-kept, translations-exactly, translations-kept}

-- ---- what is shown
-- Over 48 rotations, all different, all generated.
abbrev pub ManyRotations : List Operation → Type 0
ManyRotations gens = (l : List Matrix) × Distinct same_matrix l × ((A : Matrix) → Mem A l → GeneratedRotation gens A) × (48 < length l)

-- A generated rotation with an entry outside −1..1.
abbrev pub LargeRotation : List Operation → Type 0
LargeRotation gens = (A : Matrix) × GeneratedRotation gens A × (¬ Entries A)

-- Two generated motions with one rotation, their translations apart modulo L.
abbrev pub TwoTranslations : Centering → List Operation → Type 0
TwoTranslations c gens =
    (f g : SpaceMotion) × Generated gens f × Generated gens g × (f.rotation ≡ g.rotation) × (¬ Congruent (points_of c) f.translation g.translation)

-- ---- in the words of growth up to a limit
module _ (c : Centering) (gens : List Operation) where
  -- More keys are more rotations,
  many-rotations : Many (motion_growth c) (motions gens) 48 ↔ ManyRotations gens
  many-rotations = (
    (λ (l, distinct, each, more).
        (map (λ f. f.rotation) l, distinct-rotations distinct, rotations-generated gens l each, omega (arith, length-map l (λ f. f.rotation)))),
    λ (l, distinct, each, more).
        let (m, p, s) = chosen gens l each in
        (m, rotations-distinct m (rw p distinct), s, omega (arith, length-map m (λ f. f.rotation), ap length p)),
  )

  -- what fails the test has an entry outside −1..1,
  large-rotation : Unfit (motion_growth c) (motions gens) ↔ LargeRotation gens
  large-rotation = (
    (λ (f, r, n). (f.rotation, (f, r, refl), λ e. n ((small-test f).1 e))),
    λ (R, (f, r, p), n). (f, r, λ t. n (rw p at ((small-test f).0 t))),
  )

  -- and what has one key and is not alike has its translations apart.
  two-translations : TwoToKey (motion_growth c) (motions gens) ↔ TwoTranslations c gens
  two-translations = (
    (λ (f, g, r, t, near, apart). let p = same-rotation f g near in (f, g, r, t, p, λ class. apart (p, class))),
    λ (f, g, r, t, p, apart). (f, g, r, t, rotation-same f g p, λ near. apart near.1),
  )

  -- 13 shows over 48 generated rotations, or one with an entry outside −1..1.
  pub rotations-shown : outcome_of c gens ≡ refused Rotations → ManyRotations gens ⊎ LargeRotation gens
  rotations-shown p = elim (dec_lt (first_off c gens) (length gens)) [
    | yes h ↦ let both = sym (outcome-off c gens h) ∙ p in let z : ◌≡◌ {A = ℕ} 0 1 = cc in absurd (omega arith)
    | no h ↦
        let e = rotations-overgrown (verdict_of c gens) (sym (outcome-verdict c gens (omega arith)) ∙ p) in
        elim (overgrown-shown (motion_growth c) (motions gens) (rotation-congruence (motions gens)) 48 e) [
          | inl many ↦ inl (many-rotations.0 many)
          | inr unfit ↦ inr (large-rotation.0 unfit)
        ]
  ]

  -- 14 shows two generated motions with one rotation and translations apart modulo L.
  pub translations-shown : outcome_of c gens ≡ refused Translations → TwoTranslations c gens
  translations-shown p = elim (dec_lt (first_off c gens) (length gens)) [
    | yes h ↦ let both = sym (outcome-off c gens h) ∙ p in let z : ◌≡◌ {A = ℕ} 0 1 = cc in absurd (omega arith)
    | no h ↦
        let e = translations-torn (verdict_of c gens) (sym (outcome-verdict c gens (omega arith)) ∙ p) in
        two-translations.0 (torn-shown (motion_growth c) (motions gens) (rotation-congruence (motions gens)) 48 e)
  ]

-- ---- exactly
module _ (c : Centering) (gens : List Operation) (small : SmallGenerators gens) where
  -- 13: exactly if every generator maps L onto L, and over 48 rotations are generated or one with an entry outside −1..1.
  pub rotations-refused : (outcome_of c gens ≡ refused Rotations) ↔ (AllKeep c gens × (ManyRotations gens ⊎ LargeRotation gens))
  rotations-refused = (
    (λ e. (((rotations-exactly c gens small).0 e).0, rotations-shown c gens e)),
    λ (keep, shown). (rotations-kept c gens small keep).1 ((overgrown-refused (motion_growth c) (motions gens) (motions-keep c gens keep) 48).1 (elim shown [
      | inl many ↦ inl ((many-rotations c gens).1 many)
      | inr large ↦ inr ((large-rotation c gens).1 large)
    ])),
  )

  -- 14: exactly if every generator does, at most 48 rotations with entries in −1..1 are generated, and two generated motions with one rotation have
  -- their translations apart modulo L.
  pub translations-refused : (outcome_of c gens ≡ refused Translations) ↔ (AllKeep c gens × FewRotations gens × SmallRotations gens × TwoTranslations c gens)
  translations-refused = (
    (λ e. let (keep, few, entries, _) = (translations-exactly c gens small).0 e in (keep, few, entries, translations-shown c gens e)),
    λ (keep, few, entries, two).
        let exactly = torn-refused (motion_growth c) (motions gens) (motions-keep c gens keep) 48 in
        (translations-kept c gens small keep).1 (exactly.1 ((few-keys c gens).1 few, (fine-rotations c gens).1 entries, (two-translations c gens).1 two)),
  )
