-- Generators without flags, and flags forgotten: what is answered of plain generators is answered here with every flag 0, and to forget the flags takes what
-- is generated onto what the plain generators generate.
use Rattle.std.specs.Prelude.{◌≡◌, refl, ◌↔◌, List, [], ◌∷◌, map, ℕ, ◌≤◌}
use Rattle.std.proofs.Common.{sym, ◌∙◌, ap, subst, arith}
use Rattle.std.proofs.Math.ListN.{length}
use Rattle.std.proofs.lemmas.List.{length-map}
use borrow.Author.Tests.{le-ltb}
use Rattle.laws.specs.Motion.{SpaceMotion}
use Rattle.group_growth.specs.Verdicts.{Verdict, listed, image_verdict}
use Rattle.group_growth.specs.Growing.{verdict}
use Rattle.group_growth.specs.Flagged.{Flagged, held, image_flagged}
use Rattle.group_growth.specs.FlaggedGrowth.{held-listed, listed-held, forgotten, recalled}
use Rattle.operation.specs.Meaning.{motion_of}
use Rattle.operation.specs.Product.{operation_of}
use Rattle.operation.specs.declared.Operation.{Operation}
use Rattle.centering.specs.declared.Centering.{Centering}
use Rattle.space_group.specs.Generated as plain
use Rattle.space_group.specs.Generated.{motions, first_off, AllKeep}
use Rattle.space_group.specs.OperationGrowth.{motion_growth}
use Rattle.space_group.specs.Slots as slots
use Rattle.space_group.specs.Slots.{outcome-verdict}
use Rattle.space_group.specs.FlaggedOutcomes.{plain_of}
use Rattle.space_group_theorems.specs.Acceptance as space
use Rattle.space_group_theorems.specs.Acceptance.{SmallGenerators, none-off, motions-keep}
use Rattle.magnetic_group.specs.Generated.{FlaggedMotion, flagged_motions, Generated, flagged_growth, verdict_of, group, answered, outcome_of}
use Rattle.magnetic_group.specs.Acceptance.{group-listed, accepted-list}

-- ---- maps of lists
plain-held : (gens : List Operation) → plain_of (map held gens) ≡ gens
plain-held [] = refl
plain-held (g ∷ gens) = ap (λ (l : List Operation). g ∷ l) (plain-held gens)

motions-held : (gens : List Operation) → flagged_motions (map held gens) ≡ map held (motions gens)
motions-held [] = refl
motions-held (g ∷ gens) = ap (λ (l : List FlaggedMotion). held (motion_of g) ∷ l) (motions-held gens)

operations-held : (l : List SpaceMotion) → map (image_flagged operation_of) (map held l) ≡ map held (map operation_of l)
operations-held [] = refl
operations-held (f ∷ l) = ap (λ (k : List (Flagged Operation)). held (operation_of f) ∷ k) (operations-held l)

motions-plain : (gens : List (Flagged Operation)) → map (λ (f : FlaggedMotion). f.element) (flagged_motions gens) ≡ motions (plain_of gens)
motions-plain [] = refl
motions-plain (g ∷ gens) = ap (λ (l : List SpaceMotion). motion_of g.element ∷ l) (motions-plain gens)

-- ---- all flags 0
module _ (c : Centering) (gens : List Operation) (small : SmallGenerators gens) where
  -- Where all generators keep L, what is answered is what is answered of the motions.
  held-answered : AllKeep c gens → outcome_of c (map held gens) ≡ answered (verdict_of c (map held gens))
  unfolding outcome_of
  held-answered keep =
      let all : length gens ≤ first_off c gens = (none-off c gens small).1 keep in
      rw (plain-held gens, le-ltb (first_off c gens) (length gens) all)

  held-verdict : (v : Verdict FlaggedMotion) → verdict_of c (map held gens) ≡ v → AllKeep c gens → outcome_of c (map held gens) ≡ answered v
  held-verdict v e keep = held-answered keep ∙ ap answered e

  -- Where the plain entry accepts, the same list is answered, every flag 0;
  pub unprimed-group : (operations : List Operation) (steps : List ℕ) → plain.outcome_of c gens ≡ plain.group operations steps
      → outcome_of c (map held gens) ≡ group (map held operations) steps
  unprimed-group operations steps e =
      let A = space.accepted-list c gens small operations steps e in
      let all : length gens ≤ first_off c gens = (none-off c gens small).1 A.keep in
      let (l, q, p) = slots.group-listed (slots.verdict_of c gens) operations steps (sym (outcome-verdict c gens all) ∙ e) in
      let grown = held-listed (motion_growth c) (motions gens) l steps 48 96 (omega arith) q in
      held-verdict (listed (map held l) steps) (ap (verdict (flagged_growth c) 96) (motions-held gens) ∙ grown) A.keep
      ∙ ap (λ (k : List (Flagged Operation)). group k steps) (operations-held l ∙ ap (map held) (sym p))

  -- and where at most 48 are answered here, the plain entry accepts.
  pub group-unprimed : (k : List (Flagged Operation)) (steps : List ℕ) → length k ≤ 48 → outcome_of c (map held gens) ≡ group k steps
      → (operations : List Operation) × (plain.outcome_of c gens ≡ plain.group operations steps) × (k ≡ map held operations)
  group-unprimed k steps few e =
      let A = accepted-list c (map held gens) (subst SmallGenerators (sym (plain-held gens)) small) k steps e in
      let keep : AllKeep c gens = subst (AllKeep c) (plain-held gens) A.keep in
      let (m, q, p) = group-listed (verdict_of c (map held gens)) k steps (sym (held-answered keep) ∙ e) in
      let short : length m ≤ 48 = omega (arith, ap length p, length-map m (image_flagged operation_of)) in
      let grown : verdict (flagged_growth c) 96 (map held (motions gens)) ≡ listed m steps = ap (verdict (flagged_growth c) 96) (sym (motions-held gens)) ∙ q in
      let (l, v, same) = listed-held (motion_growth c) (motions gens) (motions-keep c gens keep) m steps 48 96 short grown in (
        map operation_of l,
        outcome-verdict c gens ((none-off c gens small).1 keep) ∙ ap (λ w. plain.of_verdict (image_verdict operation_of w)) v,
        p ∙ ap (map (image_flagged operation_of)) same ∙ operations-held l,
      )

-- ---- flags forgotten
-- A motion is generated without flags exactly if it is so with one.
pub time-reversal-forgotten : (c : Centering) (gens : List (Flagged Operation)) (y : SpaceMotion)
    → plain.Generated (plain_of gens) y ↔ ((x : FlaggedMotion) × Generated gens x × (x.element ≡ y))
time-reversal-forgotten c gens y = (
  (λ r. recalled (motion_growth c) (flagged_motions gens) (rw (motions-plain gens) r)),
  λ (x, r, e). subst (plain.Generated (plain_of gens)) e (rw (motions-plain gens) at (forgotten (motion_growth c) (flagged_motions gens) r)),
)
