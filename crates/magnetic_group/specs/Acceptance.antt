-- Acceptance, exactly: a group is answered if every generator maps L onto L, the generated pairs of rotation and flag number at most 96 with all entries in
-- −1..1, and no generated motion with identity rotation and without the flag has its translation outside L; and 12, 13, 14 are each answered exactly if, in
-- this order, that fails. It is the law of growth up to a limit, for flagged motions and 96.
use Rattle.std.specs.Prelude.{◌≡◌, refl, ◌↔◌, List, map, ℕ, ◌≤◌}
use Rattle.std.proofs.Common.{sym, ◌∙◌, ap, lt-ltb, le-ltb}
use mathlib.Core.List.Memᴰ.{map as mem-map}
use mathlib.Core.List.Memᴰ.{of_map as mem-of-map}
use native.Mathlib.Omega.{arith}
use Rattle.std.proofs.Math.Decide.{dec_lt}
use Rattle.std.proofs.Math.ListN.{length}
use Rattle.laws.specs.Motion.{identity}
use Rattle.laws.specs.SameMatrix.{same_matrix, same_rotation, same-rotation, rotation-same}
use Rattle.laws.specs.MotionsModulo.{alike-identity}
use Rattle.group_growth.specs.Verdicts.{Verdict, listed, overgrown, torn}
use Rattle.group_growth.specs.Growing.{OkGenerators, Few, AllFine, OneToUnit}
use Rattle.group_growth.specs.Acceptance.{Whole, listed-exactly, listed-whole, overgrown-exactly, torn-exactly}
use Rattle.group_growth.specs.Flagged.{Flagged, held, image_flagged, same_flagged, key-flag, key-element, flagged-key}
use Rattle.operation.specs.Meaning.{motion_of}
use Rattle.operation.specs.Product.{operation_of}
use Rattle.operation.specs.declared.Operation.{Operation}
use Rattle.centering.specs.Letters.{points_of}
use Rattle.centering.specs.Lattices.{points}
use Rattle.centering.specs.declared.Centering.{Centering}
use Rattle.space_group.specs.Generated.{AllKeep, first_off}
use Rattle.space_group.specs.OperationGrowth.{small-test}
use Rattle.space_group.specs.declared.refusal.Refusal.TheVariants.{Lattice, Rotations, Translations}
use Rattle.space_group.specs.FlaggedOutcomes.{plain_of}
use Rattle.space_group_theorems.specs.Acceptance.{SmallGenerators, FirstOff, none-off, first_off_lem, motions-keep}
use Rattle.magnetic_group.specs.Generated.{FlaggedMotion, flagged_motions, Generated, pair_of, FewPairs, SmallPairs, OneTranslation, flagged_growth, verdict_of, MagneticOutcome, group, refused, answered, outcome_of}
use Rattle.magnetic_group.specs.Keys.{few-by-keys}

-- ---- what is generated, in the words of growth up to a limit
module _ (c : Centering) (gens : List (Flagged Operation)) where
  -- Flagged motions of generators that map L onto L keep L.
  pub flagged-keep : AllKeep c (plain_of gens) → OkGenerators (flagged_growth c) (flagged_motions gens)
  flagged-keep keep g m =
      let (o, k, p) = mem-of-map (image_flagged motion_of) gens m in
      rw (← p) (motions-keep c (plain_of gens) keep (motion_of o.element) (mem-map motion_of (mem-map (λ (g : Flagged Operation). g.element) k)))

  -- Pairs of rotation and flag are the keys,
  pub few-pairs : Few (flagged_growth c) (flagged_motions gens) 96 ↔ FewPairs gens
  few-pairs = few-by-keys (same_flagged same_rotation) (same_flagged same_matrix) pair_of (λ x y. refl) (Generated gens) 96

  -- entries in −1..1 are the test,
  pub fine-pairs : AllFine (flagged_growth c) (flagged_motions gens) ↔ SmallPairs gens
  fine-pairs = (
    (λ fine A (f, r, p). rw (← p) ((small-test f.element).0 (fine f r))),
    λ small f r. (small-test f.element).1 (small (pair_of f) (f, r, refl)),
  )

  -- and what has the identity's rotation and no flag is alike to it exactly if its translation is in L.
  pub one-translation : OneToUnit (flagged_growth c) (flagged_motions gens) ↔ OneTranslation c gens
  one-translation = (
    (λ one f r p q.
        let key = flagged-key same_rotation f (held identity) q (rotation-same f.element identity p) in
        ((alike-identity (points_of c) (points c) f.element).0 (one f r key).1).1),
    λ pure f r t.
        let q = key-flag same_rotation f (held identity) t in
        let p = same-rotation f.element identity (key-element same_rotation f (held identity) t) in
        (q, (alike-identity (points_of c) (points c) f.element).1 (p, pure f r p q)),
  )

-- ---- what an outcome was made of
pub group-listed : (v : Verdict FlaggedMotion) (operations : List (Flagged Operation)) (steps : List ℕ) → answered v ≡ group operations steps
    → (l : List FlaggedMotion) × (v ≡ listed l steps) × (operations ≡ map (image_flagged operation_of) l)
group-listed (listed l others) operations steps e =
    let p : map (image_flagged operation_of) l ≡ operations = cc in
    let q : others ≡ steps = cc in
    (l, ap (listed l) q, sym p)
group-listed overgrown operations steps e = let z : ◌≡◌ {A = ℕ} 0 1 = cc in absurd (omega arith)
group-listed torn operations steps e = let z : ◌≡◌ {A = ℕ} 0 1 = cc in absurd (omega arith)

rotations-overgrown : (v : Verdict FlaggedMotion) → answered v ≡ refused Rotations → v ≡ overgrown
rotations-overgrown (listed l steps) e = let z : ◌≡◌ {A = ℕ} 0 1 = cc in absurd (omega arith)
rotations-overgrown overgrown e = refl
rotations-overgrown torn e = let z : ◌≡◌ {A = ℕ} 0 1 = cc in absurd (omega arith)

translations-torn : (v : Verdict FlaggedMotion) → answered v ≡ refused Translations → v ≡ torn
translations-torn (listed l steps) e = let z : ◌≡◌ {A = ℕ} 0 1 = cc in absurd (omega arith)
translations-torn overgrown e = let z : ◌≡◌ {A = ℕ} 0 1 = cc in absurd (omega arith)
translations-torn torn e = refl

never-lattice : (v : Verdict FlaggedMotion) (i : ℕ) → answered v ≡ refused (Lattice i) → ⊥
never-lattice (listed l steps) i e = let z : ◌≡◌ {A = ℕ} 0 1 = cc in absurd (omega arith)
never-lattice overgrown i e = let z : ◌≡◌ {A = ℕ} 0 1 = cc in absurd (omega arith)
never-lattice torn i e = let z : ◌≡◌ {A = ℕ} 0 1 = cc in absurd (omega arith)

-- ---- the ways in which the answer comes about
data Course (c : Centering) (gens : List (Flagged Operation)) : MagneticOutcome → Type 0 where
  off : {i : ℕ} → FirstOff c (plain_of gens) i → Course c gens (refused (Lattice i))
  kept : AllKeep c (plain_of gens) → Course c gens (answered (verdict_of c gens))

-- What is known of the list where a group is answered.
pub record MagneticAccepted (c : Centering) (gens operations : List (Flagged Operation)) (steps : List ℕ) : Type 0 where
  pub list : List FlaggedMotion
  pub whole : Whole (flagged_growth c) (flagged_motions gens) 96 list steps
  pub operations-are : operations ≡ map (image_flagged operation_of) list
  pub keep : AllKeep c (plain_of gens)
  pub few : FewPairs gens
  pub small : SmallPairs gens
  pub one : OneTranslation c gens

module _ (c : Centering) (gens : List (Flagged Operation)) (small : SmallGenerators (plain_of gens)) where
  -- Every answer comes about in one of them.
  course : Course c gens (outcome_of c gens)
  unfolding outcome_of
  course = elim (dec_lt (first_off c (plain_of gens)) (length (plain_of gens))) [
    | yes h ↦
        rw (lt-ltb (first_off c (plain_of gens)) (length (plain_of gens)) h) (off ((first_off_lem c (plain_of gens) small (first_off c (plain_of gens))).0
        (refl, h)))
    | no h ↦
        let all : length (plain_of gens) ≤ first_off c (plain_of gens) = omega arith in
        rw (le-ltb (first_off c (plain_of gens)) (length (plain_of gens)) all) (kept ((none-off c (plain_of gens) small).0 all))
  ]

  -- A generator that is off is one that does not map L onto L, and there is one first.
  off-keep : (i : ℕ) → FirstOff c (plain_of gens) i → AllKeep c (plain_of gens) → ⊥
  off-keep i F keep =
      let (e, h) = (first_off_lem c (plain_of gens) small i).1 F in
      let none = (none-off c (plain_of gens) small).1 keep in
      absurd (omega arith)

  off-once : (i j : ℕ) → FirstOff c (plain_of gens) i → FirstOff c (plain_of gens) j → i ≡ j
  off-once i j F H = sym ((first_off_lem c (plain_of gens) small i).1 F).0 ∙ ((first_off_lem c (plain_of gens) small j).1 H).0

  course-group : {o : MagneticOutcome} → Course c gens o → (operations : List (Flagged Operation)) (steps : List ℕ) → o ≡ group operations steps
      → MagneticAccepted c gens operations steps
  course-group (off F) operations steps e = let z : ◌≡◌ {A = ℕ} 0 1 = cc in absurd (omega arith)
  course-group (kept keep) operations steps e =
      let (l, q, p) = group-listed (verdict_of c gens) operations steps e in
      let W = listed-whole (flagged_growth c) (flagged_motions gens) (flagged-keep c gens keep) 96 l steps q in
      record {
        list = l;
        whole = W;
        operations-are = p;
        keep = keep;
        few = (few-pairs c gens).0 W.few;
        small = (fine-pairs c gens).0 W.all-fine;
        one = (one-translation c gens).0 W.one;
      }

  course-accepted : {o : MagneticOutcome} → Course c gens o → AllKeep c (plain_of gens) × FewPairs gens × SmallPairs gens × OneTranslation c gens
      → (operations : List (Flagged Operation)) × (steps : List ℕ) × (o ≡ group operations steps)
  course-accepted (off {i} F) (keep, few, fine, one) = absurd (off-keep i F keep)
  course-accepted (kept keep) (_, few, fine, one) =
      let exactly = listed-exactly (flagged_growth c) (flagged_motions gens) (flagged-keep c gens keep) 96 in
      let (l, steps, e) = exactly.1 ((few-pairs c gens).1 few, (fine-pairs c gens).1 fine, (one-translation c gens).1 one) in
      (map (image_flagged operation_of) l, steps, ap answered e)

  course-lattice : {o : MagneticOutcome} → Course c gens o → (i : ℕ) → (o ≡ refused (Lattice i)) ↔ FirstOff c (plain_of gens) i
  course-lattice (off {i = j} F) i = ((λ e. let z : j ≡ i = cc in rw z at F), λ H. ap (λ k. refused (Lattice k)) (off-once j i F H))
  course-lattice (kept keep) i = ((λ e. absurd (never-lattice (verdict_of c gens) i e)), λ H. absurd (off-keep i H keep))

  course-rotations : {o : MagneticOutcome} → Course c gens o → (o ≡ refused Rotations) ↔ (AllKeep c (plain_of gens) × (¬ (FewPairs gens × SmallPairs gens)))
  course-rotations (off {i} F) = ((λ e. let z : ◌≡◌ {A = ℕ} 0 1 = cc in absurd (omega arith)), λ (keep, n). absurd (off-keep i F keep))
  course-rotations (kept keep) =
      let exactly = overgrown-exactly (flagged_growth c) (flagged_motions gens) (flagged-keep c gens keep) 96 in (
        (λ e. (keep, λ (few, fine). exactly.0 (rotations-overgrown (verdict_of c gens) e) ((few-pairs c gens).1 few, (fine-pairs c gens).1 fine))),
        λ (_, n). ap answered (exactly.1 (λ (few, fine). n ((few-pairs c gens).0 few, (fine-pairs c gens).0 fine))),
      )

  course-translations : {o : MagneticOutcome} → Course c gens o
      → (o ≡ refused Translations) ↔ (AllKeep c (plain_of gens) × FewPairs gens × SmallPairs gens × (¬ OneTranslation c gens))
  course-translations (off {i} F) = ((λ e. let z : ◌≡◌ {A = ℕ} 0 1 = cc in absurd (omega arith)), λ (keep, few, fine, n). absurd (off-keep i F keep))
  course-translations (kept keep) =
      let exactly = torn-exactly (flagged_growth c) (flagged_motions gens) (flagged-keep c gens keep) 96 in (
        (λ e.
            let (few, fine, n) = exactly.0 (translations-torn (verdict_of c gens) e) in
            (keep, (few-pairs c gens).0 few, (fine-pairs c gens).0 fine, λ one. n ((one-translation c gens).1 one))),
        λ (_, few, fine, n).
            ap answered (exactly.1 ((few-pairs c gens).1 few, (fine-pairs c gens).1 fine, λ one. n ((one-translation c gens).0 one))),
      )

  -- ---- each exactly when
  -- A group is answered exactly if the generators are accepted.
  pub accepted-exactly : ((operations : List (Flagged Operation)) × (steps : List ℕ) × (outcome_of c gens ≡ group operations steps))
      ↔ (AllKeep c (plain_of gens) × FewPairs gens × SmallPairs gens × OneTranslation c gens)
  accepted-exactly = (
    (λ (operations, steps, e). let A = course-group course operations steps e in (A.keep, A.few, A.small, A.one)),
    course-accepted course,
  )

  -- What is answered then.
  pub accepted-list : (operations : List (Flagged Operation)) (steps : List ℕ) → outcome_of c gens ≡ group operations steps
      → MagneticAccepted c gens operations steps
  accepted-list operations steps e = course-group course operations steps e

  -- 12: exactly if a generator does not map L onto L, with the index of the first.
  pub lattice-exactly : (i : ℕ) → (outcome_of c gens ≡ refused (Lattice i)) ↔ FirstOff c (plain_of gens) i
  lattice-exactly = course-lattice course

  -- 13: exactly if all do, and not both hold: at most 96 pairs are generated, and all entries are in −1..1.
  pub rotations-exactly : (outcome_of c gens ≡ refused Rotations) ↔ (AllKeep c (plain_of gens) × (¬ (FewPairs gens × SmallPairs gens)))
  rotations-exactly = course-rotations course

  -- 14: exactly if all that is well, and not every generated motion with identity rotation and without the flag has its translation in L.
  pub translations-exactly : (outcome_of c gens ≡ refused Translations)
      ↔ (AllKeep c (plain_of gens) × FewPairs gens × SmallPairs gens × (¬ OneTranslation c gens))
  translations-exactly = course-translations course
