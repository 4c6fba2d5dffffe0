-- Acceptance, exactly as R3.5 has it: a group is answered if every generator maps L onto L, the generated rotations number at most 48 with all entries in
-- −1..1, and no generated motion with identity rotation has its translation outside L; and 12, 13, 14 are each answered exactly if, in this order, that fails.
use Rattle.std.specs.Prelude.{◌≡◌, ◌↔◌, Bool, T, get_or}
use Rattle.std.proofs.Math.Path.{refl}
use Rattle.std.proofs.Common.{sym, ◌∙◌, ap, ap₂, inl, inr}
use Rattle.std.proofs.Math.Bool.{true, false, cond}
use Rattle.std.proofs.lemmas.Bool.{false≢true}
use Rattle.std.proofs.Math.Option.{some}
use mathlib.Core.List.Memᴰ.{cases_cons as cases}
use mathlib.Core.List.Memᴰ.{head as here}
use mathlib.Core.List.Memᴰ.{not-nil}
use mathlib.Core.List.Memᴰ.{of_map as mem-of-map}
use mathlib.Core.List.Memᴰ.{tail as there}
use mathlib.Core.List.{List, [], ◌∷◌, map, Memᴰ as Mem}
use Prim.Native.Nat.{ℕ, zero, suc, ◌≤◌, ◌<◌}
use native.Mathlib.Omega.{arith}
use Rattle.std.proofs.Math.Decide.{dec_lt}
use Rattle.std.proofs.Math.ListN.{length}
use Rattle.std.proofs.lemmas.List.{length-map}
use Rattle.laws.specs.Matrix.{Matrix}
use Rattle.laws.specs.Motion.{SpaceMotion, compose, identity}
use Rattle.laws.specs.Distinct.{has, Distinct, nil, cons}
use Rattle.laws.specs.Closure.{closure-lists, ListsReached}
use Rattle.laws.specs.LatticeMaps.{MapsOnto}
use Rattle.laws.specs.SameMatrix.{same_matrix, same_rotation, same-rotation, rotation-same, rotation-equivalence}
use Rattle.laws.specs.MotionsModulo.{alike-identity}
use Rattle.laws.specs.GrowthClosure.{steps_from}
use Rattle.laws.specs.Indices.{member-at, member-index}
use Rattle.group_growth.specs.Verdicts.{overgrown, torn, image_verdict}
use Rattle.group_growth.specs.Growing.{OkGenerators, Few, AllFine, OneToUnit}
use Rattle.group_growth.specs.Acceptance.{Whole, listed-exactly, listed-whole, overgrown-exactly, torn-exactly}
use Rattle.operation.specs.Meaning.{matrix_of, motion_of}
use Rattle.operation.specs.Entries.{Entries}
use Rattle.operation.specs.Product.{identity_operation, operation_of}
use Rattle.operation.specs.declared.Operation.{Operation}
use Rattle.centering.specs.Letters.{points_of}
use Rattle.centering.specs.Lattices.{points}
use Rattle.centering.specs.Keeps.{keeps_of, keeps-lattice}
use Rattle.centering.specs.declared.Centering.{Centering}
use Rattle.space_group.specs.Generated.{motions, Generated, GeneratedRotation, AllKeep, FewRotations, SmallRotations, OneTranslation, first_off, listing, is_small, same_vector_class, Outcome, group, refused, of_verdict, outcome_of}
use Rattle.space_group.specs.OperationGrowth.{small-test, motion_growth, rotation-congruence}
use Rattle.space_group.specs.Slots.{verdict_of, outcome-off, outcome-verdict, group-listed, rotations-overgrown, translations-torn, never-lattice}
use Rattle.space_group.specs.declared.refusal.Refusal.TheVariants.{Lattice, Rotations, Translations}

-- ---- the generators
-- Their entries are in −1..1: a symbol's are.
abbrev pub SmallGenerators : List Operation → Type 0
SmallGenerators gens = (g : Operation) → Mem g gens → Entries (matrix_of g.rotation)

-- Generator i does not map L onto L, and those before it do.
pub record FirstOff (c : Centering) (gens : List Operation) (i : ℕ) : Type 0 where
  pub within : i < length gens
  pub off : ¬ MapsOnto (points_of c) (matrix_of (get_or gens i identity_operation).rotation)
  pub before : (j : ℕ) → j < i → MapsOnto (points_of c) (matrix_of (get_or gens j identity_operation).rotation)

-- ---- the first generator that is off
-- Whether the generator at an index passes the test.
abbrev kept_at : Centering → List Operation → ℕ → Bool
kept_at c gens j = keeps_of c (get_or gens j identity_operation).rotation

module _ (c : Centering) where
  -- The index found is at most the number of generators,
  off-le : (gens : List Operation) → first_off c gens ≤ length gens
  unfolding first_off
  off-le [] = omega arith
  off-le (g ∷ gens) = by-test (keeps_of c g.rotation) (off-le gens)
    where
      by-test : (b : Bool) → first_off c gens ≤ length gens → cond b (suc (first_off c gens)) zero ≤ suc (length gens)
      by-test true h = omega arith
      by-test false h = omega arith

  -- those before it pass the test,
  off-before : (gens : List Operation) (j : ℕ) → j < first_off c gens → kept_at c gens j ≡ true
  unfolding first_off
  off-before [] j h = absurd (omega arith)
  off-before (g ∷ gens) j h = by-test (keeps_of c g.rotation) refl j h (off-before gens)
    where
      by-test : (b : Bool) → keeps_of c g.rotation ≡ b → (j : ℕ) → j < cond b (suc (first_off c gens)) zero
          → ((k : ℕ) → k < first_off c gens → kept_at c gens k ≡ true) → kept_at c (g ∷ gens) j ≡ true
      by-test true e zero h later = e
      by-test true e (suc j) h later = later j (omega arith)
      by-test false e j h later = absurd (omega arith)

  -- and it does not.
  off_at : (gens : List Operation) → first_off c gens < length gens → kept_at c gens (first_off c gens) ≡ false
  unfolding first_off
  off_at [] h = absurd (omega arith)
  off_at (g ∷ gens) h = by-test (keeps_of c g.rotation) refl h (off_at gens)
    where
      by-test : (b : Bool) → keeps_of c g.rotation ≡ b → cond b (suc (first_off c gens)) zero < suc (length gens)
          → (first_off c gens < length gens → kept_at c gens (first_off c gens) ≡ false) → kept_at c (g ∷ gens) (cond b (suc (first_off c gens)) zero) ≡ false
      by-test true e h later = later (omega arith)
      by-test false e h later = e

  module _ (gens : List Operation) (small : SmallGenerators gens) where
    -- The test says which generators map L onto L.
    kept-onto : (j : ℕ) → j < length gens → (kept_at c gens j ≡ true) ↔ MapsOnto (points_of c) (matrix_of (get_or gens j identity_operation).rotation)
    kept-onto j h =
        let r = (get_or gens j identity_operation).rotation in
        ((λ e. ((keeps-lattice c r).0 e).1), λ m. (keeps-lattice c r).1 (small (get_or gens j identity_operation) (member-at gens j identity_operation h), m))

    -- No generator is off exactly if all map L onto L.
    pub none-off : (length gens ≤ first_off c gens) ↔ AllKeep c gens
    none-off = (
      (λ h g m.
          let (j, k, p) = member-index identity_operation m in
          rw p at ((kept-onto j k).0 (off-before gens j (omega arith)))),
      λ keep. elim (dec_lt (first_off c gens) (length gens)) [
        | no h ↦ omega arith
        | yes h ↦ absurd (false≢true (sym (off_at gens h) ∙ (kept-onto (first_off c gens) h).1
            (keep _ (member-at gens (first_off c gens) identity_operation h))))
      ],
    )

    -- The index found is that of the first generator that is off.
    pub first_off_lem : (i : ℕ) → ((first_off c gens ≡ i) × (i < length gens)) ↔ FirstOff c gens i
    first_off_lem i = (
      (λ (e, h).
          record {
            within = h;
            off = λ m. false≢true (sym (rw e at (off_at gens (rw e h))) ∙ (kept-onto i h).1 m);
            before = λ j k. (kept-onto j (omega arith)).0 (off-before gens j (rw e k));
          }),
      λ F. (exactly F, F.within),
    )
      where
        exactly : FirstOff c gens i → first_off c gens ≡ i
        exactly F = elim (dec_lt (first_off c gens) i) [
          | yes h ↦ let k : first_off c gens < length gens = omega (arith, F.within) in
              absurd (false≢true (sym (off_at gens k) ∙ (kept-onto (first_off c gens) k).1 (F.before (first_off c gens) h)))
          | no h ↦ elim (dec_lt i (first_off c gens)) [
            | yes k ↦ absurd (F.off ((kept-onto i F.within).0 (off-before gens i k)))
            | no k ↦ omega arith
          ]
        ]

-- ---- the list of rotations
-- A list of motions has one with a rotation exactly if the list of their rotations has it.
has-rotation : (f : SpaceMotion) (l : List SpaceMotion) → has same_matrix f.rotation (map (λ g. g.rotation) l) ≡ has same_rotation f l
unfolding has
has-rotation f [] = refl
has-rotation f (g ∷ l) = rw (has-rotation f l)

-- Motions with different rotations have different rotations.
pub distinct-rotations : {l : List SpaceMotion} → Distinct same_rotation l → Distinct same_matrix (map (λ f. f.rotation) l)
distinct-rotations nil = nil
distinct-rotations (cons {x = f} {l} new d) =
    cons (λ (t : T (has same_matrix f.rotation (map (λ g. g.rotation) l))). new (rw (has-rotation f l) at t)) (distinct-rotations d)

pub rotations-distinct : (l : List SpaceMotion) → Distinct same_matrix (map (λ f. f.rotation) l) → Distinct same_rotation l
rotations-distinct [] d = nil
rotations-distinct (f ∷ l) (cons new d) = cons (λ t. new (rw (has-rotation f l) t)) (rotations-distinct l d)

module _ (gens : List Operation) where
  -- Generated rotations are those of generated motions.
  pub chosen : (l : List Matrix) → ((A : Matrix) → Mem A l → GeneratedRotation gens A)
      → (m : List SpaceMotion) × (map (λ f. f.rotation) m ≡ l) × ((f : SpaceMotion) → Mem f m → Generated gens f)
  chosen [] each = ([], refl, λ f m. absurd (not-nil m))
  chosen (A ∷ l) each =
      let (f, r, p) = each A (here refl) in
      let (m, q, s) = chosen l (λ B k. each B (there k)) in
      (f ∷ m, ap₂ (λ B k. B ∷ k) p q, λ g k. elim (cases k) [ inl e ↦ rw e r | inr h ↦ s g h ])

  -- The rotations of generated motions are generated.
  pub rotations-generated : (m : List SpaceMotion) → ((f : SpaceMotion) → Mem f m → Generated gens f) → (R : Matrix) → Mem R (map (λ f. f.rotation) m)
      → GeneratedRotation gens R
  rotations-generated m each R k = let (f, h, p) = mem-of-map (λ f. f.rotation) m k in (f, each f h, p)

  module _ (l : List SpaceMotion) (e : listing gens ≡ some l) where
    -- What the list is.
    pub lists : ListsReached same_rotation compose identity (motions gens) l
    unfolding listing
    lists = closure-lists same_rotation compose identity (motions gens) rotation-equivalence (rotation-congruence (motions gens)) 48 l e

-- ---- what is generated, in the words of growth up to a limit
module _ (c : Centering) (gens : List Operation) where
  -- The motions of generators that map L onto L keep L.
  pub motions-keep : AllKeep c gens → OkGenerators (motion_growth c) (motions gens)
  unfolding motion_of
  motions-keep keep g m = let (o, k, p) = mem-of-map motion_of gens m in rw (← p) (keep o k)

  -- Rotations are the keys,
  pub few-keys : Few (motion_growth c) (motions gens) 48 ↔ FewRotations gens
  few-keys = (
    (λ few l distinct each.
        let (m, p, s) = chosen gens l each in
        omega (arith, few m (rotations-distinct m (rw p distinct)) s, length-map m (λ f. f.rotation), ap length p)),
    λ few m distinct s. omega (
      arith,
      length-map m (λ f. f.rotation),
      few (map (λ f. f.rotation) m) (distinct-rotations distinct) (rotations-generated gens m s),
    ),
  )

  -- entries in −1..1 are the test,
  pub fine-rotations : AllFine (motion_growth c) (motions gens) ↔ SmallRotations gens
  fine-rotations = (
    (λ fine R (f, r, p). rw p at ((small-test f).0 (fine f r))),
    λ small f r. (small-test f).1 (small f.rotation (f, r, refl)),
  )

  -- and what has the identity's rotation is alike to it exactly if its translation is in L.
  pub one-translation : OneToUnit (motion_growth c) (motions gens) ↔ OneTranslation c gens
  one-translation = (
    (λ one f r p. ((alike-identity (points_of c) (points c) f).0 (one f r (rotation-same f identity p))).1),
    λ pure f r t.
        let p = same-rotation f identity t in
        (alike-identity (points_of c) (points c) f).1 (p, pure f r p),
  )

-- ---- the answers
-- The ways in which the answer comes about.
data Course (c : Centering) (gens : List Operation) : Outcome → Type 0 where
  off : {i : ℕ} → FirstOff c gens i → Course c gens (refused (Lattice i))
  kept : AllKeep c gens → Course c gens (of_verdict (image_verdict operation_of (verdict_of c gens)))

-- Every answer comes about in one of them.
course : (c : Centering) (gens : List Operation) → SmallGenerators gens → Course c gens (outcome_of c gens)
course c gens small = elim (dec_lt (first_off c gens) (length gens)) [
  | yes h ↦ rw (outcome-off c gens h) (off ((first_off_lem c gens small (first_off c gens)).0 (refl, h)))
  | no h ↦
      let all : length gens ≤ first_off c gens = omega arith in
      rw (outcome-verdict c gens all) (kept ((none-off c gens small).0 all))
]

-- A generator that is off is one that does not map L onto L.
off-keep : (c : Centering) (gens : List Operation) {i : ℕ} → FirstOff c gens i → AllKeep c gens → ⊥
off-keep c gens {i} F keep = F.off (keep (get_or gens i identity_operation) (member-at gens i identity_operation F.within))

-- The generators before two that are first off are the same.
off-once : (c : Centering) (gens : List Operation) {i j : ℕ} → FirstOff c gens i → FirstOff c gens j → i ≡ j
off-once c gens {i} {j} F H = elim (dec_lt i j) [
  | yes h ↦ absurd (F.off (H.before i h))
  | no h ↦ elim (dec_lt j i) [ yes k ↦ absurd (H.off (F.before j k)) | no k ↦ omega arith ]
]

-- What is known of the list where a group is answered.
pub record Accepted (c : Centering) (gens : List Operation) (operations : List Operation) (steps : List ℕ) : Type 0 where
  pub list : List SpaceMotion
  pub listed : listing gens ≡ some list
  pub operations-are : operations ≡ map operation_of list
  pub steps-are : steps ≡ steps_from same_rotation (same_vector_class c) is_small compose (motions gens) list list
  pub keep : AllKeep c gens
  pub few : FewRotations gens
  pub small : SmallRotations gens
  pub one : OneTranslation c gens

-- A list of motions that is answered is one,
whole-accepted : (c : Centering) (gens : List Operation) → AllKeep c gens → (l : List SpaceMotion) (operations : List Operation) (steps : List ℕ)
    → operations ≡ map operation_of l → Whole (motion_growth c) (motions gens) 48 l steps → Accepted c gens operations steps
unfolding listing
whole-accepted c gens keep l operations steps e W =
    record {
      list = l;
      listed = W.is-listing;
      operations-are = e;
      steps-are = W.steps-are;
      keep = keep;
      few = (few-keys c gens).0 W.few;
      small = (fine-rotations c gens).0 W.all-fine;
      one = (one-translation c gens).0 W.one;
    }

-- and the other way round.
pub accepted-whole : (c : Centering) (gens operations : List Operation) (steps : List ℕ) (A : Accepted c gens operations steps)
    → Whole (motion_growth c) (motions gens) 48 A.list steps
unfolding listing
accepted-whole c gens operations steps A =
    record {
      is-listing = A.listed;
      steps-are = A.steps-are;
      few = (few-keys c gens).1 A.few;
      all-fine = (fine-rotations c gens).1 A.small;
      one = (one-translation c gens).1 A.one;
    }

course-group : {c : Centering} {gens : List Operation} {o : Outcome} → Course c gens o → (operations : List Operation) (steps : List ℕ)
    → o ≡ group operations steps → Accepted c gens operations steps
course-group (off F) operations steps e = let z : ◌≡◌ {A = ℕ} 0 1 = cc in absurd (omega arith)
course-group {c} {gens} (kept keep) operations steps e =
    let (l, q, p) = group-listed (verdict_of c gens) operations steps e in
    whole-accepted c gens keep l operations steps p (listed-whole (motion_growth c) (motions gens) (motions-keep c gens keep) 48 l steps q)

course-accepted : {c : Centering} {gens : List Operation} {o : Outcome} → Course c gens o
    → AllKeep c gens × FewRotations gens × SmallRotations gens × OneTranslation c gens
    → (operations : List Operation) × (steps : List ℕ) × (o ≡ group operations steps)
course-accepted {c} {gens} (off F) (keep, few, small, one) = absurd (off-keep c gens F keep)
course-accepted {c} {gens} (kept keep) (_, few, small, one) =
    let exactly = listed-exactly (motion_growth c) (motions gens) (motions-keep c gens keep) 48 in
    let (l, steps, e) = exactly.1 ((few-keys c gens).1 few, (fine-rotations c gens).1 small, (one-translation c gens).1 one) in
    (map operation_of l, steps, ap (λ v. of_verdict (image_verdict operation_of v)) e)

course-lattice : {c : Centering} {gens : List Operation} {o : Outcome} → Course c gens o → (i : ℕ) → (o ≡ refused (Lattice i)) ↔ FirstOff c gens i
course-lattice {c} {gens} (off {i = j} F) i = ((λ e. let z : j ≡ i = cc in rw z at F), λ H. ap (λ k. refused (Lattice k)) (off-once c gens F H))
course-lattice {c} {gens} (kept keep) i = ((λ e. absurd (never-lattice (verdict_of c gens) i e)), λ H. absurd (off-keep c gens H keep))

course-rotations : {c : Centering} {gens : List Operation} {o : Outcome} → Course c gens o → (o ≡ refused Rotations)
    ↔ (AllKeep c gens × (¬ (FewRotations gens × SmallRotations gens)))
course-rotations {c} {gens} (off F) = ((λ e. let z : ◌≡◌ {A = ℕ} 0 1 = cc in absurd (omega arith)), λ (keep, n). absurd (off-keep c gens F keep))
course-rotations {c} {gens} (kept keep) =
    let exactly = overgrown-exactly (motion_growth c) (motions gens) (motions-keep c gens keep) 48 in (
      (λ e. (keep, λ (few, small). exactly.0 (rotations-overgrown (verdict_of c gens) e) ((few-keys c gens).1 few, (fine-rotations c gens).1 small))),
      λ (_, n). ap (λ v. of_verdict (image_verdict operation_of v)) (exactly.1 (λ (few, fine). n ((few-keys c gens).0 few, (fine-rotations c gens).0 fine))),
    )

course-translations : {c : Centering} {gens : List Operation} {o : Outcome} → Course c gens o → (o ≡ refused Translations)
    ↔ (AllKeep c gens × FewRotations gens × SmallRotations gens × (¬ OneTranslation c gens))
course-translations {c} {gens} (off F) = ((λ e. let z : ◌≡◌ {A = ℕ} 0 1 = cc in absurd (omega arith)), λ (keep, few, small, n). absurd (off-keep c gens F keep))
course-translations {c} {gens} (kept keep) =
    let exactly = torn-exactly (motion_growth c) (motions gens) (motions-keep c gens keep) 48 in (
      (λ e.
          let (few, fine, n) = exactly.0 (translations-torn (verdict_of c gens) e) in
          (keep, (few-keys c gens).0 few, (fine-rotations c gens).0 fine, λ one. n ((one-translation c gens).1 one))),
      λ (_, few, small, n). ap (λ v. of_verdict (image_verdict operation_of v))
          (exactly.1 ((few-keys c gens).1 few, (fine-rotations c gens).1 small, λ one. n ((one-translation c gens).0 one))),
    )

module _ (c : Centering) (gens : List Operation) (small : SmallGenerators gens) where
  -- A group is answered exactly if R3.5 accepts the generators.
  pub accepted-exactly : ((operations : List Operation) × (steps : List ℕ) × (outcome_of c gens ≡ group operations steps))
      ↔ (AllKeep c gens × FewRotations gens × SmallRotations gens × OneTranslation c gens)
  accepted-exactly = (
    (λ (operations, steps, e). let A = course-group (course c gens small) operations steps e in (A.keep, A.few, A.small, A.one)),
    course-accepted (course c gens small),
  )

  -- What is answered then.
  pub accepted-list : (operations : List Operation) (steps : List ℕ) → outcome_of c gens ≡ group operations steps → Accepted c gens operations steps
  accepted-list operations steps e = course-group (course c gens small) operations steps e

  -- 12: exactly if a generator does not map L onto L, with the index of the first.
  pub lattice-exactly : (i : ℕ) → (outcome_of c gens ≡ refused (Lattice i)) ↔ FirstOff c gens i
  lattice-exactly = course-lattice (course c gens small)

  -- 13: exactly if all do, and not both hold: at most 48 rotations are generated, and all their entries are in −1..1.
  pub rotations-exactly : (outcome_of c gens ≡ refused Rotations) ↔ (AllKeep c gens × (¬ (FewRotations gens × SmallRotations gens)))
  rotations-exactly = course-rotations (course c gens small)

  -- 14: exactly if all that is well, and not every generated motion with identity rotation has its translation in L.
  pub translations-exactly : (outcome_of c gens ≡ refused Translations) ↔ (AllKeep c gens × FewRotations gens × SmallRotations gens × (¬ OneTranslation c gens))
  translations-exactly = course-translations (course c gens small)

  -- Where every generator maps L onto L, 13 and 14 are the two refusals of growth.
  pub rotations-kept : AllKeep c gens → (outcome_of c gens ≡ refused Rotations) ↔ (verdict_of c gens ≡ overgrown)
  rotations-kept keep =
      let answer = outcome-verdict c gens ((none-off c gens small).1 keep) in
      ((λ e. rotations-overgrown (verdict_of c gens) (sym answer ∙ e)), λ e. answer ∙ ap (λ v. of_verdict (image_verdict operation_of v)) e)

  pub translations-kept : AllKeep c gens → (outcome_of c gens ≡ refused Translations) ↔ (verdict_of c gens ≡ torn)
  translations-kept keep =
      let answer = outcome-verdict c gens ((none-off c gens small).1 keep) in
      ((λ e. translations-torn (verdict_of c gens) (sym answer ∙ e)), λ e. answer ∙ ap (λ v. of_verdict (image_verdict operation_of v)) e)
