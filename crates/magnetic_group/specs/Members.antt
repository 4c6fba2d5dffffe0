-- The list that is answered for generators with flags, member by member: the identity without the flag first, each generated pair of rotation and flag once
-- and nothing else, each with a translation below 12 that is right modulo L; products and inverses stay in it modulo L. The order is that of least words.
use Rattle.std.specs.Prelude.{◌≡◌, refl, ℕ, ◌≤◌, length}
use Rattle.std.proofs.Common.{sym, ◌∙◌, ap, subst, arith}
use mathlib.Core.List.Memᴰ.{map as mem-map}
use mathlib.Core.List.Memᴰ.{of_map as mem-of-map}
use mathlib.Core.List.{List, ◌∷◌, map, Memᴰ as Mem}
use Rattle.std.proofs.lemmas.List.{length-map}
use Rattle.laws.specs.Matrix.{Matrix}
use Rattle.laws.specs.Motion.{identity}
use Rattle.laws.specs.Residue.{Reduced, reduced-lt}
use Rattle.laws.specs.Distinct.{Distinct}
use Rattle.laws.specs.Closure.{ListsReached}
use Rattle.laws.specs.SameMatrix.{same_rotation, same-rotation, rotation-same}
use Rattle.laws.specs.MotionsModulo.{Alike, Keeps}
use Rattle.group_growth.specs.Growing.{OkGenerators}
use Rattle.group_growth.specs.Forms.{Forms}
use Rattle.group_growth.specs.Members as growing
use Rattle.group_growth.specs.WordOrder as order
use Rattle.group_growth.specs.Flagged.{Flagged, flagged≡, held, image_flagged, same_flagged, AlikeFlagged, key-flag, key-element, flagged-key}
use Rattle.group_growth.specs.FlaggedGrowth.{forms_with_flag}
use Rattle.operation.specs.Meaning.{matrix_of, motion_of}
use Rattle.operation.specs.Product.{identity_operation, operation_of}
use Rattle.operation.specs.declared.Operation.{Operation}
use Rattle.centering.specs.Letters.{points_of}
use Rattle.centering.specs.Lattices.{triple_of}
use Rattle.centering.specs.declared.Centering.{Centering}
use Rattle.space_group.specs.Traversal.{same_turn}
use Rattle.space_group.specs.OperationGrowth.{Small, operation-rotation, operation-alike, motion_growth, operation_forms, identity-operation}
use Rattle.magnetic_group.specs.Generated.{FlaggedMotion, compose_flagged, flagged_motions, Generated, pair_of, GeneratedPair, flagged_growth}
use Rattle.magnetic_group.specs.Acceptance.{MagneticAccepted, flagged-keep}

-- Flagged operations as the forms of flagged motions.
abbrev pub flagged_forms : (c : Centering) → Forms (flagged_growth c)
flagged_forms c = forms_with_flag (motion_growth c) (operation_forms c)

-- Two flagged motions with one flag that differ by a translation of L.
abbrev pub Near : Centering → FlaggedMotion → FlaggedMotion → Type 0
Near c = AlikeFlagged (Alike (points_of c))

-- Flagged operations in the order of the least words over the generators that lead to their pairs of rotation and flag, each pair once.
abbrev pub WordOrdered : List (Flagged Operation) → List (Flagged Operation) → Type 0
WordOrdered gens = order.WordOrdered (same_flagged same_rotation) compose_flagged (held identity) (flagged_motions gens) (image_flagged operation_of)

module _ (c : Centering) (gens operations : List (Flagged Operation)) (steps : List ℕ) (A : MagneticAccepted c gens operations steps) where
  -- The flagged motions that the operations are made of.
  abbrev list : List FlaggedMotion
  list = A.list

  kept : OkGenerators (flagged_growth c) (flagged_motions gens)
  kept = flagged-keep c gens A.keep

  reached : ListsReached (same_flagged same_rotation) compose_flagged (held identity) (flagged_motions gens) list
  reached = growing.reached (flagged_growth c) (flagged_motions gens) kept 96 list steps A.whole

  -- Generated motions have entries in −1..1.
  small : (f : FlaggedMotion) → Generated gens f → Small f.element
  small f r = A.small (pair_of f) (f, r, refl)

  pub member-listed : (o : Flagged Operation) → Mem o operations → Mem o (map (image_flagged operation_of) list)
  member-listed o m = rw A.operations-are at m

  pub listed-member : (o : Flagged Operation) → Mem o (map (image_flagged operation_of) list) → Mem o operations
  listed-member o m = rw A.operations-are m

  -- ---- the list
  -- It starts with the identity, without the flag.
  pub identity-first : (rest : List (Flagged Operation)) × (operations ≡ held identity_operation ∷ rest)
  identity-first =
      let rest = map (image_flagged operation_of) reached.rest in (
        rest,
        A.operations-are ∙ ap (map (image_flagged operation_of)) reached.first ∙ ap (λ (o : Operation). held o ∷ rest) (identity-operation c),
      )

  -- It holds at most 96.
  pub at-most-96 : length operations ≤ 96
  at-most-96 =
      let few = growing.at_most (flagged_growth c) (flagged_motions gens) kept 96 list steps A.whole in
      omega (arith, ap length A.operations-are, length-map list (image_flagged operation_of), few)

  -- The pair of an operation.
  abbrev pub own_pair : Flagged Operation → Flagged Matrix
  own_pair = image_flagged (λ (o : Operation). matrix_of o.rotation)

  -- Every generated pair is there,
  pub pair-there : (P : Flagged Matrix) → GeneratedPair gens P → (o : Flagged Operation) × Mem o operations × (own_pair o ≡ P)
  pair-there P (f, r, p) =
      let (g, m, s) = growing.key-there (flagged_growth c) (flagged_motions gens) kept 96 list steps A.whole f r in
      let same = same-rotation f.element g.element (key-element same_rotation f g s) in
      let turn = operation-rotation g.element (small g (reached.sound g m)) ∙ sym same in (
        image_flagged operation_of g,
        listed-member _ (mem-map (image_flagged operation_of) m),
        flagged≡ _ (pair_of f) turn (sym (key-flag same_rotation f g s))
            ∙ p,
      )

  -- nothing else is,
  pub pair-generated : (o : Flagged Operation) → Mem o operations → GeneratedPair gens (own_pair o)
  pair-generated o m =
      let (f, k, p) = mem-of-map (image_flagged operation_of) list (member-listed o m) in
      let r = reached.sound f k in
      (f, r, flagged≡ (pair_of f) (own_pair (image_flagged operation_of f)) (sym (operation-rotation f.element (small f r))) refl ∙ ap own_pair p)

  -- and none twice.
  pub pairs-once : Distinct (same_flagged same_turn) operations
  pairs-once = rw A.operations-are (growing.forms-once (flagged_growth c) (flagged_motions gens) kept 96 list steps A.whole (flagged_forms c))

  -- ---- the translations
  -- Each is below 12.
  pub translation-below : (o : Flagged Operation) → Mem o operations → Reduced (triple_of o.element.translation)
  unfolding operation_of
  translation-below o m = let (f, k, p) = mem-of-map (image_flagged operation_of) list (member-listed o m) in rw (← p) (reduced-lt f.element.translation)

  -- Each is right modulo L: any generated motion with the operation's rotation and flag differs from it by a vector of L.
  pub translation-right : (o : Flagged Operation) → Mem o operations → (f : FlaggedMotion) → Generated gens f → pair_of f ≡ own_pair o
      → Near c f (image_flagged motion_of o)
  translation-right o m f r p =
      let (g, k, q) = mem-of-map (image_flagged operation_of) list (member-listed o m) in
      let t = reached.sound g k in
      let turn : f.element.rotation ≡ g.element.rotation =
      ap (λ (P : Flagged Matrix). P.element) p ∙ ap (λ (o : Flagged Operation). matrix_of o.element.rotation) (sym q)
      ∙ operation-rotation g.element (small g t) in
      let flag : f.flag ≡ g.flag = ap (λ (P : Flagged Matrix). P.flag) p ∙ ap (λ (o : Flagged Operation). o.flag) (sym q) in
      let key = flagged-key same_rotation f g flag (rotation-same f.element g.element turn) in
      let first = growing.one_class (flagged_growth c) (flagged_motions gens) kept 96 list steps A.whole f g r t key in
      let second : Near c g (image_flagged motion_of o) =
      subst (λ (o : Flagged Operation). Near c g (image_flagged motion_of o)) q (refl, operation-alike c g.element (small g t)) in
      (flagged_growth c).keyed.alike-transitive f g (image_flagged motion_of o) first second

  -- ---- the group, modulo L
  -- Any product of two members is, modulo L, a member, with the product's flag.
  pub product-member : (o p : Flagged Operation) → Mem o operations → Mem p operations
      → (q : Flagged Operation) × Mem q operations × Near c (compose_flagged (image_flagged motion_of o) (image_flagged motion_of p))
      (image_flagged motion_of q)
  product-member o p m k =
      let closed = growing.product-member (flagged_growth c) (flagged_motions gens) kept 96 list steps A.whole (flagged_forms c) in
      let (q, n, close) = closed o p (member-listed o m) (member-listed p k) in
      (q, listed-member q n, close)

  -- Each member has an inverse in the list, modulo L, on either side.
  pub inverse-member : (o : Flagged Operation) → Mem o operations
      → (p : Flagged Operation) × Mem p operations × Near c (compose_flagged (image_flagged motion_of p) (image_flagged motion_of o)) (held identity)
      × Near c (compose_flagged (image_flagged motion_of o) (image_flagged motion_of p)) (held identity)
  inverse-member o m =
      let inverses = growing.inverse-member (flagged_growth c) (flagged_motions gens) kept 96 list steps A.whole (flagged_forms c) in
      let (p, k, left, right) = inverses o (member-listed o m) in
      (p, listed-member p k, left, right)

  -- Each member maps L onto L.
  pub member-keeps : (o : Flagged Operation) → Mem o operations → Keeps (points_of c) (motion_of o.element)
  member-keeps o m =
      let (f, r, near) = growing.member-near (flagged_growth c) (flagged_motions gens) kept 96 list steps A.whole (flagged_forms c) o (member-listed o m) in
      (flagged_growth c).ok-alike f (image_flagged motion_of o) near (growing.generated-ok (flagged_growth c) (flagged_motions gens) kept f r)

  -- ---- the order
  -- The list is in the order of least words.
  pub word-ordered : WordOrdered gens operations
  word-ordered =
      rw A.operations-are (order.word-ordered (flagged_growth c) (flagged_motions gens) kept (image_flagged operation_of) 96 list steps A.whole)

-- Only one list is.
pub word-order-unique : (c : Centering) (gens o p : List (Flagged Operation)) → WordOrdered gens o → WordOrdered gens p → o ≡ p
word-order-unique c gens =
    order.word-order-unique (same_flagged same_rotation) compose_flagged (held identity) (flagged_motions gens) (image_flagged operation_of)
    (flagged_growth c).keyed.key-equivalence
