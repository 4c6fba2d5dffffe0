-- The list of an accepted symbol, member by member: it starts with the identity, holds each generated rotation once and nothing else, each with a
-- translation below 12 that is reached and is right modulo L; products and inverses stay in it modulo L.
use Rattle.std.specs.Prelude.{◌≡◌, refl, ℕ, ◌≤◌, length}
use Rattle.std.proofs.Math.Path.{sym, ap, subst}
use Rattle.std.proofs.Common.{◌∙◌, arith}
use mathlib.Core.List.Memᴰ.{map as mem-map}
use mathlib.Core.List.Memᴰ.{of_map as mem-of-map}
use mathlib.Core.List.{List, ◌∷◌, map, Memᴰ as Mem}
use Rattle.std.proofs.lemmas.List.{length-map}
use Rattle.laws.specs.Matrix.{Matrix}
use Rattle.laws.specs.Motion.{SpaceMotion, compose, identity}
use Rattle.laws.specs.Residue.{Reduced, reduced, reduced-lt}
use Rattle.laws.specs.Distinct.{Distinct}
use Rattle.laws.specs.Closure.{ListsReached}
use Rattle.laws.specs.Lattice.{Congruent, congruent-transitive}
use Rattle.laws.specs.SameMatrix.{same_rotation, same-rotation, rotation-same}
use Rattle.laws.specs.MotionsModulo.{Alike, Keeps}
use Rattle.group_growth.specs.Growing.{OkGenerators}
use Rattle.group_growth.specs.Acceptance.{Whole}
use Rattle.group_growth.specs.Members as growing
use Rattle.operation.specs.Meaning.{matrix_of, vector_of, motion_of}
use Rattle.operation.specs.Product.{identity_operation, operation_of}
use Rattle.operation.specs.declared.Operation.{Operation}
use Rattle.centering.specs.Letters.{points_of}
use Rattle.centering.specs.Lattices.{points, triple_of}
use Rattle.centering.specs.declared.Centering.{Centering}
use Rattle.space_group.specs.Generated.{motions, Generated, GeneratedRotation}
use Rattle.space_group.specs.Traversal.{same_turn}
use Rattle.space_group.specs.OperationGrowth.{Small, operation-rotation, operation-alike, keeps-alike, motion_growth, operation_forms, identity-operation}
use Rattle.space_group_theorems.specs.Acceptance.{Accepted, accepted-whole, lists, motions-keep}

module _ (c : Centering) (gens operations : List Operation) (steps : List ℕ) (A : Accepted c gens operations steps) where
  -- The motions that the operations are made of.
  abbrev list : List SpaceMotion
  list = A.list

  reached : ListsReached same_rotation compose identity (motions gens) list
  reached = lists gens list A.listed

  -- They have their entries in −1..1.
  pub member-small : (f : SpaceMotion) → Generated gens f → Small f
  member-small f r = A.small f.rotation (f, r, refl)

  -- The operations are theirs.
  pub member-listed : (o : Operation) → Mem o operations → Mem o (map operation_of list)
  member-listed o m = rw A.operations-are at m

  pub listed-member : (o : Operation) → Mem o (map operation_of list) → Mem o operations
  listed-member o m = rw A.operations-are m

  -- A member comes from a generated motion.
  pub member-motion : (o : Operation) → Mem o operations → (f : SpaceMotion) × Mem f list × (operation_of f ≡ o)
  member-motion o m = mem-of-map operation_of list (member-listed o m)

  -- A motion of the list gives a member.
  pub motion-member : (f : SpaceMotion) → Mem f list → Mem (operation_of f) operations
  motion-member f m = listed-member (operation_of f) (mem-map operation_of m)

  -- Their growth.
  kept : OkGenerators (motion_growth c) (motions gens)
  kept = motions-keep c gens A.keep

  whole : Whole (motion_growth c) (motions gens) 48 list steps
  whole = accepted-whole c gens operations steps A

  -- Two generated motions with one rotation have translations in one class.
  pub one_class : (f g : SpaceMotion) → Generated gens f → Generated gens g → f.rotation ≡ g.rotation → Alike (points_of c) f g
  one_class f g r t p = growing.one_class (motion_growth c) (motions gens) kept 48 list steps whole f g r t (rotation-same f g p)

  -- ---- the list
  -- It starts with the identity.
  pub identity-first : (rest : List Operation) × (operations ≡ identity_operation ∷ rest)
  identity-first = (
    map operation_of reached.rest,
    A.operations-are ∙ ap (map operation_of) reached.first ∙ ap (λ o. o ∷ map operation_of reached.rest) (identity-operation c),
  )

  -- It holds at most 48.
  pub at-most-48 : length operations ≤ 48
  at-most-48 =
      omega (arith, ap length A.operations-are, length-map list operation_of, growing.at_most (motion_growth c) (motions gens) kept 48 list steps whole)

  -- Every generated rotation is there,
  pub rotation-there : (R : Matrix) → GeneratedRotation gens R → (o : Operation) × Mem o operations × (matrix_of o.rotation ≡ R)
  rotation-there R (f, r, p) =
      let (g, m, s) = growing.key-there (motion_growth c) (motions gens) kept 48 list steps whole f r in
      (operation_of g, motion-member g m, operation-rotation g (member-small g (reached.sound g m)) ∙ sym (same-rotation f g s) ∙ p)

  -- nothing else is,
  pub rotation-generated : (o : Operation) → Mem o operations → GeneratedRotation gens (matrix_of o.rotation)
  rotation-generated o m =
      let (f, k, p) = member-motion o m in
      (f, reached.sound f k, sym (operation-rotation f (member-small f (reached.sound f k))) ∙ ap (λ o. matrix_of o.rotation) p)

  -- and none twice.
  pub rotations-once : Distinct same_turn operations
  rotations-once = rw A.operations-are (growing.forms-once (motion_growth c) (motions gens) kept 48 list steps whole (operation_forms c))

  -- ---- the translations
  -- Each is below 12.
  pub translation-below : (o : Operation) → Mem o operations → Reduced (triple_of o.translation)
  unfolding operation_of
  translation-below o m = let (f, k, p) = member-motion o m in rw (← p) (reduced-lt f.translation)

  -- Each is that of a generated motion, modulo 12.
  pub translation-reached : (o : Operation) → Mem o operations
      → (f : SpaceMotion) × Generated gens f × (f.rotation ≡ matrix_of o.rotation) × (reduced f.translation ≡ triple_of o.translation)
  unfolding operation_of
  translation-reached o m =
      let (f, k, p) = member-motion o m in
      let r = reached.sound f k in
      (f, r, sym (operation-rotation f (member-small f r)) ∙ ap (λ o. matrix_of o.rotation) p, ap (λ o. triple_of o.translation) p)

  -- Each is right modulo L: any generated motion with the rotation differs from it by a vector of L.
  pub translation-right : (o : Operation) → Mem o operations → (f : SpaceMotion) → Generated gens f → f.rotation ≡ matrix_of o.rotation
      → Congruent (points_of c) f.translation (vector_of o.translation)
  unfolding motion_of
  translation-right o m f r p =
      let (g, k, q) = member-motion o m in
      let t = reached.sound g k in
      let small = member-small g t in
      let turn : f.rotation ≡ g.rotation = p ∙ ap (λ o. matrix_of o.rotation) (sym q) ∙ operation-rotation g small in
      let near = subst (λ o. Alike (points_of c) g (motion_of o)) q (operation-alike c g small) in
      congruent-transitive (points_of c) (points c) f.translation g.translation (vector_of o.translation) (one_class f g r t turn).1 near.1

  -- ---- the group, modulo L
  -- A motion that is alike to a generated one is alike to a member.
  pub near-member : (f g : SpaceMotion) → Alike (points_of c) f g → Generated gens g → (o : Operation) × Mem o operations × Alike (points_of c) f (motion_of o)
  near-member f g near r =
      let (o, m, close) = growing.near-member (motion_growth c) (motions gens) kept 48 list steps whole (operation_forms c) f g near r in
      (o, listed-member o m, close)

  -- A member is alike to a generated motion.
  pub member-near : (o : Operation) → Mem o operations → (f : SpaceMotion) × Generated gens f × Alike (points_of c) f (motion_of o)
  member-near o m = growing.member-near (motion_growth c) (motions gens) kept 48 list steps whole (operation_forms c) o (member-listed o m)

  -- Generated motions keep L.
  pub generated-keeps : (f : SpaceMotion) → Generated gens f → Keeps (points_of c) f
  generated-keeps = growing.generated-ok (motion_growth c) (motions gens) kept

  -- A motion alike to one that keeps L keeps L.
  pub alike-keeps : (f g : SpaceMotion) → Alike (points_of c) f g → Keeps (points_of c) f → Keeps (points_of c) g
  alike-keeps = keeps-alike c

  -- Any product of two members is, modulo L, a member.
  pub product-member : (o p : Operation) → Mem o operations → Mem p operations
      → (q : Operation) × Mem q operations × Alike (points_of c) (compose (motion_of o) (motion_of p)) (motion_of q)
  product-member o p m k =
      let (q, n, close) =
      growing.product-member (motion_growth c) (motions gens) kept 48 list steps whole (operation_forms c) o p (member-listed o m) (member-listed p k) in
      (q, listed-member q n, close)

  -- Each member has an inverse in the list, modulo L, on either side.
  pub inverse-member : (o : Operation) → Mem o operations
      → (p : Operation) × Mem p operations × Alike (points_of c) (compose (motion_of p) (motion_of o)) identity
      × Alike (points_of c) (compose (motion_of o) (motion_of p)) identity
  inverse-member o m =
      let (p, k, left, right) = growing.inverse-member (motion_growth c) (motions gens) kept 48 list steps whole (operation_forms c) o (member-listed o m) in
      (p, listed-member p k, left, right)
