-- The list order, said without a procedure: each listed operation is the product along the least word over the generators, shorter first and then by the
-- generators' indices, that leads to its rotation, and the list ascends by these words. Only one list is so.
use Rattle.std.specs.Prelude.{◌≡◌, ℕ}
use Rattle.std.proofs.Common.{sym, ◌∙◌, ap}
use Rattle.std.proofs.Math.Option.{some}
use mathlib.Core.List.{List, Memᴰ as Mem}
use Rattle.laws.specs.Motion.{SpaceMotion, compose, identity}
use Rattle.laws.specs.OrderedClosure.{AtMost}
use Rattle.laws.specs.Words.{Word, Shortlex, product as along-word, reached-by-words}
use Rattle.laws.specs.SameMatrix.{same_rotation, rotation-same, rotation-equivalence}
use Rattle.group_growth.specs.WordOrder as growing
use Rattle.operation.specs.Meaning.{matrix_of}
use Rattle.operation.specs.Product.{operation_of}
use Rattle.operation.specs.declared.Operation.{Operation}
use Rattle.centering.specs.declared.Centering.{Centering}
use Rattle.space_group.specs.Generated.{motions}
use Rattle.space_group.specs.OperationGrowth.{motion_growth, operation-rotation}
use Rattle.space_group_theorems.specs.Acceptance.{Accepted, accepted-whole, motions-keep}
use Rattle.space_group_theorems.specs.Members.{member-small}

-- Operations of motions in the order of the least words that lead to their rotations, each rotation once.
abbrev pub WordOrdered : List Operation → List Operation → Type 0
WordOrdered gens = growing.WordOrdered same_rotation compose identity (motions gens) operation_of

-- Only one list of operations is so.
pub word-order-unique : (gens o p : List Operation) → WordOrdered gens o → WordOrdered gens p → o ≡ p
word-order-unique gens = growing.word-order-unique same_rotation compose identity (motions gens) operation_of rotation-equivalence

module _ (c : Centering) (gens operations : List Operation) (steps : List ℕ) (A : Accepted c gens operations steps) where
  -- That of an accepted symbol is.
  pub word-ordered : WordOrdered gens operations
  word-ordered =
      rw A.operations-are (growing.word-ordered (motion_growth c) (motions gens) (motions-keep c gens A.keep) operation_of 48 A.list steps
      (accepted-whole c gens operations steps A))

  -- Each operation is the product along a word that comes before every other word that leads to its rotation.
  pub least-word : (o : Operation) → Mem o operations
      → (w : Word) × (f : SpaceMotion) × (along-word compose identity (motions gens) w ≡ some f) × (operation_of f ≡ o)
      × ((v : Word) (g : SpaceMotion) → along-word compose identity (motions gens) v ≡ some g → g.rotation ≡ matrix_of o.rotation → AtMost Shortlex w v)
  least-word o m =
      let (w, f, spells, p, least) = growing.least-word same_rotation compose identity (motions gens) operation_of word-ordered o m in
      let r = (reached-by-words compose identity (motions gens) f).1 (w, spells) in
      let turn : matrix_of o.rotation ≡ f.rotation =
      ap (λ o. matrix_of o.rotation) (sym p) ∙ operation-rotation f (member-small c gens operations steps A f r) in
      (w, f, spells, p, λ v g q e. least v g q (rotation-same g f (e ∙ turn)))
