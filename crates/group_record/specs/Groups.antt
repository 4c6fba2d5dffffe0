-- What a record stands for: motions of space, by R5. A list of operations, with L added, as a set of motions; and which lists are allowed.
use Rattle.std.specs.Prelude.{◌≡◌, Bool, ◌≤◌, ◌<◌, eqb, length}
use mathlib.Core.List.{List, Memᴰ as Mem}
use Rattle.laws.specs.Matrix.{Unimodular}
use Rattle.laws.specs.Motion.{SpaceMotion, compose, identity}
use Rattle.laws.specs.Distinct.{Distinct}
use Rattle.laws.specs.Lattice.{Congruent}
use Rattle.laws.specs.LatticeMaps.{MapsOnto}
use Rattle.laws.specs.Sorted.{Sorted}
use Rattle.operation.specs.Code.{code_of}
use Rattle.operation.specs.Entries.{Entries}
use Rattle.operation.specs.Meaning.{matrix_of}
use Rattle.operation.specs.declared.Operation.{Operation}
use Rattle.centering.specs.Letters.{points_of}
use Rattle.centering.specs.LatticeLaws.{Smallest}
use Rattle.centering.specs.declared.Centering.{Centering}

-- Two motions differ by a translation of L.
abbrev pub Alike : Centering → SpaceMotion → SpaceMotion → Type 0
Alike c f g = (f.rotation ≡ g.rotation) × Congruent (points_of c) f.translation g.translation

-- The set of motions of a list: the listed motions with L added.
abbrev pub InSet : Centering → List SpaceMotion → SpaceMotion → Type 0
InSet c l m = (f : SpaceMotion) × Mem f l × Alike c m f

-- Which finite lists of motions R5.5 allows.
pub record Allowed (c : Centering) (l : List SpaceMotion) : Type 0 where
  pub count : (1 ≤ length l) × (length l ≤ 48)
  pub determinant : (f : SpaceMotion) → Mem f l → Unimodular f.rotation
  pub keeps : (f : SpaceMotion) → Mem f l → MapsOnto (points_of c) f.rotation
  pub holds-identity : Mem identity l
  pub product : (f g : SpaceMotion) → Mem f l → Mem g l → (h : SpaceMotion) × Mem h l × Alike c (compose f g) h

-- Two operations have one rotation, told by its code.
abbrev pub same_code : Operation → Operation → Bool
same_code f g = eqb (code_of f.rotation) (code_of g.rotation)

-- Operations with entries in −1..1 and each rotation once.
pub record Listing (l : List Operation) : Type 0 where
  pub entries : (f : Operation) → Mem f l → Entries (matrix_of f.rotation)
  pub distinct : Distinct same_code l

-- The form in which a record lists operations: entries in −1..1, ascending by code, each translation the smallest of its class.
pub record Form (c : Centering) (l : List Operation) : Type 0 where
  pub entries : (f : Operation) → Mem f l → Entries (matrix_of f.rotation)
  pub ascend : Sorted (λ f g. code_of f.rotation < code_of g.rotation) l
  pub smallest : (f : Operation) → Mem f l → Smallest c f.translation f.translation
