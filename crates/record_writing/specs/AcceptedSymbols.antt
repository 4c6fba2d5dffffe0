-- What an accepted symbol's group is for a record: its operations are a listing, and
-- they are allowed. All of it follows from what is listed for an accepted symbol.
use Rattle.std.specs.Prelude.{◌≡◌, refl, ℕ, ◌≤◌, length, take}
use Rattle.std.proofs.Common.{sym, ◌∙◌, ap, arith}
use mathlib.Core.List.Memᴰ.{cast as mem-cast}
use mathlib.Core.List.Memᴰ.{head as here}
use mathlib.Core.List.Memᴰ.{map as mem-map}
use mathlib.Core.List.Memᴰ.{of_map as mem-of-map}
use mathlib.Core.List.{List, map, Memᴰ as Mem}
use Rattle.std.proofs.lemmas.List.{length-map}
use Rattle.laws.specs.LatticeMaps.{MapsOnto, onto-unimodular}
use Rattle.laws.specs.Motion.{SpaceMotion, compose}
use Rattle.operation.specs.Composed.{identity-motion}
use Rattle.operation.specs.Meaning.{matrix_of, motion_of}
use Rattle.operation.specs.Product.{identity_operation}
use Rattle.operation.specs.declared.Operation.{Operation}
use Rattle.centering.specs.Letters.{points_of}
use Rattle.centering.specs.Lattices.{points}
use Rattle.centering.specs.declared.Centering.{Centering}
use Rattle.space_group_theorems.specs.Acceptance.{Accepted}
use Rattle.space_group_theorems.specs.Members.{identity-first, at-most-48, rotation-generated, rotations-once, member-near, generated-keeps, alike-keeps, product-member}
use Rattle.symbol_group.specs.AcceptedTexts.{accepted-text}
use Rattle.symbol_group.specs.Answers.{symbol_answer}
use Rattle.symbol_group.specs.Slots.{symbol-slots}
use Rattle.symbol_group.specs.declared.Answer.TheVariants.{Group}
use Rattle.symbol_group.specs.declared.SymbolGroup.{SymbolGroup}
use Rattle.group_record.specs.Groups.{Alike, Allowed, Listing}

-- ---- the list of accepted generators
module _ (c : Centering) (gens operations : List Operation) (steps : List ℕ) (A : Accepted c gens operations steps) where
  -- Entries are in −1..1, and each rotation is there once.
  pub accepted-listing : Listing operations
  accepted-listing =
      record {
        entries = λ f m. A.small (matrix_of f.rotation) (rotation-generated c gens operations steps A f m);
        distinct = rotations-once c gens operations steps A;
      }

  -- A listed motion is that of a listed operation, and maps L onto L.
  listed-keeps : (f : SpaceMotion) → Mem f (map motion_of operations) → MapsOnto (points_of c) f.rotation
  listed-keeps f m =
      let (o, k, e) = mem-of-map motion_of operations m in
      let (g, r, near) = member-near c gens operations steps A o k in
      rw e at (alike-keeps c gens operations steps A g (motion_of o) near (generated-keeps c gens operations steps A g r))

  -- The identity is listed.
  pub accepted-identity : Mem identity_operation operations
  accepted-identity = let (rest, e) = identity-first c gens operations steps A in rw e (here refl)

  -- The product of two listed motions is listed modulo L.
  listed-product : (f g : SpaceMotion) → Mem f (map motion_of operations) → Mem g (map motion_of operations)
      → (h : SpaceMotion) × Mem h (map motion_of operations) × Alike c (compose f g) h
  listed-product f g m k =
      let (o, n, p) = mem-of-map motion_of operations m in
      let (r, t, q) = mem-of-map motion_of operations k in
      let (h, u, near) = product-member c gens operations steps A o r n t in
      (motion_of h, mem-map motion_of u, rw (p, q) at near)

  -- So R5.5 allows them in a record.
  pub accepted-allowed : Allowed c (map motion_of operations)
  accepted-allowed =
      let (rest, first) = identity-first c gens operations steps A in
      record {
        count = (
          omega (arith, length-map operations motion_of, ap length first),
          omega (arith, length-map operations motion_of, at-most-48 c gens operations steps A),
        );
        determinant = λ f m. onto-unimodular (points_of c) (points c) f.rotation (listed-keeps f m);
        keeps = listed-keeps;
        holds-identity = mem-cast (sym identity-motion) (mem-map motion_of accepted-identity);
        product = listed-product;
      }

-- ---- what the writer is asked
-- At most 48 operations, there, and a listing.
pub symbol-writable : (text : List ℕ) (g : SymbolGroup) → g ≡ symbol_answer text → g.answer ≡ Group
    → (g.count ≤ 48) × (g.count ≤ length g.operations) × Listing (take g.count g.operations)
symbol-writable text g e a =
    let T = accepted-text text (sym (ap (λ (h : SymbolGroup). h.answer) e) ∙ a) in
    let listed : take g.count g.operations ≡ T.operations = ap (λ (h : SymbolGroup). take h.count h.operations) e ∙ T.same-operations in
    let (few, wide) = symbol-slots text in
    let count = ap (λ (h : SymbolGroup). h.count) e in
    let size = ap (λ (h : SymbolGroup). length h.operations) e in
    (omega arith, omega arith, rw listed (accepted-listing T.letter T.generators T.operations T.steps T.accepted))
