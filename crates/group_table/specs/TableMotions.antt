-- Tables and motions: each motion of the set, listed or moved by L, belongs to exactly one index, and products of motions go with the table.
use Rattle.std.specs.Prelude.{◌≡◌, List, map, ℕ, ◌<◌, length}
use Rattle.std.proofs.Common.{sym, ◌∙◌}
use mathlib.Core.List.Memᴰ.{map as mem-map}
use Rattle.laws.specs.Motion.{SpaceMotion, compose}
use Rattle.laws.specs.LatticeMaps.{MapsInto}
use Rattle.laws.specs.Indices.{member-at}
use Rattle.operation.specs.Meaning.{motion_of}
use Rattle.operation.specs.Product.{identity_operation}
use Rattle.operation.specs.declared.Operation.{Operation}
use Rattle.centering.specs.Letters.{points_of}
use Rattle.centering.specs.declared.Centering.{Centering}
use Rattle.group_record.specs.Groups.{Alike, InSet, Allowed, Listing}
use Rattle.group_record.specs.ListedForm.{alike-reflexive, alike-transitive}
use Rattle.group_record.specs.GroupLaws.{compose-alike}
use Rattle.subgroup_laws.specs.Table.{product}
use Rattle.group_table.specs.Tables.{index_of, table_of}
use Rattle.group_table.specs.OperationTables.{motion_at, index-alike, index_is, cell-alike}

-- A motion belongs to an index: it is the operation of that index modulo L.
abbrev pub BelongsTo : Centering → List Operation → SpaceMotion → ℕ → Type 0
BelongsTo c l f i = (i < length l) × Alike c f (motion_at c l i)

module _ (c : Centering) (l : List Operation) where
  -- What belongs to an index is in the set.
  pub belongs-inside : (f : SpaceMotion) (i : ℕ) → BelongsTo c l f i → InSet c (map motion_of l) f
  belongs-inside f i (h, a) = (motion_at c l i, mem-map motion_of (member-at l i identity_operation h), a)

  -- A listed motion belongs to its index.
  pub listed-belongs : (i : ℕ) → i < length l → BelongsTo c l (motion_at c l i) i
  listed-belongs i h = (h, alike-reflexive c (motion_at c l i))

module _ (c : Centering) {l : List Operation} (L : Listing l) where
  -- Each motion of the set belongs to exactly one index.
  pub one_index : (f : SpaceMotion) → InSet c (map motion_of l) f → (i : ℕ) × BelongsTo c l f i × ((k : ℕ) → BelongsTo c l f k → i ≡ k)
  one_index f m = (index_of c (map motion_of l) f, index-alike c l f m, λ k (h, a). index_is c L f k h a)

  module _ (A : Allowed c (map motion_of l)) where
    -- The product of two motions of the set belongs to the product of their indices.
    pub product-belongs : (f g : SpaceMotion) (i j : ℕ) → BelongsTo c l f i → BelongsTo c l g j
        → BelongsTo c l (compose f g) (product (length l) (table_of c l) i j)
    unfolding product
    product-belongs f g i j (h, a) (k, b) =
        let (below, near) = cell-alike c L A i j h k in
        let maps : MapsInto (points_of c) f.rotation = rw a.0 (A.keeps (motion_at c l i) (mem-map motion_of (member-at l i identity_operation h))).0 in (
          below,
          alike-transitive c (compose f g) (compose (motion_at c l i) (motion_at c l j)) (motion_at c l _)
              (compose-alike c f (motion_at c l i) g (motion_at c l j) maps a b) near,
        )

    -- So a product's index tells the product of the indices.
    pub product_is : (f g : SpaceMotion) (i j k : ℕ) → BelongsTo c l f i → BelongsTo c l g j → BelongsTo c l (compose f g) k
        → product (length l) (table_of c l) i j ≡ k
    product_is f g i j k p q r =
        let (i₀, belongs, only) = one_index (compose f g) (belongs-inside c l (compose f g) k r) in
        sym (only _ (product-belongs f g i j p q)) ∙ only k r
