-- The table of allowed operations is the table of a group. The idea: an equation between products of motions is one between products of their indices.
use Rattle.std.specs.Prelude.{◌≡◌, List, map, ℕ, ◌/◌, ◌%◌, ◌<◌, ◌≤◌, length, get_or}
use Rattle.std.proofs.Common.{◌∙◌, ap, subst, div-add-mod', div-lt_iff_lt-mul, mod-lt, arith}
use Rattle.std.proofs.lemmas.List.{length-map}
use Rattle.laws.specs.Motion.{compose, identity, compose-assoc, identity-compose, compose-identity}
use Rattle.laws.specs.Indices.{member-index}
use Rattle.operation.specs.Composed.{identity-motion}
use Rattle.operation.specs.Meaning.{motion_of}
use Rattle.operation.specs.Product.{identity_operation}
use Rattle.operation.specs.declared.Operation.{Operation}
use Rattle.centering.specs.declared.Centering.{Centering}
use Rattle.group_record.specs.Groups.{Allowed, Listing}
use Rattle.group_record.specs.ListedForm.{alike-reflexive}
use Rattle.group_record.specs.GroupLaws.{identity-listed, allowed-group}
use Rattle.subgroup_laws.specs.Table.{product, Cells, GroupTable}
use Rattle.group_table.specs.Tables.{index_of, table_of}
use Rattle.group_table.specs.OperationTables.{motion_at, table-length, cell-alike, index-alike, index_is}
use Rattle.group_table.specs.TableMotions.{BelongsTo, belongs-inside, listed-belongs, one_index, product-belongs, product_is}

-- The index of the identity.
abbrev pub identity_index : Centering → List Operation → ℕ
identity_index c l = index_of c (map motion_of l) identity

module _ (c : Centering) {l : List Operation} (L : Listing l) where
  -- It is where the identity operation stands.
  pub identity-at : (k : ℕ) → k < length l → get_or l k identity_operation ≡ identity_operation → identity_index c l ≡ k
  identity-at k h e =
      let same : motion_at c l k ≡ identity = ap motion_of e ∙ identity-motion in
      index_is c L identity k h (rw same (alike-reflexive c identity))

  module _ (A : Allowed c (map motion_of l)) where
    -- The product of indices that the table gives.
    abbrev ◌·◌ : ℕ → ℕ → ℕ
    ◌·◌ = product (length l) (table_of c l)

    infixl 70 ◌·◌
    -- 1 to 48 operations.
    pub order-fits : (0 < length l) × (length l ≤ 48)
    order-fits = let (some, few) = A.count in (omega (arith, length-map l motion_of), omega (arith, length-map l motion_of))

    -- The cells are n² numbers below n.
    table-cells : Cells (length l) (table_of c l)
    table-cells =
        record {
          limit = order-fits.1;
          size = table-length c l;
          below =
              λ k h.
              let n = length l in
              let row : k / n < n = (div-lt_iff_lt-mul order-fits.0).1 h in
              subst (λ (m : ℕ). get_or (table_of c l) m 0 < n) (div-add-mod' k n) (cell-alike c L A (k / n) (k % n) row (mod-lt k order-fits.0)).0;
        }

    -- The identity belongs to its index.
    identity-belongs : BelongsTo c l identity (identity_index c l)
    identity-belongs = index-alike c l identity (allowed-group c L A).holds-identity

    -- The identity operation stands there.
    pub identity-stands : get_or l (identity_index c l) identity_operation ≡ identity_operation
    identity-stands =
        let (k, h, e) = member-index identity_operation (identity-listed L A.holds-identity) in
        rw (identity-at k h e) e

    -- The identity of the motions is the identity of the table, on both sides.
    left_identity : (x : ℕ) → x < length l → identity_index c l · x ≡ x
    left_identity x h =
        product_is c L A identity (motion_at c l x) (identity_index c l) x x identity-belongs (listed-belongs c l x h)
        (rw (identity-compose (motion_at c l x)) (listed-belongs c l x h))

    right_identity : (x : ℕ) → x < length l → x · identity_index c l ≡ x
    right_identity x h =
        product_is c L A (motion_at c l x) identity x (identity_index c l) x (listed-belongs c l x h) identity-belongs
        (rw (compose-identity (motion_at c l x)) (listed-belongs c l x h))

    -- The inverse of a motion has the inverse's index.
    inverse : (x : ℕ) → x < length l → (y : ℕ) × (y < length l) × (x · y ≡ identity_index c l) × (y · x ≡ identity_index c l)
    inverse x h =
        let f = motion_at c l x in
        let at = listed-belongs c l x h in
        let (g, inside, right, left) = (allowed-group c L A).inverse f (belongs-inside c l f x at) in
        let (y, belongs, only) = one_index c L g inside in (
          y,
          belongs.0,
          product_is c L A f g x y (identity_index c l) at belongs (rw right identity-belongs),
          product_is c L A g f y x (identity_index c l) belongs at (rw left identity-belongs),
        )

    -- Products of motions associate.
    associative : (x y z : ℕ) → x < length l → y < length l → z < length l → x · y · z ≡ x · (y · z)
    associative x y z h j k =
        let f = motion_at c l x in
        let g = motion_at c l y in
        let m = motion_at c l z in
        let left = product-belongs c L A f g x y (listed-belongs c l x h) (listed-belongs c l y j) in
        let right = product-belongs c L A g m y z (listed-belongs c l y j) (listed-belongs c l z k) in
        let whole = product-belongs c L A f (compose g m) x (y · z) (listed-belongs c l x h) right in
        product_is c L A (compose f g) m (x · y) z (x · (y · z)) left (listed-belongs c l z k) (rw (compose-assoc f g m) whole)

    -- The table of allowed operations is that of a group.
    pub group-table : GroupTable (length l) (table_of c l) (identity_index c l)
    group-table =
        record {
          cells = table-cells;
          group =
              record {
                product-below = λ x y h k. (product-belongs c L A (motion_at c l x) (motion_at c l y) x y (listed-belongs c l x h) (listed-belongs c l y k)).0;
                identity-below = identity-belongs.0;
                left_identity = left_identity;
                right_identity = right_identity;
                inverse = inverse;
                associative = associative;
              };
        }
