-- Laws of the table of a list of operations: it has n² cells, and a cell is the index of the one listed operation that is the product modulo L.
use Rattle.std.specs.Prelude.{◌≡◌, Bool, T}
use Rattle.std.proofs.Common.{sym, ◌∙◌, get_or-append-add}
use mathlib.Core.List.Memᴰ.{map as mem-map}
use mathlib.Core.List.{List, [], ◌∷◌, map}
use Prim.Native.Nat.{ℕ, zero, suc, ◌+◌, ◌*◌, ◌<◌}
use native.Mathlib.Omega.{arith}
use Rattle.std.proofs.Math.Nat.{suc-mul}
use Rattle.std.proofs.Math.Dec.{eqb_refl}
use Rattle.std.proofs.Math.ListN.{length, get_or, length-append, get_or-append, get_or-map}
use Rattle.std.proofs.lemmas.List.{length-map}
use Rattle.laws.specs.Motion.{SpaceMotion, compose}
use Rattle.laws.specs.Distinct.{Distinct, Equivalence, Mem→has, has→Mem, has-respects, equality-equivalence}
use Rattle.laws.specs.Lattice.{same_triple, triple-decides}
use Rattle.laws.specs.SameMatrix.{same_rotation, same-rotation, rotation-same}
use Rattle.laws.specs.Growth.{place}
use Rattle.laws.specs.GrowthClosure.{place-lt, place_same}
use Rattle.laws.specs.Truth.{and_left, and_right, both}
use Rattle.laws.specs.Indices.{member-at, image-at, distinct-index}
use Rattle.operation.specs.Code.{code_of}
use Rattle.operation.specs.Meaning.{motion_of}
use Rattle.operation.specs.Product.{identity_operation}
use Rattle.operation.specs.declared.Operation.{Operation}
use Rattle.centering.specs.declared.Centering.{Centering}
use Rattle.space_group.specs.Generated.{same_vector_class}
use Rattle.group_record.specs.Groups.{Alike, InSet, Allowed, Listing, same_code}
use Rattle.group_record.specs.ListedForm.{matrix-injective, code-equivalence, alike-reflexive, alike-symmetric, alike-transitive}
use Rattle.group_table.specs.Tables.{same_modulo, index_of, row_of, rows_of, table_of}

-- ---- lists
module _ {A : Type 0} (same : A → A → Bool) (E : Equivalence same) where
  -- In a list without repeats what stands at an index has that index for its place.
  pub distinct-place : {l : List A} → Distinct same l → (x d : A) (k : ℕ) → k < length l → T (same x (get_or l k d)) → place same x l ≡ k
  distinct-place {l} D x d k h s =
      let there = has-respects same E x (get_or l k d) l s (Mem→has same E (member-at l k d h)) in
      let found = place_same same x l d there in
      distinct-index same E D d (place same x l) k (place-lt same x l there) h (E.transitive _ x _ (E.symmetric x _ found) s)

-- ---- the test of motions modulo L
module _ (c : Centering) where
  -- What passes it differs by a translation of L,
  pub modulo-alike : (f g : SpaceMotion) → T (same_modulo c f g) → Alike c f g
  unfolding same_modulo same_vector_class
  modulo-alike f g t = (same-rotation f g (and_left (same_rotation f g) _ t), has→Mem same_triple triple-decides (and_right (same_rotation f g) _ t))

  -- and the other way round.
  pub alike-modulo : (f g : SpaceMotion) → Alike c f g → T (same_modulo c f g)
  unfolding same_modulo same_vector_class
  alike-modulo f g (p, q) =
      both (same_rotation f g) _ (rotation-same f g p) (Mem→has same_triple (equality-equivalence same_triple triple-decides) q)

  -- To be one modulo L is an equivalence.
  pub modulo-equivalence : Equivalence (same_modulo c)
  modulo-equivalence =
      record {
        reflexive = λ f. alike-modulo f f (alike-reflexive c f);
        symmetric = λ f g t. alike-modulo g f (alike-symmetric c f g (modulo-alike f g t));
        transitive = λ f g h s t. alike-modulo f h (alike-transitive c f g h (modulo-alike f g s) (modulo-alike g h t));
      }

-- ---- cells
module _ (c : Centering) (l : List SpaceMotion) where
  -- A row has a cell for each right factor.
  row-length : (f : SpaceMotion) → length (row_of c l f) ≡ length l
  row-length f = length-map l _

  -- There are as many cells as products.
  rows-length : (fs : List SpaceMotion) → length (rows_of c l fs) ≡ length fs * length l
  unfolding rows_of
  rows-length [] = omega arith
  rows-length (f ∷ fs) =
      length-append (row_of c l f) (rows_of c l fs)
      ∙ omega (arith, row-length f, rows-length fs, suc-mul (length fs) (length l))

  -- The product of motion i and motion j has its index at i·n + j.
  row_at : (fs : List SpaceMotion) (d : SpaceMotion) (i j : ℕ) → i < length fs → j < length l
      → get_or (rows_of c l fs) (i * length l + j) 0 ≡ index_of c l (compose (get_or fs i d) (get_or l j d))
  unfolding rows_of
  row_at [] d i j h k = absurd (omega arith)
  row_at (f ∷ fs) d zero j h k =
      let at : 0 * length l + j ≡ j = omega arith in
      rw at (get_or-append (row_of c l f) (rows_of c l fs) 0 j (omega (arith, row-length f)) ∙ image-at (λ g. index_of c l (compose f g)) l j d 0 k)
  row_at (f ∷ fs) d (suc i) j h k =
      let at : suc i * length l + j ≡ length (row_of c l f) + (i * length l + j) = omega (arith, suc-mul i (length l), row-length f) in
      rw at (get_or-append-add (row_of c l f) (rows_of c l fs) (i * length l + j) 0 ∙ row_at fs d i j (omega arith) k)

module _ (c : Centering) (l : List Operation) where
  -- The motion of the operation at an index.
  abbrev pub motion_at : ℕ → SpaceMotion
  motion_at i = motion_of (get_or l i identity_operation)

  -- n² cells.
  pub table-length : length (table_of c l) ≡ length l * length l
  table-length = rw (rows-length c (map motion_of l) (map motion_of l), length-map l motion_of)

  -- The cell of two factors is the index of their product.
  pub cell-at : (i j : ℕ) → i < length l → j < length l
      → get_or (table_of c l) (i * length l + j) 0 ≡ index_of c (map motion_of l) (compose (motion_at i) (motion_at j))
  cell-at i j h k =
      let ms = map motion_of l in
      let cell = row_at c ms ms (motion_of identity_operation) i j (omega (arith, length-map l motion_of)) (omega (arith, length-map l motion_of)) in
      rw (length-map l motion_of, get_or-map motion_of l i identity_operation, get_or-map motion_of l j identity_operation) at cell

  -- A motion of the set has an index, and is the listed operation of that index modulo L.
  pub index-alike : (f : SpaceMotion) → InSet c (map motion_of l) f
      → (index_of c (map motion_of l) f < length l) × Alike c f (motion_at (index_of c (map motion_of l) f))
  index-alike f (g, m, a) =
      let ms = map motion_of l in
      let E = modulo-equivalence c in
      let there = has-respects (same_modulo c) E f g ms (alike-modulo c f g a) (Mem→has (same_modulo c) E m) in
      let found = modulo-alike c f _ (place_same (same_modulo c) f ms (motion_of identity_operation) there) in
      (omega (arith, place-lt (same_modulo c) f ms there, length-map l motion_of), rw (get_or-map motion_of l (index_of c ms f) identity_operation) at found)

module _ (c : Centering) {l : List Operation} (L : Listing l) where
  -- One rotation stands once in a listing.
  pub rotation-index : (i j : ℕ) → i < length l → j < length l → (motion_at c l i).rotation ≡ (motion_at c l j).rotation → i ≡ j
  unfolding motion_of
  rotation-index i j h k e =
      let f = get_or l i identity_operation in
      let g = get_or l j identity_operation in
      let rotations =
      matrix-injective f.rotation g.rotation (L.entries f (member-at l i identity_operation h)) (L.entries g (member-at l j identity_operation k))
      e in
      distinct-index same_code code-equivalence L.distinct identity_operation i j h k (rw rotations (eqb_refl (code_of g.rotation)))

  -- So a motion that is a listed operation modulo L has that operation's index.
  pub index_is : (f : SpaceMotion) (k : ℕ) → k < length l → Alike c f (motion_at c l k) → index_of c (map motion_of l) f ≡ k
  index_is f k h a =
      let (below, near) = index-alike c l f (motion_at c l k, mem-map motion_of (member-at l k identity_operation h), a) in
      rotation-index (index_of c (map motion_of l) f) k below h (sym near.0 ∙ a.0)

  -- A product that is operation k modulo L has k in its cell.
  pub cell-is : (i j k : ℕ) → i < length l → j < length l → k < length l → Alike c (compose (motion_at c l i) (motion_at c l j)) (motion_at c l k)
      → get_or (table_of c l) (i * length l + j) 0 ≡ k
  cell-is i j k h p q a = cell-at c l i j h p ∙ index_is (compose (motion_at c l i) (motion_at c l j)) k q a

  module _ (A : Allowed c (map motion_of l)) where
    -- A product of listed motions is in the set.
    product_inside : (i j : ℕ) → i < length l → j < length l → InSet c (map motion_of l) (compose (motion_at c l i) (motion_at c l j))
    product_inside i j h k =
        A.product (motion_at c l i) (motion_at c l j) (mem-map motion_of (member-at l i identity_operation h))
        (mem-map motion_of (member-at l j identity_operation k))

    -- Every cell is an index, and the product is the operation of that index modulo L.
    pub cell-alike : (i j : ℕ) → i < length l → j < length l
        → (get_or (table_of c l) (i * length l + j) 0 < length l)
        × Alike c (compose (motion_at c l i) (motion_at c l j)) (motion_at c l (get_or (table_of c l) (i * length l + j) 0))
    cell-alike i j h k = rw (cell-at c l i j h k) (index-alike c l (compose (motion_at c l i) (motion_at c l j)) (product_inside i j h k))
