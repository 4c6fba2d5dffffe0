-- The search for a product's index by the code of its rotation: where the code stands among the listed ones, and that the table has this index in its cell.
use Rattle.std.specs.Prelude.{◌≡◌, List, ◌∷◌, [], ◌++◌, map, ℕ, ◌+◌, ◌*◌, ◌<◌, ◌≤◌, eqb, length, take, set, None, Option, Some}
use Rattle.std.proofs.Common.{sym, ◌∙◌, ap₂, add-one, arith, take-suc, length-take-le, get_or-take}
use Rattle.std.proofs.Math.Path.{ap}
use mathlib.Core.List.Memᴰ.{map as mem-map}
use Rattle.std.proofs.Math.Dec.{eqb_refl}
use Rattle.std.proofs.Math.ListN.{get_or}
use Rattle.laws.specs.Motion.{compose}
use Rattle.laws.specs.Distinct.{Mem→has, eqb-equivalence}
use Rattle.laws.specs.Growth.{place}
use Rattle.laws.specs.GrowthClosure.{place-stays}
use Rattle.laws.specs.Indices.{member-at, at-any, image-at}
use Rattle.operation.specs.Code.{code_of}
use Rattle.operation.specs.Entries.{Entries, all-entries, digits-entries, digits-again}
use Rattle.operation.specs.Meaning.{motion_of, digits_of}
use Rattle.operation.specs.Product.{identity_operation, operation_of, product_of}
use Rattle.operation.specs.declared.Operation.{Operation}
use Rattle.centering.specs.declared.Centering.{Centering}
use Rattle.space_group.specs.Traversal.{turn_of, padded}
use Rattle.space_group.specs.Places.{place-key}
use Rattle.space_group.specs.Resuming.{padded-set}
use Rattle.group_record.specs.Groups.{Alike, Allowed, Listing, same_code}
use Rattle.group_record.specs.ListedForm.{code-equivalence}
use Rattle.group_table.specs.Tables.{table_of}
use Rattle.group_table.specs.OperationTables.{distinct-place, motion_at, table-length, cell-alike}

-- Where the code of a product stands among codes; 48, which no index is, where an entry has left −1..1.
abbrev pub product_place : Option Operation → List ℕ → ℕ
product_place (Some h) codes = place eqb (turn_of h) codes
product_place None codes = 48

module _ (c : Centering) {l : List Operation} (L : Listing l) where
  -- A listed code stands at its operation's index, whatever comes behind the codes.
  code-place : (k : ℕ) → k < length l → (rest : List ℕ) → place eqb (turn_of (get_or l k identity_operation)) (map turn_of l ++ rest) ≡ k
  code-place k h rest =
      let f = get_or l k identity_operation in
      place-stays eqb (turn_of f) (map turn_of l) rest (Mem→has eqb eqb-equivalence (mem-map turn_of (member-at l k identity_operation h)))
      ∙ sym (place-key turn_of f l) ∙ distinct-place same_code code-equivalence L.distinct f identity_operation k h (eqb_refl (code_of f.rotation))

  -- A product that is operation k modulo L has its code there.
  product-place : (f g : Operation) (k : ℕ) → k < length l → Alike c (compose (motion_of f) (motion_of g)) (motion_at c l k) → (rest : List ℕ)
      → product_place (product_of f g) (map turn_of l ++ rest) ≡ k
  unfolding product_of operation_of motion_of
  product-place f g k h a rest =
      let m = compose (motion_of f) (motion_of g) in
      let o = get_or l k identity_operation in
      let small = L.entries o (member-at l k identity_operation h) in
      let entries : Entries m.rotation = rw a.0 small in
      let digits = ap digits_of a.0 ∙ digits-again o.rotation ((digits-entries o.rotation).1 small) in
      rw ((all-entries m.rotation).1 entries, digits) (code-place k h rest)

module _ (c : Centering) (n : ℕ) (operations : List Operation) (there : n ≤ length operations) where
  -- The first n operations, read from the slots.
  slot-at : (i : ℕ) (d : Operation) → i < n → get_or (take n operations) i identity_operation ≡ get_or operations i d
  slot-at i d h = get_or-take n operations i identity_operation h ∙ at-any operations i identity_operation d (omega arith)

  -- Their table has n² cells.
  pub cells_count : length (table_of c (take n operations)) ≡ n * n
  cells_count = rw (table-length c (take n operations), length-take-le n operations there)

  module _ (L : Listing (take n operations)) (A : Allowed c (map motion_of (take n operations))) (codes : List ℕ)
      (e : codes ≡ padded 48 0 (map turn_of (take n operations))) (i j : ℕ) (d d' : Operation) (h : i < n) (k : j < n) where
    -- The product of two of them has its code at the index that the table has in its cell,
    pub cell-found : product_place (product_of (get_or operations i d) (get_or operations j d')) codes ≡ get_or (table_of c (take n operations)) (i * n + j) 0
    cell-found =
        let l = take n operations in
        let count = length-take-le n operations there in
        let (below, alike) = cell-alike c L A i j (omega arith) (omega arith) in
        ap₂ (λ (f g : Operation). product_place (product_of f g) codes) (sym (slot-at i d h)) (sym (slot-at j d' k))
        ∙ ap (product_place (product_of (get_or l i identity_operation) (get_or l j identity_operation))) e
        ∙ product-place c L (get_or l i identity_operation) (get_or l j identity_operation) _ below alike _
        ∙ ap (λ (m : ℕ). get_or (table_of c l) (i * m + j) 0) count

    -- and that is below n.
    pub found_below : product_place (product_of (get_or operations i d) (get_or operations j d')) codes < n
    found_below =
        let count = length-take-le n operations there in
        let below = (cell-alike c L A i j (omega arith) (omega arith)).0 in
        rw cell-found (rw count at below)

-- ---- filling slots
-- One more slot filled from a list.
pub padded-next : (m : ℕ) (t : List ℕ) (k x : ℕ) → k < length t → length t ≤ m → x ≡ get_or t k 0 → set (padded m 0 (take k t)) k x
    ≡ padded m 0 (take (k + 1) t)
padded-next m t k x h few e =
    let long = length-take-le k t (omega arith) in
    let next = padded-set m 0 (take k t) x (omega arith) in
    let more : take (k + 1) t ≡ take k t ++ x ∷ [] = ap (λ (i : ℕ). take i t) (add-one k) ∙ take-suc t k 0 h ∙ ap (λ (y : ℕ). take k t ++ y ∷ []) (sym e) in
    rw (more) (ap (λ (i : ℕ). set (padded m 0 (take k t)) i x) (sym long) ∙ next)

-- The code of an operation among the codes of the first n.
pub code_at : (n : ℕ) (l : List Operation) (i : ℕ) (d : Operation) → i < n → n ≤ length l → turn_of (get_or l i d) ≡ get_or (map turn_of (take n l)) i 0
code_at n l i d h k =
    sym (image-at turn_of (take n l) i d 0 (omega (arith, length-take-le n l k)) ∙ ap turn_of (get_or-take n l i d h))
