-- What the tests of the reading say of items, operations and motions: refusal 34 is given exactly where the
-- items are not those of operations in the listed form, and refusal 35 exactly where these are not allowed.
use Rattle.std.specs.Prelude.{◌≡◌, refl, ◌↔◌, true, ℕ, ◌<◌, ◌≤◌, ltb, eqb, length, None, Option, Some}
use Rattle.std.proofs.Common.{sym, ◌∙◌, ap, ap₂, subst, true≢false, arith, ltb-true, lt-ltb, eqb-true, eq-eqb}
use mathlib.Core.List.Memᴰ.{cast as mem-cast}
use mathlib.Core.List.Memᴰ.{head as here}
use mathlib.Core.List.Memᴰ.{map as mem-map}
use mathlib.Core.List.Memᴰ.{of_map as mem-of-map}
use mathlib.Core.List.Memᴰ.{tail as there}
use mathlib.Core.List.{List, [], ◌∷◌, map, Memᴰ as Mem}
use Rattle.std.proofs.lemmas.List.{length-map}
use Rattle.laws.specs.Matrix.{Vector, opposite}
use Rattle.laws.specs.Motion.{SpaceMotion, compose}
use Rattle.laws.specs.Residue.{Triple, reduced, ◌⊕◌, reduced-plus}
use Rattle.laws.specs.Distinct.{has, has-true}
use Rattle.laws.specs.Lattice.{Congruent, congruent-reflexive, zero_triple, Before, by-x, by-y, by-z, same_triple, triple-decides, below_twelve}
use Rattle.laws.specs.LatticeMaps.{MapsOnto, onto-unimodular}
use Rattle.laws.specs.Sorted.{Sorted, sorted-nil, sorted-cons, key-strict, key-decides, ascending-sorted, sorted-ascending, head_first, tail-sorted, sorted-map}
use Rattle.laws.specs.Truth.{all, same_test, and_right, both_true, all_true, holds}
use Rattle.operation.specs.Code.{code_of, rotation_of, rotation-digits, code-rotation, code_lt}
use Rattle.operation.specs.Composed.{operation-reduces, product_inside_lem, identity-motion}
use Rattle.operation.specs.Entries.{Entries, digits-entries, all-entries}
use Rattle.operation.specs.Meaning.{Digits, matrix_of, vector_of, motion_of}
use Rattle.operation.specs.Product.{identity_operation, product_of, operation_of}
use Rattle.operation.specs.declared.Operation.{Operation}
use Rattle.centering.specs.Letters.{points_of}
use Rattle.centering.specs.Lattices.{points, triple_of, translation_of, smallest_of}
use Rattle.centering.specs.LatticeLaws.{Smallest, smallest-is, smallest-same, congruent-lattice}
use Rattle.centering.specs.Keeps.{keeps_of, keeps-lattice}
use Rattle.centering.specs.declared.Centering.{Centering}
use Rattle.group_record.specs.Record.{Item, item≡, item_of}
use Rattle.group_record.specs.Reading.{operation_of_item, is_item, item_before, are_items, alike_items, product_listed, pair_listed, keeps_item, member_allowed, is_allowed}
use Rattle.group_record.specs.Groups.{Alike, Allowed, Form}
use Rattle.group_record.specs.ListedForm.{operation≡, code-matrix, matrix-injective, CodeBefore, form-listing}
use Rattle.group_record.specs.OneRecord.{operation-of-item}
use Rattle.group_record.specs.GroupLaws.{identity-listed}

-- ---- items
-- What 34 asks of items: codes at most 19682 that ascend, and smallest triples, below 12.
pub record GoodItems (c : Centering) (items : List Item) : Type 0 where
  pub code : (i : Item) → Mem i items → i.code < 19683
  pub smallest : (i : Item) → Mem i items → Smallest c i.translation i.translation
  pub ascend : Sorted (λ i j. i.code < j.code) items

pub item-test : (c : Centering) (i : Item) → (is_item c i ≡ true) ↔ ((i.code < 19683) × Smallest c i.translation i.translation)
unfolding is_item below_twelve
item-test c i = (forth, back)
  where
    forth : is_item c i ≡ true → (i.code < 19683) × Smallest c i.translation i.translation
    forth e =
        let (p, q) = (both_true (ltb i.code 19683) _).0 e in
        let (r, s) = (both_true (below_twelve (triple_of i.translation)) _).0 q in
        let same = triple-decides.exact _ _ (holds.1 s) in
        (ltb-true i.code 19683 p, (smallest-is c i.translation i.translation).1 (ap translation_of (sym same)))

    back : (i.code < 19683) × Smallest c i.translation i.translation → is_item c i ≡ true
    back (h, s) =
        let same : triple_of (smallest_of c i.translation) ≡ triple_of i.translation =
        ap triple_of (sym ((smallest-is c i.translation i.translation).0 s)) in
        let (x, y, z) = s.below in
        (both_true (ltb i.code 19683) _).1 (
          lt-ltb i.code 19683 h,
          (both_true (below_twelve (triple_of i.translation)) _).1 (
            (both_true (ltb i.translation.x 12) _).1 (lt-ltb _ 12 x, (both_true (ltb i.translation.y 12) _).1 (lt-ltb _ 12 y, lt-ltb _ 12 z)),
            rw same (holds.0 (triple-decides.reflexive (triple_of i.translation))),
          ),
        )

-- The smallest triple of a class is below 12, so the comparison with it decides.
pub item-by-smallest : (c : Centering) (i : Item) → i.code < 19683
    → same_triple (triple_of (smallest_of c i.translation)) (triple_of i.translation) ≡ is_item c i
unfolding is_item
item-by-smallest c i h =
    same_test _ _
    (λ t. holds.1 ((item-test c i).1 (h, (smallest-is c i.translation i.translation).1 (ap translation_of (sym (triple-decides.exact _ _ t))))))
    (λ t. and_right (below_twelve (triple_of i.translation)) _ (and_right (ltb i.code 19683) _ t))

abbrev item_key : Item → ℕ
item_key i = i.code

-- The test of 34.
pub items-test : (c : Centering) (items : List Item) → (are_items c items ≡ true) ↔ GoodItems c items
unfolding are_items
items-test c items = (
  (λ e.
      let (p, q) = (both_true (all (is_item c) items) _).0 e in
      let each = (all_true (is_item c) items).0 p in
      record {
        code = λ i m. ((item-test c i).0 (each i m)).0;
        smallest = λ i m. ((item-test c i).0 (each i m)).1;
        ascend = ascending-sorted (λ i j. i.code < j.code) (λ i. Mem i items) item_before (key-decides item_key _) (key-strict item_key) items (λ i m. m) q;
      }),
  λ g.
      (both_true (all (is_item c) items) _).1 (
        (all_true (is_item c) items).1 (λ i m. (item-test c i).1 (g.code i m, g.smallest i m)),
        sorted-ascending (λ i j. i.code < j.code) (λ i. Mem i items) item_before (key-decides item_key _) (λ i m. m) g.ascend,
      ),
)

-- An item with a code at most 19682 is that of its operation.
pub item-of-operation : (i : Item) → i.code < 19683 → item_of (operation_of_item i) ≡ i
unfolding operation_of_item
item-of-operation i h = item≡ (rw (lt-ltb i.code 19683 h) (code-rotation i.code h)) refl

item-entries : (i : Item) → i.code < 19683 → Entries (matrix_of (operation_of_item i).rotation)
unfolding operation_of_item
item-entries i h = rw (lt-ltb i.code 19683 h) ((digits-entries (rotation_of i.code)).0 (rotation-digits i.code))

pub items-of-operations : (items : List Item) → ((i : Item) → Mem i items → i.code < 19683) → map item_of (map operation_of_item items) ≡ items
items-of-operations [] h = refl
items-of-operations (i ∷ items) h =
    ap₂ (λ (j : Item) (r : List Item). j ∷ r) (item-of-operation i (h i (here refl))) (items-of-operations items (λ j m. h j (there m)))

-- Good items are those of operations in the listed form.
codes-ascend : (l : List Operation) → Sorted (λ i j. i.code < j.code) (map item_of l) → Sorted CodeBefore l
codes-ascend [] s = sorted-nil
codes-ascend (f ∷ l) s =
    sorted-cons (λ g m. head_first (λ i j. i.code < j.code) s (item_of g) (mem-map item_of m)) (codes-ascend l (tail-sorted (λ i j. i.code < j.code) s))

pub good-form : (c : Centering) (items : List Item) → GoodItems c items → Form c (map operation_of_item items)
unfolding operation_of_item
good-form c items g =
    record {
      entries = λ f m. let (i, k, e) = mem-of-map operation_of_item items m in rw (← e) (item-entries i (g.code i k));
      ascend = codes-ascend (map operation_of_item items) (rw (items-of-operations items g.code) g.ascend);
      smallest = λ f m. let (i, k, e) = mem-of-map operation_of_item items m in rw (← e) (g.smallest i k);
    }

pub form-good : (c : Centering) (l : List Operation) → Form c l → GoodItems c (map item_of l)
form-good c l F =
    record {
      code = λ i m. let (f, k, e) = mem-of-map item_of l m in rw (← e) (code_lt f.rotation ((digits-entries f.rotation).1 (F.entries f k)));
      smallest = λ i m. let (f, k, e) = mem-of-map item_of l m in rw (← e) (F.smallest f k);
      ascend = sorted-map CodeBefore (λ i j. i.code < j.code) item_of (λ f g h. h) F.ascend;
    }

-- ---- the group
-- A vector's class modulo L goes by its residues.
pub congruent-residues : (c : Centering) (u v w : Vector) → reduced u ≡ reduced v → Congruent (points_of c) v w → Congruent (points_of c) u w
congruent-residues c u v w e m =
    mem-cast (reduced-plus u (opposite w) ∙ ap (λ t. t ⊕ reduced (opposite w)) e ∙ sym (reduced-plus v (opposite w))) m

-- Two items are alike exactly if their codes are equal and their translations differ by a vector of L.
pub alike-test : (c : Centering) (f g : Operation)
    → (alike_items c (item_of f) (item_of g) ≡ true) ↔
    ((code_of f.rotation ≡ code_of g.rotation) × Congruent (points_of c) (vector_of f.translation) (vector_of g.translation))
unfolding alike_items
alike-test c f g = (
  (λ e.
      let (p, q) = (both_true (eqb (code_of f.rotation) (code_of g.rotation)) _).0 e in
      (eqb-true _ _ p, (congruent-lattice c f.translation g.translation).0 q)),
  λ (p, q). (both_true (eqb (code_of f.rotation) (code_of g.rotation)) _).1 (eq-eqb _ _ p, (congruent-lattice c f.translation g.translation).1 q),
)

-- An item is among those of a list up to L exactly if an operation of the list is alike.
listed-test : (c : Centering) (l : List Operation) (f : Operation)
    → (has (alike_items c) (item_of f) (map item_of l) ≡ true) ↔ ((g : Operation) × Mem g l × (code_of f.rotation ≡ code_of g.rotation)
    × Congruent (points_of c) (vector_of f.translation) (vector_of g.translation))
listed-test c l f = (
  forth,
  λ (g, m, p, q). (has-true (alike_items c) (item_of f) (map item_of l)).1 (item_of g, mem-map item_of m, (alike-test c f g).1 (p, q)),
)
  where
    forth : has (alike_items c) (item_of f) (map item_of l) ≡ true
        → (g : Operation) × Mem g l × (code_of f.rotation ≡ code_of g.rotation)
        × Congruent (points_of c) (vector_of f.translation) (vector_of g.translation)
    forth e =
        let (i, m, t) = (has-true (alike_items c) (item_of f) (map item_of l)).0 e in
        let (g, k, q) = mem-of-map item_of l m in
        let (p, r) = (alike-test c f g).0 (rw q t) in
        (g, k, p, r)

product-within : (f g : Operation) → Entries (compose (motion_of f) (motion_of g)).rotation
    → product_of f g ≡ Some (operation_of (compose (motion_of f) (motion_of g)))
unfolding product_of
product-within f g inside = rw ((all-entries (compose (motion_of f) (motion_of g)).rotation).1 inside)

-- A product is listed exactly if the composed motion is, modulo L.
pub product-test : (c : Centering) (l : List Operation) → ((f : Operation) → Mem f l → Entries (matrix_of f.rotation)) → (f g : Operation)
    → (product_listed c (map item_of l) (product_of f g) ≡ true) ↔ ((h : Operation) × Mem h l × Alike c (compose (motion_of f) (motion_of g)) (motion_of h))
unfolding motion_of
product-test c l entries f g = (λ e. forth (product_of f g) refl e, back)
  where
    m : SpaceMotion
    m = compose (motion_of f) (motion_of g)

    forth : (p : Option Operation) → product_of f g ≡ p → product_listed c (map item_of l) p ≡ true → (h : Operation) × Mem h l × Alike c m (motion_of h)
    forth None e t = absurd (true≢false (sym t))
    forth (Some k) e t =
        let (inside, reduces) = product_inside_lem f g k e in
        let (h, n, p, q) = (listed-test c l k).0 t in
        let same = code-matrix k.rotation h.rotation (rw reduces.rotation inside) (entries h n) p in (
          h,
          n,
          (
            sym reduces.rotation ∙ ap matrix_of same,
            congruent-residues c m.translation (vector_of k.translation) (vector_of h.translation)
                (sym reduces.translation) q,
          ),
        )

    back : (h : Operation) × Mem h l × Alike c m (motion_of h) → product_listed c (map item_of l) (product_of f g) ≡ true
    back (h, n, (p, q)) =
        let inside : Entries m.rotation = rw p (entries h n) in
        let reduces = operation-reduces m inside in
        let same : (operation_of m).rotation ≡ h.rotation =
        matrix-injective (operation_of m).rotation h.rotation (rw reduces.rotation inside) (entries h n) (reduces.rotation ∙ p) in
        rw (is-inside inside)
        ((listed-test c l (operation_of m)).1 (
          h,
          n,
          ap code_of same,
          congruent-residues c (vector_of (operation_of m).translation) m.translation (vector_of h.translation)
              reduces.translation q,
        ))
      where
        is-inside : Entries m.rotation → product_of f g ≡ Some (operation_of m)
        is-inside inside = product-within f g inside

-- The identity with (0,0,0): no other triple is the smallest of the class of (0,0,0).
pub identity-entries : Entries (matrix_of identity_operation.rotation)
identity-entries = (digits-entries identity_operation.rotation).0 digits
  where
    digits : Digits identity_operation.rotation
    digits = omega arith

pub origin-smallest : (c : Centering) → smallest_of c identity_operation.translation ≡ identity_operation.translation
origin-smallest c =
    sym ((smallest-is c identity_operation.translation identity_operation.translation).0 (record {
      below = omega arith;
      class = congruent-reflexive (points_of c) (points c) (vector_of identity_operation.translation);
      least = λ u h m. none_before (triple_of u);
    }))
  where
    none_before : (t : Triple) → ¬ Before t zero_triple
    none_before t (by-x p) = omega arith
    none_before t (by-y p q) = omega arith
    none_before t (by-z p q r) = omega arith

pub identity-test : (c : Centering) (l : List Operation) → Form c l
    → (has (alike_items c) (item_of identity_operation) (map item_of l) ≡ true) ↔ Mem identity_operation l
identity-test c l F = (
  (λ e.
      let (g, m, p, q) = (listed-test c l identity_operation).0 e in
      let rotations = code-matrix identity_operation.rotation g.rotation identity-entries (F.entries g m) p in
      let translations =
      sym (origin-smallest c) ∙ (smallest-same c identity_operation.translation g.translation).0 q
      ∙ sym ((smallest-is c g.translation g.translation).0 (F.smallest g m)) in
      mem-cast (operation≡ rotations translations) m),
  λ m. (listed-test c l identity_operation).1
      (identity_operation, m, refl, congruent-reflexive (points_of c) (points c) (vector_of identity_operation.translation)),
)

pub keeps-test : (c : Centering) (f : Operation) → Entries (matrix_of f.rotation)
    → (keeps_item c (item_of f) ≡ true) ↔ MapsOnto (points_of c) (matrix_of f.rotation)
unfolding keeps_item
keeps-test c f e =
    let same : keeps_of c (operation_of_item (item_of f)).rotation ≡ keeps_of c f.rotation =
    ap (λ (g : Operation). keeps_of c g.rotation) (operation-of-item f e) in
    ((λ t. ((keeps-lattice c f.rotation).0 (sym same ∙ t)).1), λ m. same ∙ (keeps-lattice c f.rotation).1 (e, m))

pair-of-operations : (c : Centering) (items : List Item) (f g : Operation) → Entries (matrix_of f.rotation) → Entries (matrix_of g.rotation)
    → pair_listed c items (item_of f) (item_of g) ≡ product_listed c items (product_of f g)
unfolding pair_listed
pair-of-operations c items f g d e = ap₂ (λ (h k : Operation). product_listed c items (product_of h k)) (operation-of-item f d) (operation-of-item g e)

row-test : (c : Centering) (l : List Operation) → ((f : Operation) → Mem f l → Entries (matrix_of f.rotation)) → (f : Operation) → Mem f l
    → (all (pair_listed c (map item_of l) (item_of f)) (map item_of l) ≡ true) ↔
    ((g : Operation) → Mem g l → (h : Operation) × Mem h l × Alike c (compose (motion_of f) (motion_of g)) (motion_of h))
row-test c l entries f m = (
  (λ e g k.
      let pair = (all_true (pair_listed c (map item_of l) (item_of f)) (map item_of l)).0 e (item_of g) (mem-map item_of k) in
      (product-test c l entries f g).0 (sym (pair-of-operations c (map item_of l) f g (entries f m) (entries g k)) ∙ pair)),
  λ closed.
      (all_true (pair_listed c (map item_of l) (item_of f)) (map item_of l)).1 (λ j k.
      let (g, o, q) = mem-of-map item_of l k in
      rw (← q) (pair-of-operations c (map item_of l) f g (entries f m) (entries g o) ∙ (product-test c l entries f g).1 (closed g o))),
)

-- A member is allowed exactly if its rotation maps L onto L and its products are listed modulo L.
member-test : (c : Centering) (l : List Operation) → ((f : Operation) → Mem f l → Entries (matrix_of f.rotation)) → (f : Operation) → Mem f l
    → (member_allowed c (map item_of l) (item_of f) ≡ true) ↔
    (MapsOnto (points_of c) (matrix_of f.rotation)
    × ((g : Operation) → Mem g l → (h : Operation) × Mem h l × Alike c (compose (motion_of f) (motion_of g)) (motion_of h)))
unfolding member_allowed
member-test c l entries f m = (
  (λ e.
      let (p, q) = (both_true (keeps_item c (item_of f)) _).0 e in
      ((keeps-test c f (entries f m)).0 p, (row-test c l entries f m).0 q)),
  λ (p, q). (both_true (keeps_item c (item_of f)) _).1 ((keeps-test c f (entries f m)).1 p, (row-test c l entries f m).1 q),
)

-- The test of 35: operations in the listed form, 1 to 48 of them, are allowed.
pub allowed-test : (c : Centering) (l : List Operation) → Form c l → 1 ≤ length l → length l ≤ 48
    → (is_allowed c (map item_of l) ≡ true) ↔ Allowed c (map motion_of l)
unfolding is_allowed motion_of
allowed-test c l F some few = (forth, back)
  where
    cast : (a b : SpaceMotion) (f g : Operation) → motion_of f ≡ a → motion_of g ≡ b → (h : SpaceMotion) → Alike c (compose (motion_of f) (motion_of g)) h
        → Alike c (compose a b) h
    cast a b f g u v h x = rw (← u, ← v) x

    forth : is_allowed c (map item_of l) ≡ true → Allowed c (map motion_of l)
    forth e =
        let (p, q) = (both_true (has (alike_items c) (item_of identity_operation) (map item_of l)) _).0 e in
        let member : (f : Operation) → Mem f l → _ =
        λ f m. (member-test c l F.entries f m).0 ((all_true (member_allowed c (map item_of l)) (map item_of l)).0 q (item_of f) (mem-map item_of m)) in
        record {
          count = rw (length-map l motion_of) (some, few);
          determinant = λ a m. let (f, k, u) = mem-of-map motion_of l m in
              rw (← u) (onto-unimodular (points_of c) (points c) (matrix_of f.rotation) (member f k).0);
          keeps = λ a m. let (f, k, u) = mem-of-map motion_of l m in rw (← u) (member f k).0;
          holds-identity = mem-cast (sym identity-motion) (mem-map motion_of ((identity-test c l F).0 p));
          product =
              λ a b m k.
              let (f, n, u) = mem-of-map motion_of l m in
              let (g, o, v) = mem-of-map motion_of l k in
              let (h, w, x) = (member f n).1 g o in
              (motion_of h, mem-map motion_of w, cast a b f g u v (motion_of h) x);
        }

    back : Allowed c (map motion_of l) → is_allowed c (map item_of l) ≡ true
    back A =
        (both_true (has (alike_items c) (item_of identity_operation) (map item_of l)) _).1 (
          (identity-test c l F).1 (identity-listed (form-listing c F) A.holds-identity),
          (all_true (member_allowed c (map item_of l)) (map item_of l)).1 (λ i m.
              let (f, k, e) = mem-of-map item_of l m in
              rw (← e) ((member-test c l F.entries f k).1 (A.keeps (motion_of f) (mem-map motion_of k), products f k))),
        )
      where
        products : (f : Operation) → Mem f l → (g : Operation) → Mem g l → (h : Operation) × Mem h l
            × Alike c (compose (motion_of f) (motion_of g)) (motion_of h)
        products f m g k =
            let (a, n, x) = A.product (motion_of f) (motion_of g) (mem-map motion_of m) (mem-map motion_of k) in
            let (h, o, e) = mem-of-map motion_of l n in
            (h, o, subst (λ b. Alike c (compose (motion_of f) (motion_of g)) b) (sym e) x)
