-- What the test of refusal 35 finds on its way: columns of products, the right factors with which every product is listed, and what these decide.
-- The idea: an operation that is the product of two such right factors is one itself, so only a few columns are made of products.
use Rattle.std.specs.Prelude.{◌≡◌, refl, ◌↔◌, Bool, true, false, ℕ, ◌+◌, ◌*◌, ◌<◌, ◌≤◌, ltb, length, drop, set, replicate, None, Option, Some}
use Rattle.std.proofs.Common.{sym, ◌∙◌, ap₂, true≢false, arith, length-set, get_or-set_same, get_or-set_other}
use Rattle.std.proofs.Math.Path.{ap, subst}
use mathlib.Core.List.Memᴰ.{map as mem-map}
use mathlib.Core.List.Memᴰ.{of_map as mem-of-map}
use mathlib.Core.List.{List, [], ◌∷◌, map, Memᴰ as Mem}
use Rattle.std.proofs.Math.Decide.{ℕ_discrete}
use borrow.Author.Tests.{lt-ltb, le-ltb, ltb-true}
use Rattle.std.proofs.Math.ListN.{get_or, length-map, get_or-map}
use Rattle.std.proofs.lemmas.List.{get_or-replicate}
use Rattle.std.proofs.Math.IntN.{one}
use Rattle.laws.specs.Matrix.{times, plus, act}
use Rattle.laws.specs.Residue.{residue}
use Rattle.laws.specs.Motion.{SpaceMotion, product, compose, compose-identity}
use Rattle.laws.specs.Distinct.{has}
use Rattle.laws.specs.Growth.{place}
use Rattle.laws.specs.GrowthClosure.{place-test, place_same}
use Rattle.laws.specs.Truth.{all, true-T, T_true, both_true, all_true, fails}
use Rattle.laws.specs.Indices.{member-at, member-index}
use Rattle.operation.specs.Composed.{identity-motion, product_inside_lem}
use Rattle.operation.specs.Entries.{Entries}
use Rattle.operation.specs.Meaning.{matrix_of, vector_of, motion_of, all_inside, row_inside, inside, entry_of, digit_of, digit_above}
use Rattle.operation.specs.Product.{identity_operation, operation_of, product_of}
use Rattle.operation.specs.declared.Operation.{Operation}
use Rattle.centering.specs.Keeps.{keeps-lattice}
use Rattle.centering.specs.declared.Centering.{Centering}
use Rattle.group_record.specs.Record.{item_of}
use Rattle.group_record.specs.declared.items.Item.{Item}
use Rattle.group_record.specs.Reading.{operation_of_item, alike_items, product_listed, pair_listed, keeps_item, member_allowed, is_allowed}
use Rattle.group_record.specs.Groups.{Alike}
use Rattle.group_record.specs.ListedForm.{code-matrix, alike-reflexive, alike-symmetric}
use Rattle.group_record.specs.OneRecord.{operation-of-item}
use Rattle.group_record.specs.GroupLaws.{compose-alike}
use Rattle.group_record.specs.ReadingTests.{GoodItems, good-form, items-of-operations, item-of-operation, identity-entries}
use Rattle.group_record.specs.ReadingTests.{congruent-residues, alike-test, product-test}
use Rattle.group_record.specs.Criterion.{Right, KeepsInto, right-times}

-- ---- what is found
-- The listed operation at an index.
abbrev pub listed_at : List Operation → ℕ → Operation
listed_at l i = get_or l i identity_operation

-- The place of a product among items modulo L; their count where it is not listed.
abbrev pub product_at : Centering → List Item → Option Operation → ℕ
product_at c items (Some h) = place (alike_items c) (item_of h) items
product_at c items None = length items

-- The product of the listed operation i with g is the listed one whose index stands in slot i of the column that starts at a place.
abbrev pub Leads : Centering → List Operation → Operation → List ℕ → ℕ → ℕ → Type 0
Leads c l g columns at i =
    (get_or columns (at + i) 0 < length l) × Alike c (compose (motion_of (listed_at l i)) (motion_of g)) (motion_of (listed_at l (get_or columns (at + i) 0)))

-- So it is for all listed operations: the column of g starts there.
abbrev pub ColumnOf : Centering → List Operation → Operation → List ℕ → ℕ → Type 0
ColumnOf c l g columns at = (i : ℕ) → i < length l → Leads c l g columns at i

-- A listed operation whose product with g is not listed.
abbrev pub Lacks : Centering → List Operation → Operation → Type 0
Lacks c l g = (f : Operation) × Mem f l × ((h : Operation) → Mem h l → ¬ Alike c (compose (motion_of f) (motion_of g)) (motion_of h))

-- What is decided of the first n as right factors: with each every product is listed, or one lacks a product.
abbrev pub Decides : Centering → List Operation → ℕ → Bool → Type 0
Decides c l n r = (r ≡ true → (k : ℕ) → k < n → Right c l (listed_at l k)) × (r ≡ false → (g : Operation) × Mem g l × Lacks c l g)

-- A column that was made, or what it lacks; nothing in front of it moved.
pub record Made (c : Centering) (l : List Operation) (g : Operation) (at : ℕ) (before after : List ℕ) (full : Bool) : Type 0 where
  pub long : length after ≡ length before
  pub front : (t : ℕ) → t < at → get_or after t 0 ≡ get_or before t 0
  pub column : full ≡ true → ColumnOf c l g after at
  pub lacks : full ≡ false → Lacks c l g

-- Each of the first columns, 48 slots apart, is that of some right factor.
abbrev pub Stored : Centering → List Operation → List ℕ → ℕ → Type 0
Stored c l columns stored = (s : ℕ) → s < stored → (g : Operation) × ColumnOf c l g columns (48 * s)

-- With what was reached as right factor every product is listed: the members, and what is known.
pub record Sound (c : Centering) (l : List Operation) (known members : List ℕ) (count : ℕ) : Type 0 where
  pub broad : length known ≡ 48
  pub wide : length members ≡ 48
  pub few : count ≤ 48
  pub member : (t : ℕ) → t < count → (get_or members t 0 < length l) × Right c l (listed_at l (get_or members t 0))
  pub sure : (k : ℕ) → k < length l → get_or known k 0 ≡ 1 → Right c l (listed_at l k)

-- What widening starts from.
pub record Widening (c : Centering) (l : List Operation) (known members : List ℕ) (count : ℕ) (columns : List ℕ) (stored : ℕ) : Type 0 where
  pub short : length l ≤ 48
  pub into : KeepsInto c l
  pub sound : Sound c l known members count
  pub narrow : stored ≤ 5
  pub made : Stored c l columns stored

-- For some listed operations it starts so, and for all such it ends so.
abbrev pub Widenable : List ℕ → List ℕ → ℕ → List ℕ → ℕ → Type 0
Widenable known members count columns stored = (c : Centering) × (l : List Operation) × Widening c l known members count columns stored

abbrev pub WidenedTo : List ℕ → List ℕ → ℕ → List ℕ → ℕ → List ℕ → List ℕ → ℕ → Type 0
WidenedTo known members count columns stored wider more reached =
    (c : Centering) (l : List Operation) → Widening c l known members count columns stored → Sound c l wider more reached

-- ---- the search for an item
-- The listed operation at an index is that of the item there.
pub listed-item : (items : List Item) (i : ℕ) → listed_at (map operation_of_item items) i ≡ operation_of_item (get_or items i (item_of identity_operation))
listed-item items i =
    ap (get_or (map operation_of_item items) i) (sym (operation-of-item identity_operation identity-entries))
    ∙ get_or-map operation_of_item items i (item_of identity_operation)

module _ (same : Item → Item → Bool) (wanted : Item) (items : List Item) (i : ℕ) (x : Item) (e : drop i items ≡ x ∷ drop (i + 1) items) where
  -- It goes on behind an item that is another,
  pub place-next : same wanted x ≡ false → i + place same wanted (drop i items) ≡ i + 1 + place same wanted (drop (i + 1) items)
  unfolding place
  place-next other = rw (e, other) (omega arith)

  -- and ends at one that is the same.
  pub place-stop : same wanted x ≡ true → i + place same wanted (drop i items) ≡ i
  unfolding place
  place-stop found = rw (e, found) (omega arith)

pub place_end : (same : Item → Item → Bool) (wanted : Item) (items : List Item) (i : ℕ) → drop i items ≡ [] → i + place same wanted (drop i items) ≡ i
unfolding place
place_end same wanted items i e = rw e (omega arith)

module _ (c : Centering) (items : List Item) where
  -- The place of a product is an index exactly if it is listed.
  product-places : (p : Option Operation) → ltb (product_at c items p) (length items) ≡ product_listed c items p
  product-places (Some h) = place-test (alike_items c) (item_of h) items
  product-places None = le-ltb (length items) (length items) (omega arith)

  module _ (G : GoodItems c items) where
    abbrev listed : List Operation
    listed = map operation_of_item items

    entries : (f : Operation) → Mem f listed → Entries (matrix_of f.rotation)
    entries = (good-form c items G).entries

    -- What stands at the place of an operation is alike to it.
    pub place-alike : (k : Operation) → Entries (matrix_of k.rotation) → place (alike_items c) (item_of k) items < length items
        → Alike c (motion_of k) (motion_of (listed_at (map operation_of_item items) (place (alike_items c) (item_of k) items)))
    unfolding motion_of
    place-alike k inside low =
        let r = place (alike_items c) (item_of k) items in
        let there = true-T (sym (place-test (alike_items c) (item_of k) items) ∙ lt-ltb r (length items) low) in
        let i = get_or items r (item_of identity_operation) in
        let m = member-at items r (item_of identity_operation) low in
        let near = T_true (place_same (alike_items c) (item_of k) items (item_of identity_operation) there) in
        let h = operation_of_item i in
        let (code, class) = (alike-test c k h).0 (ap (alike_items c (item_of k)) (item-of-operation i (G.code i m)) ∙ near) in
        let same = code-matrix k.rotation h.rotation inside (entries h (mem-map operation_of_item m)) code in
        rw (listed-item items r) (ap matrix_of same, class)

    module _ (f g : Operation) where
      abbrev sought : SpaceMotion
      sought = compose (motion_of f) (motion_of g)

      product-hit : (p : Option Operation) → product_of f g ≡ p → product_at c items p < length items
          → Alike c sought (motion_of (listed_at listed (product_at c items p)))
      unfolding motion_of
      product-hit None e low = absurd (omega arith)
      product-hit (Some k) e low =
          let (inside, reduces) = product_inside_lem f g k e in
          let (rotation, class) = place-alike k (rw reduces.rotation inside) low in
          (sym reduces.rotation ∙ rotation, congruent-residues c sought.translation (vector_of k.translation) _ (sym reduces.translation) class)

      -- What stands at the place of a product is the product modulo L,
      pub product_found : (r : ℕ) → r ≡ product_at c items (product_of f g) → r < length items
          → Alike c (compose (motion_of f) (motion_of g)) (motion_of (listed_at (map operation_of_item items) r))
      product_found r e low = rw e (product-hit (product_of f g) refl (omega (arith, e)))

      -- and one without a place is not listed.
      pub product-missing : (r : ℕ) → r ≡ product_at c items (product_of f g) → length items ≤ r → (h : Operation) → Mem h (map operation_of_item items)
          → ¬ Alike c (compose (motion_of f) (motion_of g)) (motion_of h)
      product-missing r e far h m near =
          let there = rw (items-of-operations items G.code) at ((product-test c listed entries f g).1 (h, m, near)) in
          let low = ltb-true (product_at c items (product_of f g)) (length items) (product-places (product_of f g) ∙ there) in
          omega (arith, e)

      module _ (i : ℕ) (here : f ≡ listed_at (map operation_of_item items) i) (r : ℕ) (e : r ≡ product_at c items (product_of f g)) where
        -- So the product of the operation at an index is told by its place,
        pub index-found : r < length items
            → Alike c (compose (motion_of (listed_at (map operation_of_item items) i)) (motion_of g)) (motion_of (listed_at (map operation_of_item items) r))
        index-found low = subst (λ (x : Operation). Alike c (compose (motion_of x) (motion_of g)) (motion_of (listed_at listed r))) here (product_found r e low)

        -- and g lacks one that has none.
        pub index-lacks : i < length items → length items ≤ r → Lacks c (map operation_of_item items) g
        index-lacks low far =
            let m = member-at listed i identity_operation (omega (arith, length-map items operation_of_item)) in
            (f, subst (λ (x : Operation). Mem x listed) (sym here) m, product-missing r e far)

-- ---- a column
module _ (c : Centering) (l : List Operation) (g : Operation) where
  -- One more product found stands in the column.
  pub column-next : (columns : List ℕ) (at i k : ℕ) → at + i < length columns → ((j : ℕ) → j < i → Leads c l g columns at j) → k < length l
      → Alike c (compose (motion_of (listed_at l i)) (motion_of g)) (motion_of (listed_at l k)) → (j : ℕ) → j < i + 1
      → Leads c l g (set columns (at + i) k) at j
  column-next columns at i k inside before h found j lt = elim (ℕ_discrete j i) [
    | yes e ↦ rw (e, get_or-set_same columns (at + i) k 0 inside) (h, found)
    | no e ↦ rw (get_or-set_other columns (at + i) (at + j) k 0 (λ (q : at + j ≡ at + i). e (omega arith))) (before j (omega arith))
  ]

  -- With the right factor of a column every product is listed.
  pub column-right : (columns : List ℕ) (at : ℕ) → ColumnOf c l g columns at → Right c l g
  column-right columns at column f m =
      let (i, h, e) = member-index identity_operation m in
      let (low, alike) = column i h in (
        listed_at l (get_or columns (at + i) 0),
        member-at l (get_or columns (at + i) 0) identity_operation low,
        subst (λ (x : Operation). Alike c (compose (motion_of x) (motion_of g)) (motion_of (listed_at l (get_or columns (at + i) 0)))) e alike,
      )

-- Columns in front of another stay.
pub stored_next : (c : Centering) (l : List Operation) (g : Operation) (stored : ℕ) (before after : List ℕ) (full : Bool) → length l ≤ 48
    → Stored c l before stored
    → Made c l g (48 * stored) before after full → full ≡ true → Stored c l after (stored + 1)
stored_next c l g stored before after full short S M e s lt = elim (ℕ_discrete s stored) [
  | yes q ↦ rw q (g, M.column e)
  | no q ↦ let (h, column) = S s (omega arith) in (h, λ i k. rw (M.front (48 * s + i) (omega arith)) (column i k))
]

-- One right factor more.
pub right-next : (c : Centering) (l : List Operation) (j : ℕ) → ((k : ℕ) → k < j → Right c l (listed_at l k)) → Right c l (listed_at l j)
    → (k : ℕ) → k < j + 1 → Right c l (listed_at l k)
right-next c l j before R k lt = elim (ℕ_discrete k j) [
  | yes e ↦ subst (λ (i : ℕ). Right c l (listed_at l i)) (sym e) R
  | no e ↦ before k (omega arith)
]

-- ---- widening
-- A column leads from what was reached to what may be reached.
pub reaches : (c : Centering) (l : List Operation) → KeepsInto c l → (p : ℕ) (g : Operation) (columns : List ℕ) (at : ℕ) → p < length l
    → Right c l (listed_at l p)
    → ColumnOf c l g columns at → (get_or columns (at + p) 0 < length l) × Right c l (listed_at l (get_or columns (at + p) 0))
reaches c l into p g columns at h R column =
    let (low, alike) = column p h in
    (low, right-times c l into (listed_at l p) g (listed_at l (get_or columns (at + p) 0)) R (column-right c l g columns at column) alike)

-- One operation alone,
pub only-sound : (c : Centering) (l : List Operation) (e : ℕ) → length l ≤ 48 → e < length l → Right c l (listed_at l e)
    → Sound c l (set (replicate 48 0) e 1) (set (replicate 48 0) 0 e) 1
only-sound c l e few h R =
    record {
      broad = length-set {A = ℕ} (replicate 48 0) e 1;
      wide = length-set {A = ℕ} (replicate 48 0) 0 e;
      few = omega arith;
      member = λ t lt. let first : t ≡ 0 = omega arith in rw first (h, R);
      sure = λ k lt is. elim (ℕ_discrete k e) [
        | yes q ↦ rw q R
        | no q ↦ absurd (omega (arith, is, get_or-set_other {A = ℕ} (replicate 48 0) e k 1 0 q, get_or-replicate {A = ℕ} 48 k 0 0 (omega arith)))
      ];
    }

-- and one more that is reached.
pub sound-next : (c : Centering) (l : List Operation) (known members : List ℕ) (count q : ℕ) → Sound c l known members count → count < 48 → q < length l
    → Right c l (listed_at l q) → Sound c l (set known q 1) (set members count q) (count + 1)
sound-next c l known members count q S room h R =
    record {
      broad = length-set known q 1 ∙ S.broad;
      wide = length-set members count q ∙ S.wide;
      few = omega arith;
      member = λ t lt. elim (ℕ_discrete t count) [
        | yes e ↦ rw (e, get_or-set_same members count q 0 (omega (arith, S.wide))) (h, R)
        | no e ↦ rw (get_or-set_other members count t q 0 e) (S.member t (omega arith))
      ];
      sure = λ k lt is. elim (ℕ_discrete k q) [
        | yes e ↦ rw e R
        | no e ↦ S.sure k lt (sym (get_or-set_other known q k 1 0 e) ∙ is)
      ];
    }

-- ---- the decision
-- The identity's square is the identity.
identity-square : product_of identity_operation identity_operation ≡ Some identity_operation
unfolding product_of operation_of motion_of all_inside row_inside inside product times matrix_of entry_of one digit_of residue digit_above plus act vector_of
identity-square = refl

module _ (c : Centering) (items : List Item) where
  -- Every product is listed.
  abbrev AllListed : Type 0
  AllListed = (i j : Item) → Mem i items → Mem j items → pair_listed c items i j ≡ true

  -- What is allowed, in three parts.
  allowed-parts : (is_allowed c items ≡ true) ↔ ((has (alike_items c) (item_of identity_operation) items ≡ true) × (all (keeps_item c) items ≡ true)
      × AllListed)
  unfolding is_allowed member_allowed
  allowed-parts = (
    (λ e.
        let (p, q) = (both_true (has (alike_items c) (item_of identity_operation) items) _).0 e in
        let member : (i : Item) → Mem i items → _ = λ i m. (both_true (keeps_item c i) _).0 ((all_true (member_allowed c items) items).0 q i m) in
        (p, (all_true (keeps_item c) items).1 (λ i m. (member i m).0), λ i j m k. (all_true (pair_listed c items i) items).0 (member i m).1 j k)),
    λ (p, q, r).
        (both_true (has (alike_items c) (item_of identity_operation) items) _).1 (
          p,
          (all_true (member_allowed c items) items).1 (λ i m.
              (both_true (keeps_item c i) _).1 ((all_true (keeps_item c) items).0 q i m, (all_true (pair_listed c items i) items).1 (λ j k. r i j m k))),
        ),
  )

  -- A rotation that does not keep L is not allowed.
  pub lost : all (keeps_item c) items ≡ false → false ≡ is_allowed c items
  lost e = sym (fails (is_allowed c items) allowed-parts (λ (p, q, r). true≢false (sym q ∙ e)))

  -- The identity is sought as its own square.
  pub unit-place : product_at c items (product_of identity_operation identity_operation) ≡ place (alike_items c) (item_of identity_operation) items
  unit-place = ap (product_at c items) identity-square

  -- A list without it is not allowed.
  pub without-identity : (e : ℕ) → e ≡ place (alike_items c) (item_of identity_operation) items → length items ≤ e → false ≡ is_allowed c items
  without-identity e at far =
      sym (fails (is_allowed c items) allowed-parts (λ (p, q, r).
      let low = ltb-true _ (length items) (place-test (alike_items c) (item_of identity_operation) items ∙ p) in
      omega (arith, at)))

  -- Operations that keep L map it into L.
  pub keep-into : all (keeps_item c) items ≡ true → KeepsInto c (map operation_of_item items)
  unfolding keeps_item motion_of
  keep-into keep f m =
      let (i, k, e) = mem-of-map operation_of_item items m in
      rw (← e) ((keeps-lattice c (operation_of_item i).rotation).0 ((all_true (keeps_item c) items).0 keep i k)).1.0

  module _ (G : GoodItems c items) where
    -- With the identity as right factor every product is listed.
    pub unit-right : KeepsInto c (map operation_of_item items) → (e : ℕ) → e ≡ place (alike_items c) (item_of identity_operation) items → e < length items
        → Right c (map operation_of_item items) (listed_at (map operation_of_item items) e)
    unit-right into e at low f m =
        let unit = listed_at (map operation_of_item items) e in
        let near : Alike c (motion_of identity_operation) (motion_of unit) =
        rw at (place-alike c items G identity_operation identity-entries (omega (arith, at))) in
        let moved = compose-alike c (motion_of f) (motion_of f) (motion_of identity_operation) (motion_of unit) (into f m) (alike-reflexive c (motion_of f))
        near in
        let back = alike-symmetric c _ _ moved in
        (f, m, subst (Alike c (compose (motion_of f) (motion_of unit))) (ap (compose (motion_of f)) identity-motion ∙ compose-identity (motion_of f)) back)

    -- Where with each operation as right factor every product is listed, all products are;
    all-pairs : ((k : ℕ) → k < length items → Right c (map operation_of_item items) (listed_at (map operation_of_item items) k)) → AllListed
    unfolding pair_listed
    all-pairs right i j m k =
        let l = map operation_of_item items in
        let (t, h, e) = member-index identity_operation (mem-map operation_of_item k) in
        let R = subst (Right c l) e (right t (omega (arith, length-map items operation_of_item))) in
        let f = operation_of_item i in
        let there = (product-test c l (good-form c items G).entries f (operation_of_item j)).1 (R f (mem-map operation_of_item m)) in
        rw (items-of-operations items G.code) at there

    -- and where one lacks a product, not all are.
    no_pairs : (g : Operation) → Mem g (map operation_of_item items) → Lacks c (map operation_of_item items) g → ¬ AllListed
    unfolding pair_listed
    no_pairs g m (f, k, none) every =
        let l = map operation_of_item items in
        let (j, o, e) = mem-of-map operation_of_item items m in
        let (i, n, d) = mem-of-map operation_of_item items k in
        let product = product_of (operation_of_item i) (operation_of_item j) in
        let there = ap (λ (x : List Item). product_listed c x product) (items-of-operations items G.code) ∙ every i j n o in
        let (h, w, near) = (product-test c l (good-form c items G).entries (operation_of_item i) (operation_of_item j)).0 there in
        none h w (subst (λ (x : SpaceMotion). Alike c x (motion_of h)) (ap₂ (λ (x y : Operation). compose (motion_of x) (motion_of y)) d e) near)

    -- So what was found of the right factors decides.
    pub decided : all (keeps_item c) items ≡ true → (e : ℕ) → e ≡ place (alike_items c) (item_of identity_operation) items → e < length items
        → (r : Bool) → Decides c (map operation_of_item items) (length items) r → r ≡ is_allowed c items
    decided keep e at low true (right, lacks) =
        let there = sym (place-test (alike_items c) (item_of identity_operation) items) ∙ lt-ltb _ (length items) (omega (arith, at)) in
        sym (allowed-parts.1 (there, keep, all-pairs (right refl)))
    decided keep e at low false (right, lacks) =
        let (g, m, none) = lacks refl in
        sym (fails (is_allowed c items) allowed-parts (λ (p, q, r). no_pairs g m none r))
