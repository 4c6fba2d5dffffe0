-- Items of a magnetic record by their places, and the search for one by its key: keys ascend, so halving finds the only place where an operation can be listed
-- with its flag.
use Rattle.std.specs.Prelude.{◌≡◌, true, false, ℕ, ◌+◌, ◌*◌, ◌<◌, ◌≤◌, eqb, leb, length, drop}
use Rattle.std.proofs.Common.{sym, ◌∙◌, subst}
use Rattle.std.proofs.Math.Path.{ap}
use mathlib.Core.List.Memᴰ.{cast as mem-cast}
use mathlib.Core.List.{List, Memᴰ as Mem}
use native.Mathlib.Omega.{arith}
use Rattle.std.proofs.Math.Decide.{ℕ_discrete, dec_lt}
use borrow.Author.Tests.{eqb-true, eq-eqb}
use Rattle.laws.specs.Distinct.{has, has-true}
use Rattle.laws.specs.Sorted.{sorted-places}
use Rattle.laws.specs.Truth.{same_test, both_true, fails, holds}
use Rattle.laws.specs.Indices.{member-at, member-index}
use Rattle.operation.specs.Code.{code_of}
use Rattle.operation.specs.declared.Operation.{Operation}
use Rattle.centering.specs.Lattices.{congruent_of}
use Rattle.centering.specs.declared.Centering.{Centering}
use Rattle.group_record.specs.Items.{items_in, items-length, item-at}
use Rattle.group_record.specs.OperationItems.{item_of, InRange}
use Rattle.group_record.specs.declared.items.Item.{Item}
use Rattle.group_record.specs.Reading.{is_item, alike_items}
use Rattle.group_record.specs.Rules.{are_good}
use Rattle.group_record.specs.Outcomes.{good-test}
use Rattle.magnetic_record.specs.SecondEdition.{MagneticItem, magnetic_in, magnetic_key}
use Rattle.magnetic_record.specs.Reading.{is_magnetic_item, half, magnetic_rules}
use Rattle.magnetic_record.specs.Halves.{with_flag, half-listed, listed-half}
use Rattle.magnetic_record.specs.Acceptance.{good-magnetic, magnetic_meaning}

-- The first n items, and the item at a place.
abbrev pub items_of : ℕ → List ℕ → List MagneticItem
items_of n bytes = items_in 6 magnetic_in n bytes

abbrev pub item_at : List ℕ → ℕ → MagneticItem
item_at bytes i = magnetic_in (drop (6 * i) bytes)

-- What 33 and 34 leave of them, by places.
pub record GoodPlaces (n : ℕ) (bytes : List ℕ) : Type 0 where
  pub few : n ≤ 96
  pub inside : 6 * n ≤ length bytes
  pub fits : (i : ℕ) → i < n → InRange (item_at bytes i).plain
  pub flag : (i : ℕ) → i < n → (item_at bytes i).flag ≤ 1
  pub ascend : (i j : ℕ) → i < j → j < n → magnetic_key (item_at bytes i) < magnetic_key (item_at bytes j)

-- ---- 34, by its parts
module _ (c : Centering) (i : MagneticItem) where
  pub not_plain : is_item c i.plain ≡ false → is_magnetic_item c i ≡ false
  unfolding is_magnetic_item
  not_plain e = rw e

  pub by_flag : is_item c i.plain ≡ true → is_magnetic_item c i ≡ leb i.flag 1
  unfolding is_magnetic_item
  by_flag e = rw e

-- ---- members and places
module _ (n : ℕ) (bytes : List ℕ) where
  pub at_place : (i : ℕ) → i < n → Mem (item_at bytes i) (items_of n bytes)
  at_place i h =
      mem-cast (sym (item-at 6 magnetic_in n bytes i (item_at bytes 0) h))
      (member-at (items_of n bytes) i (item_at bytes 0) (omega (arith, items-length 6 magnetic_in n bytes)))

  pub place_of : (k : MagneticItem) → Mem k (items_of n bytes) → (i : ℕ) × (i < n) × (item_at bytes i ≡ k)
  place_of k m =
      let (i, h, e) = member-index (item_at bytes 0) m in
      let low : i < n = omega (arith, items-length 6 magnetic_in n bytes) in
      (i, low, sym (item-at 6 magnetic_in n bytes i (item_at bytes 0) low) ∙ e)

  pub good-places : (c : Centering) → n ≤ 96 → 6 * n ≤ length bytes → are_good magnetic_rules tt c (items_of n bytes) ≡ true → GoodPlaces n bytes
  unfolding magnetic_meaning
  good-places c few inside e =
      let g = good-magnetic c (items_of n bytes) ((good-test magnetic_rules magnetic_meaning tt c (items_of n bytes)).0 e) in
      record {
        few = few;
        inside = inside;
        fits = λ i h. (g.code (item_at bytes i) (at_place i h), (g.smallest (item_at bytes i) (at_place i h)).below);
        flag = λ i h. g.flag (item_at bytes i) (at_place i h);
        ascend = λ i j h k.
            let d = item_at bytes 0 in
            let before = sorted-places _ g.ascend d i j h (omega (arith, items-length 6 magnetic_in n bytes)) in
            rw (item-at 6 magnetic_in n bytes i d (omega arith), item-at 6 magnetic_in n bytes j d k) at before;
      }

-- ---- the search by a key
-- How many keys are below a number.
pub record KeyPlace (n : ℕ) (bytes : List ℕ) (key place : ℕ) : Type 0 where
  pub within : place ≤ n
  pub below : (i : ℕ) → i < place → magnetic_key (item_at bytes i) < key
  pub above : (i : ℕ) → place ≤ i → i < n → key ≤ magnetic_key (item_at bytes i)

-- What halving has narrowed it to.
pub record Between (n : ℕ) (bytes : List ℕ) (key low high : ℕ) : Type 0 where
  pub order : low ≤ high
  pub within : high ≤ n
  pub below : (i : ℕ) → i < low → magnetic_key (item_at bytes i) < key
  pub above : (i : ℕ) → high ≤ i → i < n → key ≤ magnetic_key (item_at bytes i)

module _ (n : ℕ) (bytes : List ℕ) (G : GoodPlaces n bytes) (key low high middle : ℕ) (B : Between n bytes key low high) where
  pub lower-half : middle < high → key ≤ magnetic_key (item_at bytes middle) → low ≤ middle → Between n bytes key low middle
  lower-half h k l =
      record {
        order = l;
        within = omega (arith, B.within);
        below = B.below;
        above = λ i from to. elim (ℕ_discrete i middle) [
          | yes e ↦ rw e k
          | no e ↦ omega (arith, G.ascend middle i (omega arith) to)
        ];
      }

  pub upper-half : middle < high → magnetic_key (item_at bytes middle) < key → Between n bytes key (middle + 1) high
  upper-half h k =
      record {
        order = omega arith;
        within = B.within;
        below = λ i to. elim (ℕ_discrete i middle) [
          | yes e ↦ rw e k
          | no e ↦ omega (arith, B.within, G.ascend i middle (omega arith) (omega (arith, B.within)))
        ];
        above = B.above;
      }

-- ---- where an operation can be listed
module _ (c : Centering) (n : ℕ) (bytes : List ℕ) (G : GoodPlaces n bytes) (f : Operation) (flag : ℕ) where
  -- What is listed with the flag has the key at its place.
  listed-key : (y : Item) → Mem y (half flag (items_of n bytes)) → alike_items c (item_of f) y ≡ true
      → (i : ℕ) × (i < n) × (item_at bytes i ≡ with_flag flag y) × (magnetic_key (item_at bytes i) ≡ 2 * code_of f.rotation + flag)
      × (congruent_of c f.translation y.translation ≡ true)
  unfolding alike_items
  listed-key y m t =
      let (i, h, e) = place_of n bytes (with_flag flag y) (half-listed flag (items_of n bytes) y m) in
      let (p, q) = (both_true (eqb (code_of f.rotation) y.code) _).0 t in
      let code : code_of f.rotation ≡ y.code = eqb-true (code_of f.rotation) y.code p in
      (i, h, e, ap magnetic_key e ∙ omega arith, q)

  -- No place has the key: it is not listed.
  pub listed-nowhere : ((i : ℕ) → i < n → ¬ (magnetic_key (item_at bytes i) ≡ 2 * code_of f.rotation + flag))
      → false ≡ has (alike_items c) (item_of f) (half flag (items_of n bytes))
  listed-nowhere none =
      sym (fails _ (has-true (alike_items c) (item_of f) (half flag (items_of n bytes))) (λ (y, m, t). let (i, h, e, k, q) = listed-key y m t in none i h k))

  -- A place has the key: the class of the translation there decides.
  pub listed-there : flag ≤ 1 → (i : ℕ) → i < n → magnetic_key (item_at bytes i) ≡ 2 * code_of f.rotation + flag
      → congruent_of c f.translation (item_at bytes i).plain.translation ≡ has (alike_items c) (item_of f) (half flag (items_of n bytes))
  unfolding alike_items
  listed-there small i h k = same_test _ _ (λ t. holds.1 (back (holds.0 t))) (λ t. holds.1 (forth (holds.0 t)))
    where
      there : MagneticItem
      there = item_at bytes i

      forth : has (alike_items c) (item_of f) (half flag (items_of n bytes)) ≡ true → congruent_of c f.translation there.plain.translation ≡ true
      forth e =
          let (y, m, t) = (has-true (alike_items c) (item_of f) (half flag (items_of n bytes))).0 e in
          let (j, l, q, p, r) = listed-key y m t in
          let same : j ≡ i = one_place j l p in
          let plain : there.plain ≡ y = ap (λ (a : ℕ). (item_at bytes a).plain) (sym same) ∙ ap (λ (a : MagneticItem). a.plain) q in
          rw plain r
        where
          one_place : (j : ℕ) → j < n → magnetic_key (item_at bytes j) ≡ 2 * code_of f.rotation + flag → j ≡ i
          one_place j l p = elim (dec_lt j i) [
            | yes a ↦ absurd (omega (arith, G.ascend j i a h))
            | no a ↦ elim (dec_lt i j) [
              | yes b ↦ absurd (omega (arith, G.ascend i j b l))
              | no b ↦ omega arith
            ]
          ]

      back : congruent_of c f.translation there.plain.translation ≡ true → has (alike_items c) (item_of f) (half flag (items_of n bytes)) ≡ true
      back e =
          let bound = G.flag i h in
          let same : there.flag ≡ flag = omega arith in
          let code : code_of f.rotation ≡ there.plain.code = omega arith in
          let m : Mem there.plain (half flag (items_of n bytes)) =
          subst (λ (a : ℕ). Mem there.plain (half a (items_of n bytes))) same (listed-half (items_of n bytes) there (at_place n bytes i h)) in
          (has-true (alike_items c) (item_of f) (half flag (items_of n bytes))).1
          (there.plain, m, (both_true (eqb (code_of f.rotation) there.plain.code) _).1 (eq-eqb (code_of f.rotation) there.plain.code code, e))

  -- So the place to which halving leads decides.
  module _ (place : ℕ) (K : KeyPlace n bytes (2 * code_of f.rotation + flag) place) where
    pub past_end : n ≤ place → false ≡ has (alike_items c) (item_of f) (half flag (items_of n bytes))
    past_end far = listed-nowhere (λ i h e. omega (arith, K.below i (omega arith)))

    pub other_key : place < n → ¬ (magnetic_key (item_at bytes place) ≡ 2 * code_of f.rotation + flag)
        → false ≡ has (alike_items c) (item_of f) (half flag (items_of n bytes))
    other_key low other = listed-nowhere none
      where
        none : (i : ℕ) → i < n → ¬ (magnetic_key (item_at bytes i) ≡ 2 * code_of f.rotation + flag)
        none i h e = elim (dec_lt i place) [
          | yes a ↦ omega (arith, K.below i a)
          | no a ↦ elim (ℕ_discrete i place) [
            | yes b ↦ other (ap (λ (j : ℕ). magnetic_key (item_at bytes j)) (sym b) ∙ e)
            | no b ↦ omega (arith, K.above place (omega arith) low, G.ascend place i (omega arith) h)
          ]
        ]
