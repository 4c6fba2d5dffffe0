-- The permutation of a subgroup's members by an element of its normalizer: each position stands in it once, and it moves products to products.
use Rattle.std.specs.Prelude.{◌≡◌, true, ℕ, ◌<◌, get_or}
use Rattle.std.proofs.Common.{sym, ap, ap₂, ◌∙◌, subst}
use native.Mathlib.Omega.{arith}
use Rattle.std.specs.Int.Count.{ones, ones_in}
use Rattle.std.proofs.Math.ListN.{length}
use Rattle.laws.specs.Sets.{member, members, members-length, members-sorted, members-position, position-below, ones_below, listed-member}
use Rattle.laws.specs.Sorted.{StrictOrder, one_place}
use Rattle.laws.specs.Indices.{member-at, image-at}
use Rattle.subgroup_laws.specs.Conjugation.{conjugate-product, conjugate-source, conjugate-holds, conjugate-element-below, conjugate-back}
use Rattle.subgroup_laws.specs.Groups.{Group, inverse_of}
use Rattle.subgroup_laws.specs.Permutations.{permutation_of, position_of, permutation-entry}
use Rattle.subgroup_laws.specs.Subsets.{Subgroup, conjugate_element, conjugate_of}

-- the numbers ascend
ascending : StrictOrder ◌<◌
ascending = record { irreflexive = λ x h. omega arith; transitive = λ x y z h k. omega arith }

module _ (n : ℕ) (◌·◌ : ℕ → ℕ → ℕ) (e : ℕ) (G : Group n ◌·◌ e) (h g : ℕ) (H : Subgroup n ◌·◌ e h) (l : g < n) (keeps : conjugate_of n ◌·◌ e h g ≡ h) where
  infixl 70 ◌·◌
  -- member i
  abbrev pub member_at : ℕ → ℕ
  member_at i = get_or (members n h) i 0

  -- entry i of the permutation
  abbrev pub entry_at : ℕ → ℕ
  entry_at i = get_or (permutation_of n ◌·◌ e h g) i 0

  -- there are as many members as ones
  size : length (members n h) ≡ ones h
  size = members-length n h ∙ sym (ones_below n h H.small)

  -- a member's place in the list is that of an element of the subgroup
  listed-at : (i : ℕ) → i < ones h → (member_at i < n) × (member h (member_at i) ≡ true)
  listed-at i k = listed-member n h (member_at i) (member-at (members n h) i 0 (let q = size in omega arith))

  -- what entry i names is member i, conjugated
  entry_named : (i : ℕ) → i < ones h → member_at (entry_at i) ≡ conjugate_element n ◌·◌ e (member_at i) g
  entry_named i k = permutation-entry n ◌·◌ e G h g i H.small l keeps k

  -- products are moved to products
  pub permutation-product : (i j k : ℕ) → i < ones h → j < ones h → k < ones h
      → member_at i · member_at j ≡ member_at k → member_at (entry_at i) · member_at (entry_at j) ≡ member_at (entry_at k)
  permutation-product i j k p q r s =
      ap₂ (λ (x y : ℕ). x · y) (entry_named i p) (entry_named j q)
      ∙ sym (conjugate-product n ◌·◌ e G (member_at i) (member_at j) g (listed-at i p).0 (listed-at j q).0 l)
      ∙ ap (λ (x : ℕ). conjugate_element n ◌·◌ e x g) s ∙ sym (entry_named k r)

  -- a position of a member
  pub permutation-below : (i : ℕ) → i < ones h → entry_at i < ones h
  unfolding permutation_of position_of
  permutation-below i k =
      let (m, j) = listed-at i k in
      let long : i < length (members n h) = let q = size in omega arith in
      let named = conjugate_element n ◌·◌ e (member_at i) g in
      let at = image-at (position_of n ◌·◌ e h g) (members n h) i 0 0 long in
      let low = position-below n h named (conjugate-element-below n ◌·◌ e G (member_at i) g m l)
      (subst (λ (s : ℕ). member s named ≡ true) keeps (conjugate-holds n ◌·◌ e G h g (member_at i) H.small l j)) in
      let q = size in omega arith

  -- two members at one place are at equal places
  same_place : (i j : ℕ) → i < ones h → j < ones h → member_at i ≡ member_at j → i ≡ j
  same_place i j k m q =
      let s = size in one_place ◌<◌ ascending (members-sorted n h) 0 i j (omega arith) (omega arith) q

  -- no two entries are equal
  pub permutation-once : (i j : ℕ) → i < ones h → j < ones h → entry_at i ≡ entry_at j → i ≡ j
  permutation-once i j k m q =
      let (a, u) = listed-at i k in
      let (b, v) = listed-at j m in
      same_place i j k m
      (sym (conjugate-back n ◌·◌ e G (member_at i) g a l)
      ∙ ap (λ (x : ℕ). conjugate_element n ◌·◌ e x (inverse_of n ◌·◌ e g)) (sym (entry_named i k) ∙ ap member_at q ∙ entry_named j m)
      ∙ conjugate-back n ◌·◌ e G (member_at j) g b l)

  -- each position is an entry
  pub permutation-onto : (j : ℕ) → j < ones h → (i : ℕ) × (i < ones h) × (entry_at i ≡ j)
  permutation-onto j k =
      let (a, u) = listed-at j k in
      let (x, b, v, q) = conjugate-source n ◌·◌ e G h g (member_at j) (subst (λ (s : ℕ). member s (member_at j) ≡ true) (sym keeps) u) in
      let place = ones_in x h in
      let low : place < ones h = let p = position-below n h x b v in let s = size in omega arith in (
        place,
        low,
        same_place (entry_at place) j (permutation-below place low) k
            (entry_named place low ∙ ap (λ (y : ℕ). conjugate_element n ◌·◌ e y g) (members-position n h x 0 b v) ∙ q),
      )
