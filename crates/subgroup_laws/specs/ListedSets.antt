-- The list of the sets that pass a test, in list order (R7.2). It is given as the sorted list of all numbers
-- below 2 ^ n that pass, which says what it is and not how it is found; it is the only list that holds these sets in this order.
use Rattle.std.specs.Prelude.{◌≡◌, Bool, true, ℕ, zero, suc, ◌^◌, ◌<◌, ◌≤◌, eqb, length}
use mathlib.Core.List.{List, Memᴰ as Mem}
use Rattle.std.proofs.Common.{arith}
use Rattle.laws.specs.Distinct.{Mem→has, eqb-equivalence, pigeonhole}
use Rattle.laws.specs.ListOrder.{Precedes, precedes-strict, earlier, one_list, sort-list-order}
use Rattle.laws.specs.Sorted.{StrictOrder, Sorted, sorted-nil, sorted-cons, keep, kept-member, member-kept, sorted-keep, sorted-nodup, sort, sort-member, member-sort}
use Rattle.subgroup_laws.specs.Images.{sorted-distinct}
use Rattle.subgroup_laws.specs.SubgroupLaws.{below, below-member, member-below-list}

-- the sets of numbers below n that pass the test, in list order
unfoldable pub listed : ℕ → (ℕ → Bool) → List ℕ
listed n p = sort (earlier n) (keep p (below (2 ^ n)))

-- the numbers below m descend
below-sorted : (m : ℕ) → Sorted (λ (x y : ℕ). y < x) (below m)
unfolding below
below-sorted zero = sorted-nil
below-sorted (suc m) = sorted-cons (λ y k. member-below-list m y k) (below-sorted m)

-- that order is strict
descending : StrictOrder (λ (x y : ℕ). y < x)
descending = record { irreflexive = λ x h. omega arith; transitive = λ x y z h k. omega arith }

module _ (n : ℕ) (p : ℕ → Bool) where
  -- a listed set is one that passes
  pub listed-passes : (s : ℕ) → Mem s (listed n p) → (s < 2 ^ n) × (p s ≡ true)
  unfolding listed
  listed-passes s m =
      let (k, e) = kept-member p (below (2 ^ n)) (sort-member (earlier n) (keep p (below (2 ^ n))) m) in
      (member-below-list (2 ^ n) s k, e)

  -- each set that passes is listed
  pub passes-listed : (s : ℕ) → s < 2 ^ n → p s ≡ true → Mem s (listed n p)
  unfolding listed
  passes-listed s h e = member-sort (earlier n) (keep p (below (2 ^ n))) (member-kept p (below (2 ^ n)) (below-member (2 ^ n) s h) e)

  -- the list is in list order, so nothing is listed twice
  pub listed-sorted : Sorted Precedes (listed n p)
  unfolding listed
  listed-sorted =
      sort-list-order n (keep p (below (2 ^ n))) (λ s m. member-below-list (2 ^ n) s (kept-member p (below (2 ^ n)) m).0)
      (sorted-nodup (λ (x y : ℕ). y < x) descending (sorted-keep (λ (x y : ℕ). y < x) p (below-sorted (2 ^ n))))

  -- no other list is so
  pub listed-unique : (l : List ℕ) → Sorted Precedes l → ((s : ℕ) → Mem s l → (s < 2 ^ n) × (p s ≡ true)) → ((s : ℕ) → s < 2 ^ n → p s ≡ true → Mem s l)
      → l ≡ listed n p
  listed-unique l sorted sound complete =
      one_list sorted listed-sorted (λ s m. passes-listed s (sound s m).0 (sound s m).1) (λ s m. complete s (listed-passes s m).0 (listed-passes s m).1)

  -- a list of such sets without repeats is no longer
  pub listed-longest : (l : List ℕ) → Sorted Precedes l → ((s : ℕ) → Mem s l → (s < 2 ^ n) × (p s ≡ true)) → length l ≤ length (listed n p)
  listed-longest l sorted sound =
      pigeonhole eqb eqb-equivalence (sorted-distinct Precedes precedes-strict sorted) (listed n p)
      (λ s m. Mem→has eqb eqb-equivalence (passes-listed s (sound s m).0 (sound s m).1))
